use Rattle.std.specs.Prelude.{map}
use Rattle.dwarf_entries.specs.Structures.{children_with}
use Rattle.dwarf_entries.specs.Types.{case_of, is_enumerator}
use Rattle.dwarf_types.specs.Said.{IsNamed}
use Rattle.dwarf_types.proofs.Lists.{AreLeftOf}
use Rattle.dwarf_types.proofs.cases.cases_of.Given as goal

-- the cases so far, and those that are left among the children
abbrev pub invariant-loop-child : goal.invariant-loop-child
invariant-loop-child l =
    AreLeftOf is_enumerator l.die.info (IsNamed l.die.info) (case_of l.die.info l.prim) l.cases l.child-iterator
    (map (case_of l.die.info l.prim) (children_with is_enumerator l.die.info l.die.die))
