use Rattle.dwarf_entries.specs.Structures.{is_param_tag, param_of, params_of}
use Rattle.dwarf_types.specs.Said.{IsNamed}
use Rattle.dwarf_types.proofs.Lists.{AreLeftOf}
use Rattle.dwarf_types.proofs.params.params_of.Given as goal

-- the params so far, and those that are left among the children
abbrev pub invariant-loop-child : goal.invariant-loop-child
invariant-loop-child l = AreLeftOf is_param_tag l.links (IsNamed l.links) (param_of l.links) l.params l.child-iterator (params_of l.links l.die.die)
