use Rattle.std.specs.Prelude.{map}
use Rattle.cv_type_defs.specs.Enumerations.{case_of, case_rule}
use Rattle.cv_structures.proofs.Growing.{AreLeft}
use Rattle.cv_structures.proofs.enumerations.cases_of.Given as goal

-- the cases so far, and those that are left
abbrev pub invariant-loop-case : goal.invariant-loop-case
invariant-loop-case l = AreLeft (case_rule l.prim) (case_of l.prim) l.made l.case-iterator (map (case_of l.prim) l.fn.cases)
