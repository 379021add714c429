use Rattle.std.specs.Prelude.{map}
use Rattle.cv_type_defs.specs.Enumerations.{case_rule}
use Rattle.cv_type_defs.specs.Items.{lowest}
use Rattle.cv_structures.proofs.Growing.{IsLowest}
use Rattle.cv_structures.proofs.enumerations.cases_rule.Given as goal

-- the lowest so far, and the rules of the cases that are left
abbrev pub invariant-loop-case : goal.invariant-loop-case
invariant-loop-case l = IsLowest (case_rule l.prim) l.low l.case-iterator (lowest (map (case_rule l.prim) l.fn.cases))
