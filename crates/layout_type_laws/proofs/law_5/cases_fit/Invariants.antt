use Rattle.std.specs.List.{AllWithin}
use Rattle.layout_set.specs.Law5.{FitsTag}
use Rattle.layout_type_laws.proofs.law_5.cases_fit.Given as goal

abbrev pub invariant-loop-case : goal.invariant-loop-case
invariant-loop-case l = AllWithin (λ c. FitsTag 8 l.fn.tag c.number) l.cases 0 l.case-index
