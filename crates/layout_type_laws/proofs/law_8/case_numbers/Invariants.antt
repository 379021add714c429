use Rattle.std.proofs.Common.{◌≡◌, take}
use Rattle.layout_set.specs.Law8.{case_numbers}
use Rattle.layout_type_laws.proofs.law_8.case_numbers.Given as goal

abbrev pub invariant-loop-case : goal.invariant-loop-case
invariant-loop-case l = l.numbers.items ≡ case_numbers (take l.case-index l.cases)
