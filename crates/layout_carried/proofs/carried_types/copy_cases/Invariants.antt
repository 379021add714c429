use Rattle.std.proofs.Common.{◌≡◌, take}
use Rattle.layout_carried.proofs.carried_types.copy_cases.Given as goal

-- the cases so far are copied
abbrev pub invariant-loop-case : goal.invariant-loop-case
invariant-loop-case l = l.found ≡ take l.case-index l.cases
