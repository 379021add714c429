use Rattle.std.proofs.Common.{◌+◌, ◌-◌, ◌^◌, ◌≤◌}
use Rattle.std.specs.List.{AllWithin}
use Rattle.layout_set.specs.Law14.{lowest}
use Rattle.layout_func_laws.proofs.distances.are_close.Given as goal

abbrev pub invariant-loop-place : goal.invariant-loop-place
invariant-loop-place l = AllWithin (λ place. place ≤ lowest l.places + (2 ^ 32 - 1)) l.places 0 l.place-index
