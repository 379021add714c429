-- The lowest of some addresses.
use Rattle.std.proofs.Common.{◌≡◌, ℕ, ◌-◌, ◌^◌, min, List, [], ◌∷◌, arith}
use Rattle.layout_set.specs.Law14.{lowest}

-- the last address there is changes nothing
pub lowest_at_first : (places : List ℕ) → min (2 ^ 64 - 1) (lowest places) ≡ lowest places
lowest_at_first [] = omega arith
lowest_at_first (place ∷ places) = let e : min (2 ^ 64 - 1) (lowest places) ≡ lowest places = lowest_at_first places in omega (arith, e)
