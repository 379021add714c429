-- Lists of numbers, and differences modulo a power of two.
use Rattle.std.specs.Prelude.{◌≢◌, ℕ, ◌+◌, ◌-◌, ◌%◌, List, [], ◌∷◌}
use Rattle.std.specs.List.{AllPairs}

-- no two are equal
unfoldable pub AreDistinct : List ℕ → Type 0
AreDistinct numbers = AllPairs (λ a b. a ≢ b) numbers

-- number - from, modulo `count`, which both are below
abbrev pub difference_of : ℕ → ℕ → ℕ → ℕ
difference_of count from number = (number + count - from) % count

-- the last number, or this one where there is none
abbrev pub last_of : ℕ → List ℕ → ℕ
last_of number [] = number
last_of number (next ∷ rest) = last_of next rest
