-- One step along a list, and one element more at its end.
use Rattle.std.proofs.Common.{◌≡◌, ℕ, ◌+◌, ◌<◌, List, ◌∷◌, length, get_or, drop}
use Rattle.rv_io.proofs.Steps.{drop_step}

-- what is left from an index on is the element there, and what is left after it
pub left_step : {A : Type 0} (xs : List A) (i : ℕ) (x : A) → i < length xs → x ≡ get_or xs i x → drop i xs ≡ x ∷ drop (i + 1) xs
left_step xs i x h e = drop_step xs i x h e
