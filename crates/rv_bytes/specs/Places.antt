-- The bytes from a place on.
use Rattle.std.specs.Prelude.{ℕ, List}

-- `at` counts the bytes in front of `rest`
pub record Place : Type 0 where
  pub at : ℕ
  pub rest : List ℕ
