-- The rules of locations, by their numbers.
use Rattle.std.specs.Prelude.{ℕ}

-- a number is none of its field
abbrev pub no_fit : ℕ
no_fit = 34
