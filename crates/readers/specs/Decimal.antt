-- Decimal numbers as words.
use Rattle.std.specs.Prelude.{◌≡◌, ◌≢◌, ℕ, ℤ, ◌<◌, ◌^◌, List, Option, Some, None}
use Rattle.std.specs.Fmt.{decimal, signed_decimal}
use Rattle.std.specs.Int.RustNames.{FitsSigned}
use Rattle.std.specs.Int.{w128}

-- the number below 2 ^ 128 that the word spells, without leading zeros
abbrev pub SpellsDecimal : List ℕ → Option ℕ → Type 0
SpellsDecimal word (Some n) = (n < 2 ^ 128) × (word ≡ decimal n)
SpellsDecimal word None = (n : ℕ) → n < 2 ^ 128 → word ≢ decimal n

-- the number of 128 bits with a sign that the word spells; there is no `-0`
abbrev pub SpellsSigned : List ℕ → Option ℤ → Type 0
SpellsSigned word (Some z) = FitsSigned w128 z × (word ≡ signed_decimal z)
SpellsSigned word None = (z : ℤ) → FitsSigned w128 z → word ≢ signed_decimal z
