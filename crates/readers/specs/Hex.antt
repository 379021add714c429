-- Hexadecimal numbers as words.
use Rattle.std.specs.Prelude.{◌≡◌, ◌≢◌, ◌⊎◌, ℕ, ◌<◌, ◌≤◌, ◌^◌, All, nat_lt, nat_le, ◌&&◌, ◌||◌, ◌==◌, not, Bool, true, length, take, slice_index, [], ◌∷◌, List, ◌++◌, drop, Option, Some, None, if◌then◌else◌, false, codes}
pub use Rattle.rv_io.specs.Numbers.{hex_text}
use Rattle.std.specs.Str.{bytes_eq}
use Rattle.std.specs.Str.Parse.{digits_value}

-- the number below 2 ^ 64 that the word spells
abbrev pub SpellsHex : List ℕ → Option ℕ → Type 0
SpellsHex word (Some n) = (n < 2 ^ 64) × (word ≡ hex_text n)
SpellsHex word None = (n : ℕ) → n < 2 ^ 64 → word ≢ hex_text n

-- that number, as a function
unfoldable pub hex_of : List ℕ → Option ℕ
hex_of word =
    let n = digits_value 16 (drop 2 word) in
    if nat_lt n (2 ^ 64) && bytes_eq word (hex_text n) then Some n else None

-- the same of numbers below 2 ^ 128
abbrev pub SpellsWideHex : List ℕ → Option ℕ → Type 0
SpellsWideHex word (Some n) = (n < 2 ^ 128) × (word ≡ hex_text n)
SpellsWideHex word None = (n : ℕ) → n < 2 ^ 128 → word ≢ hex_text n

-- that number, as a function
unfoldable pub wide_hex_of : List ℕ → Option ℕ
wide_hex_of word =
    let n = digits_value 16 (drop 2 word) in
    if nat_lt n (2 ^ 128) && bytes_eq word (hex_text n) then Some n else None

-- a test of a digit, and of all digits
abbrev pub is_lower_digit : ℕ → Bool
is_lower_digit c = (nat_le 48 c && nat_le c 57) || (nat_le 97 c && nat_le c 102)

abbrev pub are_lower_digits : List ℕ → Bool
are_lower_digits [] = true
are_lower_digits (c ∷ cs) = is_lower_digit c && are_lower_digits cs

-- a hexadecimal digit in lower case
abbrev pub IsLowerDigit : ℕ → Type 0
IsLowerDigit c = ((48 ≤ c) × (c ≤ 57)) ⊎ ((97 ≤ c) × (c ≤ 102))

-- the word spells a number of any size: `0x` and one or more digits in lower case, of which the first is `0` only where it stands alone
pub record IsHexNumber (word : List ℕ) : Type 0 where
  pub digits : List ℕ
  pub text : word ≡ codes "0x" ++ digits
  pub some : 0 < length digits
  pub first : (length digits ≡ 1) ⊎ (slice_index digits 0 ≢ 48)
  pub each : All IsLowerDigit digits

-- the same, as a test
abbrev pub is_hex_word : List ℕ → Bool
is_hex_word word =
    let digits = drop 2 word in
    bytes_eq (take 2 word) (codes "0x") && (nat_lt 0 (length digits) && ((length digits == 1) || not (slice_index digits 0 == 48)) && are_lower_digits digits)

-- a number of at most 64 bits
abbrev pub narrow : Option ℕ → Option ℕ
narrow None = None
narrow (Some n) = if nat_lt n (2 ^ 64) then Some n else None
