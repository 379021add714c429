-- Numbers by their digits.
use Rattle.std.specs.Prelude.{ℕ, ◌+◌, ◌-◌, ◌*◌, ◌^◌, ◌&&◌, nat_le, if◌then◌else◌, true, List, Option, Some, None}
use Rattle.names.specs.Reading.{digits_after, number}
use Rattle.names.specs.Words.{is_digit}
use Rattle.cv_type_defs.specs.Texts.{whole_of}

-- the number with one more digit, if it is one and the number isn't past the greatest
abbrev pub grown_by : ℕ → ℕ → ℕ → Option ℕ
grown_by most n c = if is_digit c && nat_le (n * 10 + (c - 48)) most then Some (n * 10 + (c - 48)) else None

-- the number with all these digits behind it
abbrev pub whole_after : ℕ → ℕ → List ℕ → Option ℕ
whole_after most n text = whole_of (digits_after most n text)

-- the number of 32 bits that a text is
abbrev pub whole_number : List ℕ → Option ℕ
whole_number text = whole_of ((number true (2 ^ 32 - 1)).read text)
