-- Bytes, numbers of so many bytes, LEB128 numbers (DWARF 5, 7.6), and texts up to a zero byte (7.5.5, "string").
use Rattle.std.specs.Prelude.{◌≡◌, ◌≢◌, ◌<◌, ℕ, ◌+◌, ◌-◌, ◌*◌, ◌%◌, ◌^◌, ◌≤◌, ◌==◌, ◌||◌, ◌&&◌, ◌-ℤ◌, ℤ, pos, nat_lt, nat_le, if◌then◌else◌, Bool, true, false, List, [], ◌∷◌, ◌++◌, length, drop, slice_index, Option, Some, None, ◌⊎◌}
use Rattle.std.specs.List.{All}
use Rattle.byteorder.specs.Endian.{little_number}
use Rattle.std.specs.Str.{is_utf8}
use Rattle.rv_bytes.specs.Rules.{short, wide, no_zero, no_text}
use Rattle.rv_bytes.specs.Forms.{Form, made, item}

-- so many bytes; too few are short where they begin
abbrev pub bytes : ℕ → Form ℕ (List ℕ)
bytes w = record {
  spells = λ n v t. (v ≡ t) × (length t ≡ w);
  faults = λ n s r m. (length s < w) × ((r ≡ short) × (m ≡ n));
}

-- a number of so many bytes, the lowest first
abbrev pub number : ℕ → Form ℕ ℕ
number w = made (little_number w) (bytes w)

-- groups of seven bits: each byte but the last is 128 or more, and the last is below. At most ten, and the tenth is one
-- that may stand there.
pub record AreGroups (tenth : ℕ → Bool) (t : List ℕ) : Type 0 where
  pub front : List ℕ
  pub last : ℕ
  pub bytes : t ≡ front ++ last ∷ []
  pub go_on : All (λ b. 128 ≤ b) front
  pub ends : last < 128
  pub at_most_ten : length front ≤ 9
  pub may_be_tenth : length front ≡ 9 → tenth last ≡ true

-- the first byte is a number's only group
abbrev pub IsLowByte : List ℕ → ℕ → Type 0
IsLowByte s b = (b < 128) × (s ≡ b ∷ drop 1 s)

-- fewer than ten bytes, and all go on
pub record AreShort (s : List ℕ) : Type 0 where
  pub few : length s < 10
  pub go_on : All (λ b. 128 ≤ b) s

-- nine bytes that go on, and a tenth that goes on too, or that may not stand there
pub record AreWide (tenth : ℕ → Bool) (s : List ℕ) : Type 0 where
  pub front : List ℕ
  pub byte : ℕ
  pub back : List ℕ
  pub bytes : s ≡ front ++ byte ∷ back
  pub nine : length front ≡ 9
  pub go_on : All (λ b. 128 ≤ b) front
  pub wrong : (128 ≤ byte) ⊎ (tenth byte ≡ false)

-- no groups stand at place n: it is short, or it is wide, and begins here
abbrev pub LebFaults : (ℕ → Bool) → ℕ → List ℕ → ℕ → ℕ → Type 0
LebFaults tenth n s r m = (m ≡ n) × (((r ≡ short) × AreShort s) ⊎ ((r ≡ wide) × AreWide tenth s))

-- A tenth byte has one bit of 64, and those past it: of an unsigned number it is 0 or 1, and of a signed one, whose bits
-- past the 64th are all its sign, 0 or 127.
abbrev pub zero_or : ℕ → ℕ → Bool
zero_or high b = b == 0 || b == high

-- the number in the low seven bits of each byte, the first byte lowest
abbrev pub low_bits : List ℕ → ℕ
low_bits [] = 0
low_bits (b ∷ t) = b % 128 + 128 * low_bits t

-- the same as two's complement: bit 6 of the last byte is the sign
abbrev pub signed_bits : List ℕ → ℤ
signed_bits t = if nat_lt (slice_index t (length t - 1)) 64 then pos (low_bits t) else pos (low_bits t) -ℤ pos (2 ^ (7 * length t))

-- the bytes are an unsigned LEB128 number below 2^64
abbrev pub IsUleb : ℕ → List ℕ → Type 0
IsUleb n t = AreGroups (zero_or 1) t × (n ≡ low_bits t)

-- the bytes are a signed LEB128 number of at most 64 bits
abbrev pub IsSleb : ℤ → List ℕ → Type 0
IsSleb z t = AreGroups (zero_or 127) t × (z ≡ signed_bits t)

-- the form of an unsigned LEB128 number
abbrev pub uleb : Form ℕ ℕ
uleb = record { spells = λ n v t. IsUleb v t; faults = LebFaults (zero_or 1) }

-- the form of a signed LEB128 number
abbrev pub sleb : Form ℕ ℤ
sleb = record { spells = λ n v t. IsSleb v t; faults = LebFaults (zero_or 127) }

-- no byte is 0
abbrev pub LacksZero : List ℕ → Type 0
LacksZero t = All (λ b. b ≢ 0) t

-- the bytes before a zero byte, which ends the text and is no part of the value
abbrev pub zero_text : Form ℕ (List ℕ)
zero_text = record {
  spells = λ n v t. (t ≡ v ++ 0 ∷ []) × LacksZero v;
  faults = λ n s r m. LacksZero s × ((r ≡ no_zero) × (m ≡ n));
}

-- the rule that bytes break as a text, which is UTF-8 of at most 65,535 bytes
abbrev pub text_breaks : List ℕ → Option ℕ
text_breaks v = if nat_le (length v) 65535 && is_utf8 v then None else Some no_text

-- a text, and the zero byte that ends it and is no part of the value
abbrev pub text : Form ℕ (List ℕ)
text = item zero_text text_breaks
