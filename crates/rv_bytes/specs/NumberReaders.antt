-- The readers of bytes and numbers, for proofs.
use Rattle.std.specs.Prelude.{ℕ, zero, suc, ◌+◌, ◌==◌, nat_le, nat_lt, Bool, if◌then◌else◌, ℤ, pos, List, [], ◌∷◌, length, take, drop, Option, Some, None, Result, Ok, Err}
use Rattle.std.specs.List.{position}
use Rattle.byteorder.specs.Endian.{little_number}
use Rattle.rv_bytes.specs.Rules.{short, wide, no_zero, unknown_leaf}
use Rattle.rv_bytes.specs.Readers.{Res, got, bad, Reader, and_then, with_value, as_item}
use Rattle.rv_bytes.specs.Numbers.{zero_or, low_bits, signed_bits, text_breaks}
use Rattle.rv_bytes.specs.Leaves.{leaf_of, leaf_value}
use Rattle.rv_bytes.specs.declared.numeric.Leaf.{Leaf}

-- so many bytes
abbrev pub read_bytes : ℕ → Reader ℕ (List ℕ)
read_bytes w n s = if nat_le w (length s) then got (take w s) (n + w) (drop w s) else bad short n

-- a number of so many bytes
abbrev pub read_number : ℕ → Reader ℕ ℕ
read_number w n s = with_value (little_number w) (read_bytes w n s)

-- one group more
abbrev pub one_more : Result ℕ ℕ → Result ℕ ℕ
one_more (Ok l) = Ok (suc l)
one_more (Err r) = Err r

-- how many bytes a number has, of at most so many and one
unfoldable pub groups_in : (ℕ → Bool) → ℕ → List ℕ → Result ℕ ℕ
groups_in tenth more [] = Err short
groups_in tenth zero (b ∷ s) = if nat_lt b 128 then (if tenth b then Ok 1 else Err wide) else Err wide
groups_in tenth (suc more) (b ∷ s) = if nat_lt b 128 then Ok 1 else one_more (groups_in tenth more s)

-- the bytes that were counted, or the rule that they break
abbrev pub cut_off : ℕ → List ℕ → Result ℕ ℕ → Res ℕ (List ℕ)
cut_off n s (Ok l) = got (take l s) (n + l) (drop l s)
cut_off n s (Err r) = bad r n

-- the bytes of a LEB128 number
abbrev pub read_groups : (ℕ → Bool) → Reader ℕ (List ℕ)
read_groups tenth n s = cut_off n s (groups_in tenth 9 s)

-- an unsigned LEB128 number
abbrev pub read_uleb : Reader ℕ ℕ
read_uleb n s = with_value low_bits (read_groups (zero_or 1) n s)

-- a signed LEB128 number
abbrev pub read_sleb : Reader ℕ ℤ
read_sleb n s = with_value signed_bits (read_groups (zero_or 127) n s)

-- where the first zero byte is
abbrev pub first_zero : List ℕ → Option ℕ
first_zero s = position (λ b. b == 0) s

-- the bytes before a zero byte at index i
abbrev pub text_to : ℕ → List ℕ → Option ℕ → Res ℕ (List ℕ)
text_to n s None = bad no_zero n
text_to n s (Some i) = got (take i s) (n + suc i) (drop (suc i) s)

-- the bytes before a zero byte
abbrev pub read_zero_text : Reader ℕ (List ℕ)
read_zero_text n s = text_to n s (first_zero s)

-- a text before a zero byte
abbrev pub read_text : Reader ℕ (List ℕ)
read_text n s = as_item text_breaks n (read_zero_text n s)

-- what follows a kind from 0x8000 on
abbrev pub read_by_leaf : Option Leaf → Reader ℕ ℤ
read_by_leaf None n s = bad unknown_leaf n
read_by_leaf (Some l) n s = with_value (leaf_value l) (read_number l.width n s)

-- what follows the kind of a numeric leaf
abbrev pub read_leaf : ℕ → Reader ℕ ℤ
read_leaf kind n s = if nat_lt kind 0x8000 then got (pos kind) n s else read_by_leaf (leaf_of kind) n s

-- a numeric leaf
abbrev pub read_numeric : Reader ℕ ℤ
read_numeric n s = as_item (λ _. None) n (and_then (read_number 2 n s) read_leaf)
