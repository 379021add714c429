-- Numeric leaves of CodeView, LF_NUMERIC: a kind in two bytes, which is the number itself below 0x8000, and else says how
-- the number is laid out after it.
use Rattle.std.specs.Prelude.{ℕ, ◌-◌, ◌*◌, ◌^◌, suc, ◌==◌, nat_lt, ℤ, pos, negsuc, Bool, true, false, if◌then◌else◌, List, [], ◌∷◌, ◌++◌, Option, Some, None}
use Rattle.std.specs.List.{find}
use Rattle.byteorder.specs.Endian.{twos_complement, little_bytes}
use Rattle.rv_bytes.specs.Rules.{unknown_leaf}
use Rattle.rv_bytes.specs.Forms.{Form, nothing, follow, made, item, choose, fails}
use Rattle.rv_bytes.specs.Numbers.{number}
use Rattle.rv_bytes.specs.declared.numeric.Leaf.{Leaf}

-- a kind, how many bytes its number has, and whether that is in two's complement
abbrev pub leaf : ℕ → ℕ → Bool → Leaf
leaf kind width is_signed = record { kind = kind; width = width; is_signed = is_signed }

-- LF_CHAR, LF_SHORT, LF_LONG and LF_QUADWORD, in two's complement
abbrev pub signed_leaves : List Leaf
signed_leaves = leaf 0x8000 1 true ∷ leaf 0x8001 2 true ∷ leaf 0x8003 4 true ∷ leaf 0x8009 8 true ∷ []

-- LF_USHORT, LF_ULONG and LF_UQUADWORD
abbrev pub unsigned_leaves : List Leaf
unsigned_leaves = leaf 0x8002 2 false ∷ leaf 0x8004 4 false ∷ leaf 0x800a 8 false ∷ []

-- the leaf of a kind
abbrev pub leaf_of : ℕ → Option Leaf
leaf_of kind = find (λ l. l.kind == kind) (signed_leaves ++ unsigned_leaves)

-- the number that the bits of a leaf are
abbrev pub leaf_value : Leaf → ℕ → ℤ
leaf_value l bits = if l.is_signed then twos_complement l.width bits else pos bits

-- what follows a kind from 0x8000 on
abbrev pub leaf_form : Option Leaf → Form ℕ ℤ
leaf_form None = fails unknown_leaf
leaf_form (Some l) = made (leaf_value l) (number l.width)

-- the kind itself is the number, or it says how the number is laid out
abbrev pub behind_kind : ℕ → Form ℕ ℤ
behind_kind kind = choose (nat_lt kind 0x8000) (nothing (pos kind)) (leaf_form (leaf_of kind))

-- what is invalid in a numeric leaf stands at its first byte
abbrev pub numeric : Form ℕ ℤ
numeric = item (follow (number 2) behind_kind) (λ _. None)

-- whether a leaf holds the number n, or -1 - n
abbrev pub holds : ℤ → Leaf → Bool
holds (pos n) l = nat_lt n (2 ^ (8 * l.width))
holds (negsuc n) l = nat_lt n (2 ^ (8 * l.width - 1))

-- the number's two's complement in 64 bits
abbrev pub word_of : ℤ → ℕ
word_of (pos n) = n
word_of (negsuc n) = 2 ^ 64 - suc n

-- the narrowest leaf that holds the number: of the signed ones where it is negative
abbrev pub narrowest : ℤ → Option Leaf
narrowest (pos n) = find (holds (pos n)) unsigned_leaves
narrowest (negsuc n) = find (holds (negsuc n)) signed_leaves

-- the bytes of a number in a leaf
abbrev pub leaf_bytes : ℤ → Option Leaf → List ℕ
leaf_bytes z None = []
leaf_bytes z (Some l) = little_bytes 2 l.kind ++ little_bytes l.width (word_of z)

-- the first form that holds the number: its kind alone, or the narrowest leaf
abbrev pub numeric_bytes : ℤ → List ℕ
numeric_bytes (pos n) = if nat_lt n 0x8000 then little_bytes 2 n else leaf_bytes (pos n) (narrowest (pos n))
numeric_bytes (negsuc n) = leaf_bytes (negsuc n) (narrowest (negsuc n))
