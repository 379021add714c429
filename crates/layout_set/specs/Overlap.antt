-- Spans of bytes, each a begin and a length.
use Rattle.std.specs.Prelude.{ℕ, ◌+◌, ◌≤◌, ◌⊎◌, List, map, filter, nat_lt}
use Rattle.std.specs.List.{AllPairs}
use Rattle.layout_set.specs.declared.set.Field.{Field}
use Rattle.layout_set.specs.declared.set.TypeDef.{TypeDef}
use Rattle.layout_set.specs.Sizes.{size}

-- the first ends where the second begins, or before
abbrev pub Before : ℕ × ℕ → ℕ × ℕ → Type 0
Before a b = a.0 + a.1 ≤ b.0

-- the two don't overlap
abbrev pub Apart : ℕ × ℕ → ℕ × ℕ → Type 0
Apart a b = Before a b ⊎ Before b a

-- no two overlap
unfoldable pub AreApart : List (ℕ × ℕ) → Type 0
AreApart spans = AllPairs Apart spans

-- the bytes of a field
abbrev pub span_of : ℕ → List TypeDef → Field → ℕ × ℕ
span_of ptr types field = (field.off, size ptr types field.ty)

-- the bytes of the fields of size at least 1
abbrev pub spans_of : ℕ → List TypeDef → List Field → List (ℕ × ℕ)
spans_of ptr types fields = filter (λ s. nat_lt 0 s.1) (map (span_of ptr types) fields)
