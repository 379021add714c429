-- Readers, for proofs: what was read, the place after it and what follows, or the rule and the place of the first fault.
use Rattle.std.specs.Prelude.{ℕ, zero, suc, Bool, if◌then◌else◌, List, [], ◌∷◌, length, Option, Some, None}

-- what a reader gives
pub data Res (M A : Type 0) : Type 0 where
  got : A → ℕ → List ℕ → Res M A
  bad : ℕ → M → Res M A

-- of a place and the bytes from there on
abbrev pub Reader : Type 0 → Type 0 → Type 0
Reader M A = ℕ → List ℕ → Res M A

-- a value, then what it asks for
abbrev pub and_then : {M A B : Type 0} → Res M A → (A → Reader M B) → Res M B
and_then (got v n k) f = f v n k
and_then (bad r m) f = bad r m

-- the value that f makes of one
abbrev pub with_value : {M A B : Type 0} → (A → B) → Res M A → Res M B
with_value f (got v n k) = got (f v) n k
with_value f (bad r m) = bad r m

-- for each of a list a value
abbrev pub read_each : {M X A : Type 0} → (X → Reader M A) → List X → Reader M (List A)
read_each f [] n s = got [] n s
read_each f (x ∷ xs) n s = and_then (f x n s) (λ a m k. with_value (λ more. a ∷ more) (read_each f xs m k))

-- refused by this rule, if there is one
abbrev pub unless_broken : {M A : Type 0} → Option ℕ → M → Res M A → Res M A
unless_broken None m x = x
unless_broken (Some r) m x = bad r m

-- one item, which begins at place n
abbrev pub as_item : {A : Type 0} → (A → Option ℕ) → ℕ → Res ℕ A → Res ℕ A
as_item breaks n (got v m k) = unless_broken (breaks v) n (got v m k)
as_item breaks n (bad r m) = bad r n

-- values one after the other; the number bounds the turns
unfoldable pub rows : {S A M : Type 0} → (S → Bool) → (S → Reader M A) → (S → A → S) → M → ℕ → S → Reader M (List A)
rows over read next here zero s n t = bad 0 here
rows over read next here (suc f) s n t = if over s then got [] n t else and_then (read s n t) (λ v m k. with_value (λ vs. v ∷ vs) (rows over read next here f (next s v) m k))

-- a row of values, each of which has a byte
abbrev pub read_row : {S A M : Type 0} → (S → Bool) → (S → Reader M A) → (S → A → S) → M → S → Reader M (List A)
read_row over read next here s n t = rows over read next here (suc (length t)) s n t
