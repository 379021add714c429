-- The turns of a loop that reads so many values.
use Rattle.std.proofs.Common.{◌≡◌, ◌<◌, ◌≤◌, ℕ, ◌-◌, ◌==◌, true, false, List, [], ◌∷◌, ◌++◌, arith, eq-eqb}
use Rattle.std.proofs.lemmas.Bool.{ne_eqb}
use Rattle.rv_bytes.specs.Forms.{Form}
use Rattle.rv_bytes.specs.Readers.{Res, got, bad, Reader, with_value}
use Rattle.rv_bytes.proofs.Exact.{Exact}
use Rattle.rv_bytes.proofs.Turns.{done, failed, goes_on}
use Rattle.cv_parts.specs.Series.{count_down}
use Rattle.cv_parts.specs.RecordReaders.{read_so_many}
use Rattle.cv_parts.proofs.Fields.{HasByte}
use Rattle.cv_parts.proofs.Series.{many_bytes, many_all}

-- values are left where the count is above 0
left_over : (left : ℕ) → 0 < left → (left == 0) ≡ false
left_over left h = ne_eqb left 0 (λ e. absurd (omega (arith, e, h)))

-- one value more
pub many_on : {A : Type 0} (F : Form ℕ A) (f : Reader ℕ A) → HasByte F → Exact F f → (whole : Res ℕ (List A)) (acc : List A) (left n : ℕ) (s : List ℕ) (v : A) (m : ℕ) (k : List ℕ)
    → with_value (λ vs. acc ++ vs) (read_so_many f left n s) ≡ whole → 0 < left → f n s ≡ got v m k → with_value (λ vs. (acc ++ v ∷ []) ++ vs) (read_so_many f (left - 1) m k) ≡ whole
many_on F f b e whole acc left n s v m k h l r = goes_on (count_down F) (λ _. f) 0 (many_bytes F b) (many_all F f e) whole acc left n s v m k h (left_over left l) r

-- none is left
pub many_end : {A : Type 0} (F : Form ℕ A) (f : Reader ℕ A) (whole : Res ℕ (List A)) (acc : List A) (left n : ℕ) (s : List ℕ) → with_value (λ vs. acc ++ vs) (read_so_many f left n s) ≡ whole → left ≤ 0 → whole ≡ got acc n s
many_end F f whole acc left n s h l = done (count_down F) (λ _. f) 0 whole acc left n s h (eq-eqb left 0 (let e : left ≡ 0 = omega (arith, l) in e))

-- the next value is invalid
pub many_bad : {A : Type 0} (F : Form ℕ A) (f : Reader ℕ A) (whole : Res ℕ (List A)) (acc : List A) (left n : ℕ) (s : List ℕ) (r m : ℕ) → with_value (λ vs. acc ++ vs) (read_so_many f left n s) ≡ whole → 0 < left → f n s ≡ bad r m → whole ≡ bad r m
many_bad F f whole acc left n s r m h l e = failed (count_down F) (λ _. f) 0 whole acc left n s r m h (left_over left l) e
