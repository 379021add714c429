-- Series of values are read exactly, one value a turn.
use Rattle.std.proofs.Common.{◌≡◌, ◌<◌, ◌≤◌, ℕ, zero, suc, ◌+◌, ◌-◌, ◌==◌, true, false, List, [], ◌∷◌, ◌++◌, length, map, refl, sym, ap, subst, ◌∙◌, arith, append_assoc, append-nil, length-append, eq-eqb}
use Rattle.std.proofs.lemmas.Bool.{ne_eqb}
use Rattle.rv_bytes.specs.Forms.{Form, row, RowSpells}
use Rattle.rv_bytes.specs.Readers.{Res, got, bad, Reader, with_value}
use Rattle.rv_bytes.proofs.Exact.{Right, Exact, made_exact}
use Rattle.rv_bytes.proofs.Rows.{HasBytes, AllExact, row_exact}
use Rattle.rv_bytes.proofs.Turns.{shorter, row_over, row_next, row_bad}
use Rattle.cv_parts.specs.Series.{Sized, sized, series, values, to_end, count_down, so_many}
use Rattle.cv_parts.specs.RecordReaders.{measured, read_sized, read_series, read_to_end, read_all, read_so_many}
use Rattle.cv_parts.proofs.Fields.{HasByte}

-- a value with the count of its bytes
pub sized_exact : {A : Type 0} (F : Form ℕ A) (f : Reader ℕ A) → Exact F f → Exact (sized F) (read_sized f)
sized_exact {A} F f e = record {
  reads = λ n w t k h. ap (measured n) (e.reads n w.value t k h.0) ∙ again n w t k h.1;
  refuses = λ n s r m h. ap (measured n) (e.refuses n s r m h);
  right = λ n s. whole n s (f n s) (e.right n s);
}
  where
    of_size : A → ℕ → Sized A
    of_size v size = record { value = v; size = size }

    again : (n : ℕ) (w : Sized A) (t k : List ℕ) → w.size ≡ length t → ◌≡◌ {A = Res ℕ (Sized A)} (got (of_size w.value (n + length t - n)) (n + length t) k) (got w (n + length t) k)
    again n w t k h = ap (λ z. got (of_size w.value z) (n + length t) k) (let e : n + length t - n ≡ w.size = omega (arith, h) in e)

    whole : (n : ℕ) (s : List ℕ) (x : Res ℕ A) → Right F n s x → Right (sized F) n s (measured n x)
    whole n s (got v m k) h = let e : m - n ≡ length h.0 = omega (arith, h.1.1.1) in (h.0, ((h.1.0, e), (h.1.1.0, h.1.1.1)))
    whole n s (bad r m) h = h

-- each form of a series has a byte, and an exact reader
abbrev pub AllHaveByte : {A : Type 0} → (ℕ → Form ℕ A) → Type 0
AllHaveByte F = (left : ℕ) → HasByte (F left)

abbrev pub AreExact : {A : Type 0} → (ℕ → Form ℕ A) → (ℕ → Reader ℕ A) → Type 0
AreExact F f = (left : ℕ) → Exact (F left) (f left)

pub series_bytes : {A : Type 0} (F : ℕ → Form ℕ A) → AllHaveByte F → HasBytes (series F)
series_bytes F b s n v t o h = b s n v.value t h.0

pub series_all : {A : Type 0} (F : ℕ → Form ℕ A) (f : ℕ → Reader ℕ A) → AreExact F f → AllExact (series F) (λ left. read_sized (f left))
series_all F f e s o = sized_exact (F s) (f s) (e s)

pub to_end_exact : {A : Type 0} (F : ℕ → Form ℕ A) (f : ℕ → Reader ℕ A) → AllHaveByte F → AreExact F f → (size : ℕ) → Exact (to_end F size) (read_to_end f size)
to_end_exact F f b e size = made_exact values (row (series F) size) (read_series f size) (row_exact (series F) (λ left. read_sized (f left)) 0 (series_bytes F b) (series_all F f e) size)

-- a count that the test for 0 holds of is 0
zero_of : (m : ℕ) → (m == 0) ≡ true → m ≡ 0
zero_of zero h = refl
zero_of (suc m) h = let e : false ≡ true = sym (ne_eqb (suc m) 0 (λ x. absurd (omega (arith, x)))) ∙ h in absurd (cc)

-- the test fails of a length above 0
not_over : {X : Type 0} (s : List X) → 0 < length s → (length s == 0) ≡ false
not_over s l = ne_eqb (length s) 0 (λ z. absurd (omega (arith, l, z)))

-- a series has at least as many bytes as were left
pub series_long : {A : Type 0} (F : ℕ → Form ℕ A) (left n : ℕ) (ws : List (Sized A)) (t : List ℕ) → RowSpells (series F) left n ws t → left ≤ length t
series_long F left n [] t h = let e : left ≡ 0 = zero_of left h.0 in omega (arith, e)
series_long F left n (w ∷ ws) t h =
    let p = h.1 in
    let more : left - w.size ≤ length p.back = series_long F (left - w.size) (n + length p.front) ws p.back p.is_back in
    let size : w.size ≡ length p.front = p.is_front.1 in
    omega (arith, more, size, ap length p.split, length-append p.front p.back)

-- one value and the rest of the series
pub all_next : {A : Type 0} (F : ℕ → Form ℕ A) (f : ℕ → Reader ℕ A) → AllHaveByte F → AreExact F f → (n : ℕ) (s : List ℕ) (v : A) (m : ℕ) (k : List ℕ) → 0 < length s → f (length s) n s ≡ got v m k
    → read_all f n s ≡ with_value (λ vs. v ∷ vs) (read_all f m k)
all_next {A} F f b e n s v m k l h =
    let w : Sized A = record { value = v; size = m - n } in
    let right = subst (Right (F (length s)) n s) h ((e (length s)).right n s) in
    let left : length s - (m - n) ≡ length k = omega (arith, right.1.1.1, ap length right.1.1.0, length-append right.0 k) in
    ap (with_value values) (row_next (series F) (λ left. read_sized (f left)) 0 (series_bytes F b) (series_all F f e) (length s) n s w m k (not_over s l) (ap (measured n) h))
    ∙ moved w (read_series f (length s - (m - n)) m k)
    ∙ ap (λ z. with_value (λ vs. v ∷ vs) (read_to_end f z m k)) left
  where
    moved : (w : Sized A) (x : Res ℕ (List (Sized A))) → with_value values (with_value (λ ws. w ∷ ws) x) ≡ with_value (λ vs. w.value ∷ vs) (with_value values x)
    moved w (got ws m k) = refl
    moved w (bad r m) = refl

-- no byte is left
pub all_over : {A : Type 0} (F : ℕ → Form ℕ A) (f : ℕ → Reader ℕ A) (n : ℕ) (s : List ℕ) → length s ≡ 0 → read_all f n s ≡ got [] n s
all_over F f n s l = ap (with_value values) (row_over (series F) (λ left. read_sized (f left)) 0 (length s) n s (eq-eqb (length s) 0 l))

-- the next value is invalid
pub all_bad : {A : Type 0} (F : ℕ → Form ℕ A) (f : ℕ → Reader ℕ A) (n : ℕ) (s : List ℕ) (r m : ℕ) → 0 < length s → f (length s) n s ≡ bad r m → read_all f n s ≡ bad r m
all_bad F f n s r m l h = ap (with_value values) (row_bad (series F) (λ left. read_sized (f left)) 0 (length s) n s r m (not_over s l) (ap (measured n) h))

-- each value takes bytes
pub takes_bytes : {A : Type 0} (F : Form ℕ A) (f : Reader ℕ A) → HasByte F → Exact F f → (n : ℕ) (s : List ℕ) (v : A) (m : ℕ) (k : List ℕ) → f n s ≡ got v m k → length k < length s
takes_bytes F f b e n s v m k h =
    let right = subst (Right F n s) h (e.right n s) in
    let one : 0 < length right.0 = b n v right.0 right.1.0 in
    omega (arith, one, ap length right.1.1.0, length-append right.0 k)

-- A loop's invariant: what was read, before what is still to be read, is the whole. Of each list g keeps what p keeps of its values.
pub keeps_on : {A B : Type 0} (F : ℕ → Form ℕ A) (f : ℕ → Reader ℕ A) → AllHaveByte F → AreExact F f → (g : List A → List B) (p : A → List B) → ((v : A) (vs : List A) → g (v ∷ vs) ≡ p v ++ g vs)
    → (whole : Res ℕ (List B)) (acc : List B) (n : ℕ) (s : List ℕ) (v : A) (m : ℕ) (k : List ℕ)
    → with_value (λ vs. acc ++ g vs) (read_all f n s) ≡ whole → 0 < length s → f (length s) n s ≡ got v m k → with_value (λ vs. (acc ++ p v) ++ g vs) (read_all f m k) ≡ whole
keeps_on {A} {B} F f b e g p law whole acc n s v m k h l r =
    moved (read_all f m k) ∙ ap (with_value (λ vs. acc ++ g vs)) (sym (all_next F f b e n s v m k l r)) ∙ h
  where
    moved : (x : Res ℕ (List A)) → with_value (λ vs. (acc ++ p v) ++ g vs) x ≡ with_value (λ vs. acc ++ g vs) (with_value (λ vs. v ∷ vs) x)
    moved (got vs m k) = ap (λ z. got z m k) (append_assoc acc (p v) (g vs) ∙ ap (λ z. acc ++ z) (sym (law v vs)))
    moved (bad r m) = refl

pub keeps_end : {A B : Type 0} (F : ℕ → Form ℕ A) (f : ℕ → Reader ℕ A) (g : List A → List B) → g [] ≡ [] → (whole : Res ℕ (List B)) (acc : List B) (n : ℕ) (s : List ℕ)
    → with_value (λ vs. acc ++ g vs) (read_all f n s) ≡ whole → length s ≡ 0 → whole ≡ got acc n s
keeps_end F f g none whole acc n s h l =
    sym h ∙ ap (with_value (λ vs. acc ++ g vs)) (all_over F f n s l) ∙ ap (λ z. got z n s) (ap (λ z. acc ++ z) none ∙ append-nil acc)

pub keeps_bad : {A B : Type 0} (F : ℕ → Form ℕ A) (f : ℕ → Reader ℕ A) (g : List A → List B) → (whole : Res ℕ (List B)) (acc : List B) (n : ℕ) (s : List ℕ) (r m : ℕ)
    → with_value (λ vs. acc ++ g vs) (read_all f n s) ≡ whole → 0 < length s → f (length s) n s ≡ bad r m → whole ≡ bad r m
keeps_bad F f g whole acc n s r m h l e = sym h ∙ ap (with_value (λ vs. acc ++ g vs)) (all_bad F f n s r m l e)

-- A series that is read takes all bytes.
pub all_taken : {A : Type 0} (F : ℕ → Form ℕ A) (f : ℕ → Reader ℕ A) → AllHaveByte F → AreExact F f → (n : ℕ) (s : List ℕ) (vs : List A) (m : ℕ) (k : List ℕ) → read_all f n s ≡ got vs m k → k ≡ []
all_taken F f b e n s vs m k h =
    let w = subst (Right (to_end F (length s)) n s) h ((to_end_exact F f b e (length s)).right n s) in
    let many : length s ≤ length w.0 = series_long F (length s) n w.1.0.0 w.0 w.1.0.1.1 in
    none k (omega (arith, many, ap length w.1.1.0, length-append w.0 k))
  where
    none : {X : Type 0} (l : List X) → length l ≡ 0 → l ≡ []
    none [] h = refl
    none (x ∷ l) h = absurd (omega (arith, h))

-- What an exact reader reads to the end is spelled.
pub spelled_whole : {A : Type 0} (F : Form ℕ A) (f : Reader ℕ A) → Exact F f → (n : ℕ) (s : List ℕ) (v : A) (m : ℕ) (k : List ℕ) → f n s ≡ got v m k → k ≡ [] → F.spells n v s
spelled_whole F f e n s v m k h l =
    let w = subst (Right F n s) h (e.right n s) in
    subst (F.spells n v) (sym (w.1.1.0 ∙ ap (λ z. w.0 ++ z) l ∙ append-nil w.0)) w.1.0

-- so many values
pub many_bytes : {A : Type 0} (F : Form ℕ A) → HasByte F → HasBytes (count_down F)
many_bytes F b s n v t o h = b n v t h

pub many_all : {A : Type 0} (F : Form ℕ A) (f : Reader ℕ A) → Exact F f → AllExact (count_down F) (λ _. f)
many_all F f e s o = e

pub so_many_exact : {A : Type 0} (F : Form ℕ A) (f : Reader ℕ A) → HasByte F → Exact F f → (count : ℕ) → Exact (so_many F count) (read_so_many f count)
so_many_exact F f b e count = row_exact (count_down F) (λ _. f) 0 (many_bytes F b) (many_all F f e) count
