-- One turn of a loop that reads a row.
use Rattle.std.proofs.Common.{◌≡◌, ◌<◌, ◌≤◌, ℕ, suc, true, false, List, [], ◌∷◌, ◌++◌, length, refl, sym, ap, subst, ◌∙◌, arith, append_assoc, append-nil, length-append, map}
use Rattle.rv_bytes.specs.Forms.{Steps, row}
use Rattle.rv_bytes.specs.Readers.{Res, got, bad, Reader, and_then, with_value, rows, read_row}
use Rattle.rv_bytes.proofs.Exact.{Right}
use Rattle.rv_bytes.proofs.Rows.{HasBytes, AllExact, rows_over, rows_more, rows_read, rows_refuse, rows_right, spells_fewer, faults_fewer}

-- the number that bounds the turns doesn't matter
pub same_rows : {S A M : Type 0} (P : Steps S A M) (read : S → Reader M A) (here : M) → HasBytes P → AllExact P read → (f g : ℕ) (s : S) (n : ℕ) (t : List ℕ) → length t < f → length t < g
    → rows P.over read P.next here f s n t ≡ rows P.over read P.next here g s n t
same_rows {S} {A} {M} P read here b e f g s n t h l = by_right (rows P.over read P.next here f s n t) (rows_right P read here b e f s n t h)
  where
    by_right : (x : Res M (List A)) → Right (row P s) n t x → x ≡ rows P.over read P.next here g s n t
    by_right (got vs m k) w =
        let few : length vs ≤ length w.0 = spells_fewer P b s n vs w.0 w.1.0 in
        ap (λ j. got vs j k) w.1.1.1 ∙ sym (rows_read P read here e g s n vs w.0 k (omega (arith, few, l, ap length w.1.1.0, length-append w.0 k)) w.1.0)
        ∙ ap (rows P.over read P.next here g s n) (sym w.1.1.0)
    by_right (bad r m) w =
        let few : length w.0 ≤ length t = faults_fewer P b s n w.0 t r m w.1 in
        sym (rows_refuse P read here e g s n w.0 t r m (omega (arith, few, l)) w.1)

pub shorter : {S A M : Type 0} (P : Steps S A M) (read : S → Reader M A) → HasBytes P → AllExact P read → (s : S) (n : ℕ) (t : List ℕ) (v : A) (m : ℕ) (k : List ℕ) → P.over s ≡ false → read s n t ≡ got v m k → length k < length t
shorter P read b e s n t v m k o h =
    let w = subst (Right (P.due s) n t) h ((e s o).right n t) in
    let one : 0 < length w.0 = b s n v w.0 o w.1.0 in
    omega (arith, one, ap length w.1.1.0, length-append w.0 k)

pub row_over : {S A M : Type 0} (P : Steps S A M) (read : S → Reader M A) (here : M) (s : S) (n : ℕ) (t : List ℕ) → P.over s ≡ true → read_row P.over read P.next here s n t ≡ got [] n t
row_over P read here s n t o = rows_over P.over read P.next here (length t) s n t o

pub row_next : {S A M : Type 0} (P : Steps S A M) (read : S → Reader M A) (here : M) → HasBytes P → AllExact P read → (s : S) (n : ℕ) (t : List ℕ) (v : A) (m : ℕ) (k : List ℕ) → P.over s ≡ false → read s n t ≡ got v m k
    → read_row P.over read P.next here s n t ≡ with_value (λ vs. v ∷ vs) (read_row P.over read P.next here (P.next s v) m k)
row_next P read here b e s n t v m k o h =
    rows_more P.over read P.next here (length t) s n t o
    ∙ ap (λ x. and_then x (λ v m k. with_value (λ vs. v ∷ vs) (rows P.over read P.next here (length t) (P.next s v) m k))) h
    ∙ ap (with_value (λ vs. v ∷ vs)) (same_rows P read here b e (length t) (suc (length k)) (P.next s v) m k (shorter P read b e s n t v m k o h) (omega arith))

pub row_bad : {S A M : Type 0} (P : Steps S A M) (read : S → Reader M A) (here : M) (s : S) (n : ℕ) (t : List ℕ) (r : ℕ) (m : M) → P.over s ≡ false → read s n t ≡ bad r m → read_row P.over read P.next here s n t ≡ bad r m
row_bad P read here s n t r m o h =
    rows_more P.over read P.next here (length t) s n t o
    ∙ ap (λ x. and_then x (λ v m k. with_value (λ vs. v ∷ vs) (rows P.over read P.next here (length t) (P.next s v) m k))) h

-- the invariant: what was read, before what is still to be read, is the whole. Its three uses.
pub done : {S A M : Type 0} (P : Steps S A M) (read : S → Reader M A) (here : M) (whole : Res M (List A)) (acc : List A) (s : S) (n : ℕ) (t : List ℕ)
    → with_value (λ vs. acc ++ vs) (read_row P.over read P.next here s n t) ≡ whole → P.over s ≡ true → whole ≡ got acc n t
done P read here whole acc s n t h o =
    sym h ∙ ap (with_value (λ vs. acc ++ vs)) (row_over P read here s n t o) ∙ ap (λ vs. got vs n t) (append-nil acc)

pub failed : {S A M : Type 0} (P : Steps S A M) (read : S → Reader M A) (here : M) (whole : Res M (List A)) (acc : List A) (s : S) (n : ℕ) (t : List ℕ) (r : ℕ) (m : M)
    → with_value (λ vs. acc ++ vs) (read_row P.over read P.next here s n t) ≡ whole → P.over s ≡ false → read s n t ≡ bad r m → whole ≡ bad r m
failed P read here whole acc s n t r m h o e = sym h ∙ ap (with_value (λ vs. acc ++ vs)) (row_bad P read here s n t r m o e)

pub goes_on : {S A M : Type 0} (P : Steps S A M) (read : S → Reader M A) (here : M) → HasBytes P → AllExact P read → (whole : Res M (List A)) (acc : List A) (s : S) (n : ℕ) (t : List ℕ) (v : A) (m : ℕ) (k : List ℕ)
    → with_value (λ vs. acc ++ vs) (read_row P.over read P.next here s n t) ≡ whole → P.over s ≡ false → read s n t ≡ got v m k
    → with_value (λ vs. (acc ++ v ∷ []) ++ vs) (read_row P.over read P.next here (P.next s v) m k) ≡ whole
goes_on {S} {A} {M} P read here b e whole acc s n t v m k h o r =
    moved (read_row P.over read P.next here (P.next s v) m k) ∙ ap (with_value (λ vs. acc ++ vs)) (sym (row_next P read here b e s n t v m k o r)) ∙ h
  where
    moved : (x : Res M (List A)) → with_value (λ vs. (acc ++ v ∷ []) ++ vs) x ≡ with_value (λ vs. acc ++ vs) (with_value (λ vs. v ∷ vs) x)
    moved (got vs m k) = ap (λ z. got z m k) (append_assoc acc (v ∷ []) vs)
    moved (bad r m) = refl

-- The same where a loop keeps of each value only a part, p, and the next state.
abbrev pub keep : {S A M B : Type 0} → Steps S A M → (A → B) → S → A → B × S
keep P p s v = (p v, P.next s v)

read_back : {S A M B : Type 0} (P : Steps S A M) (p : A → B) (s : S) (w : B) (z : S) (m : ℕ) (k : List ℕ) (x : Res M A) → with_value (keep P p s) x ≡ got (w, z) m k
    → (v : A) × ((x ≡ got v m k) × ((p v ≡ w) × (P.next s v ≡ z)))
read_back {S} {A} {M} {B} P p s w z m k (got v j l) h =
    let one : B × S → B = λ y. y.0 in let two : B × S → S = λ y. y.1 in
    let e : keep P p s v ≡ (w, z) = cc in
    let a : j ≡ m = cc in let b : l ≡ k = cc in
    (v, (rw (a, b) refl, (ap one e, ap two e)))
read_back P p s w z m k (bad r j) h = absurd (cc)

pub bad_back : {A B M : Type 0} (g : A → B) (r : ℕ) (m : M) (x : Res M A) → with_value g x ≡ bad r m → x ≡ bad r m
bad_back g r m (got v j l) h = absurd (cc)
bad_back g r m (bad q j) h = let a : q ≡ r = cc in let b : j ≡ m = cc in rw (a, b) refl

pub goes_on_by : {S A M B : Type 0} (P : Steps S A M) (read : S → Reader M A) (here : M) → HasBytes P → AllExact P read → (p : A → B) (whole : Res M (List B)) (acc : List B) (s : S) (n : ℕ) (t : List ℕ) (w : B) (z : S) (m : ℕ) (k : List ℕ)
    → with_value (λ vs. acc ++ map p vs) (read_row P.over read P.next here s n t) ≡ whole → P.over s ≡ false → with_value (keep P p s) (read s n t) ≡ got (w, z) m k
    → with_value (λ vs. (acc ++ w ∷ []) ++ map p vs) (read_row P.over read P.next here z m k) ≡ whole
goes_on_by {S} {A} {M} {B} P read here b e p whole acc s n t w z m k h o r =
    let v = read_back P p s w z m k (read s n t) r in
    ap (λ y. with_value (λ vs. (acc ++ y ∷ []) ++ map p vs) (read_row P.over read P.next here z m k)) (sym v.1.1.0)
    ∙ ap (λ y. with_value (λ vs. (acc ++ p v.0 ∷ []) ++ map p vs) (read_row P.over read P.next here y m k)) (sym v.1.1.1)
    ∙ moved v.0 (read_row P.over read P.next here (P.next s v.0) m k)
    ∙ ap (with_value (λ vs. acc ++ map p vs)) (sym (row_next P read here b e s n t v.0 m k o v.1.0)) ∙ h
  where
    moved : (v : A) (x : Res M (List A)) → with_value (λ vs. (acc ++ p v ∷ []) ++ map p vs) x ≡ with_value (λ vs. acc ++ map p vs) (with_value (λ vs. v ∷ vs) x)
    moved v (got vs m k) = ap (λ z. got z m k) (append_assoc acc (p v ∷ []) (map p vs))
    moved v (bad r m) = refl

pub done_by : {S A M B : Type 0} (P : Steps S A M) (read : S → Reader M A) (here : M) (p : A → B) (whole : Res M (List B)) (acc : List B) (s : S) (n : ℕ) (t : List ℕ)
    → with_value (λ vs. acc ++ map p vs) (read_row P.over read P.next here s n t) ≡ whole → P.over s ≡ true → whole ≡ got acc n t
done_by P read here p whole acc s n t h o =
    sym h ∙ ap (with_value (λ vs. acc ++ map p vs)) (row_over P read here s n t o) ∙ ap (λ vs. got vs n t) (append-nil acc)

pub failed_by : {S A M B C : Type 0} (P : Steps S A M) (read : S → Reader M A) (here : M) (p : A → B) (g : A → C) (whole : Res M (List B)) (acc : List B) (s : S) (n : ℕ) (t : List ℕ) (r : ℕ) (m : M)
    → with_value (λ vs. acc ++ map p vs) (read_row P.over read P.next here s n t) ≡ whole → P.over s ≡ false → with_value g (read s n t) ≡ bad r m → whole ≡ bad r m
failed_by P read here p g whole acc s n t r m h o e =
    sym h ∙ ap (with_value (λ vs. acc ++ map p vs)) (row_bad P read here s n t r m o (bad_back g r m (read s n t) e))

pub shorter_by : {S A M B : Type 0} (P : Steps S A M) (read : S → Reader M A) → HasBytes P → AllExact P read → (p : A → B) (s : S) (n : ℕ) (t : List ℕ) (w : B) (z : S) (m : ℕ) (k : List ℕ)
    → P.over s ≡ false → with_value (keep P p s) (read s n t) ≡ got (w, z) m k → length k < length t
shorter_by P read b e p s n t w z m k o r = let v = read_back P p s w z m k (read s n t) r in shorter P read b e s n t v.0 m k o v.1.0
