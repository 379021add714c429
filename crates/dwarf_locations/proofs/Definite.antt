-- Forms whose parts are definite are definite.
use Rattle.std.proofs.Common.{◌≡◌, ℕ, ◌+◌, true, false, List, [], ◌∷◌, ◌++◌, length, inl, inr, refl, sym, ap, subst, ◌∙◌, arith, append_assoc, length-append}
use Rattle.rv_bytes.specs.Forms.{Form, IsDefinite, RowFaults, RowSpells, Splits, Steps, follow, made, row}

-- bytes after the same bytes begin at the same place
lengths : (t u k l : List ℕ) → t ++ k ≡ u ++ l → k ≡ l → length t ≡ length u
lengths t u k l e f = omega (arith, ap length e, ap length f, length-append t k, length-append u l)

-- a value made of one
pub made_definite : {M A B : Type 0} (f : A → B) (F : Form M A) → IsDefinite F → IsDefinite (made f F)
made_definite f F d = record {
  one_value = λ n v w t u k l h g e. let s = d.one_value n h.0 g.0 t u k l h.1.1 g.1.1 e in (h.1.0 ∙ ap f s.0 ∙ sym g.1.0, s.1);
  one_fault = λ n s r q m k h g. d.one_fault n s r q m k h g;
  never_both = λ n v t k r m h g. d.never_both n h.0 t k r m h.1.1 g;
}

-- two values of a definite form, each before something
record Same {A : Type 0} (v w : A) (t u k l : List ℕ) : Type 0 where
  values : v ≡ w
  rests : k ≡ l
  sizes : length t ≡ length u

same : {M A : Type 0} (F : Form M A) → IsDefinite F → (n : ℕ) (v w : A) (t u k l : List ℕ) → F.spells n v t → F.spells n w u → t ++ k ≡ u ++ l → Same v w t u k l
same F d n v w t u k l h g e = let s = d.one_value n v w t u k l h g e in record { values = s.0; rests = s.1; sizes = lengths t u k l e s.1 }

-- a value, then what it asks for
pub follow_definite : {M A B : Type 0} (F : Form M A) (G : A → Form M B) → IsDefinite F → ((a : A) → IsDefinite (G a)) → IsDefinite (follow F G)
follow_definite {M} {A} {B} F G d e = record {
  one_value = λ n v w t u k l h g p. values n v w t u k l h.0 g.0 h.1 g.1 p;
  one_fault = λ n s r q m k h g. faults n s r q m k h g;
  never_both = λ n v t k r m h g. never n v t k r m h.0 h.1 g;
}
  where
    values : (n : ℕ) (v w : B) (t u k l : List ℕ) (a b : A) → Splits (F.spells n a) (λ m. (G a).spells m v) n t → Splits (F.spells n b) (λ m. (G b).spells m w) n u → t ++ k ≡ u ++ l → (v ≡ w) × (k ≡ l)
    values n v w t u k l a b h g p =
        let z : h.front ++ (h.back ++ k) ≡ g.front ++ (g.back ++ l) = sym (append_assoc h.front h.back k) ∙ ap (λ x. x ++ k) (sym h.split) ∙ p ∙ ap (λ x. x ++ l) g.split ∙ append_assoc g.front g.back l in
        let s = same F d n a b h.front g.front (h.back ++ k) (g.back ++ l) h.is_front g.is_front z in
        let x : (G b).spells (n + length g.front) v h.back = subst (λ c. (G c).spells (n + length g.front) v h.back) s.values (subst (λ i. (G a).spells (n + i) v h.back) s.sizes h.is_back) in
        (e b).one_value (n + length g.front) v w h.back g.back k l x g.is_back s.rests

    later : (n : ℕ) (s : List ℕ) (r q : ℕ) (m k : M) (a b : A) → Splits (F.spells n a) (λ j c. (G a).faults j c r m) n s → Splits (F.spells n b) (λ j c. (G b).faults j c q k) n s → (r ≡ q) × (m ≡ k)
    later n s r q m k a b h g =
        let z = same F d n a b h.front g.front h.back g.back h.is_front g.is_front (sym h.split ∙ g.split) in
        let x : (G b).faults (n + length g.front) g.back r m = subst (λ c. (G c).faults (n + length g.front) g.back r m) z.values (subst (λ i. (G a).faults (n + i) g.back r m) z.sizes (subst (λ c. (G a).faults (n + length h.front) c r m) z.rests h.is_back)) in
        (e b).one_fault (n + length g.front) g.back r q m k x g.is_back

    early : (n : ℕ) (s : List ℕ) (r : ℕ) (m : M) (t k : List ℕ) (a : A) → F.faults n s r m → F.spells n a t → s ≡ t ++ k → ⊥
    early n s r m t k a h g p = d.never_both n a t k r m g (subst (λ x. F.faults n x r m) p h)

    faults : (n : ℕ) (s : List ℕ) (r q : ℕ) (m k : M) → (follow F G).faults n s r m → (follow F G).faults n s q k → (r ≡ q) × (m ≡ k)
    faults n s r q m k (inl h) (inl g) = d.one_fault n s r q m k h g
    faults n s r q m k (inl h) (inr g) = absurd (early n s r m g.1.front g.1.back g.0 h g.1.is_front g.1.split)
    faults n s r q m k (inr h) (inl g) = absurd (early n s q k h.1.front h.1.back h.0 g h.1.is_front h.1.split)
    faults n s r q m k (inr h) (inr g) = later n s r q m k h.0 g.0 h.1 g.1

    never : (n : ℕ) (v : B) (t k : List ℕ) (r : ℕ) (m : M) (a : A) → Splits (F.spells n a) (λ j. (G a).spells j v) n t → (follow F G).faults n (t ++ k) r m → ⊥
    never n v t k r m a h (inl g) = early n (t ++ k) r m h.front (h.back ++ k) a g h.is_front (ap (λ x. x ++ k) h.split ∙ append_assoc h.front h.back k)
    never n v t k r m a h (inr g) =
        let w = g.1 in
        let z = same F d n a g.0 h.front w.front (h.back ++ k) w.back h.is_front w.is_front (sym (append_assoc h.front h.back k) ∙ ap (λ x. x ++ k) (sym h.split) ∙ w.split) in
        let x : (G g.0).spells (n + length w.front) v h.back = subst (λ c. (G c).spells (n + length w.front) v h.back) z.values (subst (λ i. (G a).spells (n + i) v h.back) z.sizes h.is_back) in
        (e g.0).never_both (n + length w.front) v h.back k r m x (subst (λ c. (G g.0).faults (n + length w.front) c r m) (sym z.rests) w.is_back)

-- a row of values

both_ways : {S A M : Type 0} (P : Steps S A M) (s : S) → P.over s ≡ true → P.over s ≡ false → ⊥
both_ways P s h g = let e : true ≡ false = sym h ∙ g in cc

rows_same : {S A M : Type 0} (P : Steps S A M) → ((s : S) → IsDefinite (P.due s)) → (s : S) (n : ℕ) (vs ws : List A) (t u k l : List ℕ) → RowSpells P s n vs t → RowSpells P s n ws u → t ++ k ≡ u ++ l → (vs ≡ ws) × (k ≡ l)
rows_same P d s n [] [] t u k l h g e = (refl, ap (λ x. x ++ k) (sym h.1) ∙ e ∙ ap (λ x. x ++ l) g.1)
rows_same P d s n [] (w ∷ ws) t u k l h g e = absurd (both_ways P s h.0 g.0)
rows_same P d s n (v ∷ vs) [] t u k l h g e = absurd (both_ways P s g.0 h.0)
rows_same P d s n (v ∷ vs) (w ∷ ws) t u k l h g e =
    let a = h.1 in
    let b = g.1 in
    let z : a.front ++ (a.back ++ k) ≡ b.front ++ (b.back ++ l) = sym (append_assoc a.front a.back k) ∙ ap (λ x. x ++ k) (sym a.split) ∙ e ∙ ap (λ x. x ++ l) b.split ∙ append_assoc b.front b.back l in
    let c = same (P.due s) (d s) n v w a.front b.front (a.back ++ k) (b.back ++ l) a.is_front b.is_front z in
    let x : RowSpells P (P.next s w) (n + length b.front) vs a.back = subst (λ y. RowSpells P (P.next s y) (n + length b.front) vs a.back) c.values (subst (λ i. RowSpells P (P.next s v) (n + i) vs a.back) c.sizes a.is_back) in
    let r = rows_same P d (P.next s w) (n + length b.front) vs ws a.back b.back k l x b.is_back c.rests in
    (ap (λ y. y ∷ vs) c.values ∙ ap (λ ys. w ∷ ys) r.0, r.1)

row_faults_same : {S A M : Type 0} (P : Steps S A M) → ((s : S) → IsDefinite (P.due s)) → (s : S) (n : ℕ) (vs ws : List A) (t : List ℕ) (r q : ℕ) (m k : M) → RowFaults P s n vs t r m → RowFaults P s n ws t q k → (r ≡ q) × (m ≡ k)
row_faults_same P d s n [] [] t r q m k h g = (d s).one_fault n t r q m k h.1 g.1
row_faults_same P d s n [] (w ∷ ws) t r q m k h g = absurd ((d s).never_both n w g.1.front g.1.back r m g.1.is_front (subst (λ x. (P.due s).faults n x r m) g.1.split h.1))
row_faults_same P d s n (v ∷ vs) [] t r q m k h g = absurd ((d s).never_both n v h.1.front h.1.back q k h.1.is_front (subst (λ x. (P.due s).faults n x q k) h.1.split g.1))
row_faults_same P d s n (v ∷ vs) (w ∷ ws) t r q m k h g =
    let a = h.1 in
    let b = g.1 in
    let c = same (P.due s) (d s) n v w a.front b.front a.back b.back a.is_front b.is_front (sym a.split ∙ b.split) in
    let x : RowFaults P (P.next s w) (n + length b.front) vs b.back r m = subst (λ y. RowFaults P (P.next s y) (n + length b.front) vs b.back r m) c.values (subst (λ i. RowFaults P (P.next s v) (n + i) vs b.back r m) c.sizes (subst (λ y. RowFaults P (P.next s v) (n + length a.front) vs y r m) c.rests a.is_back)) in
    row_faults_same P d (P.next s w) (n + length b.front) vs ws b.back r q m k x b.is_back

row_never : {S A M : Type 0} (P : Steps S A M) → ((s : S) → IsDefinite (P.due s)) → (s : S) (n : ℕ) (vs ws : List A) (t k : List ℕ) (r : ℕ) (m : M) → RowSpells P s n vs t → RowFaults P s n ws (t ++ k) r m → ⊥
row_never P d s n [] [] t k r m h g = both_ways P s h.0 g.0
row_never P d s n [] (w ∷ ws) t k r m h g = both_ways P s h.0 g.0
row_never P d s n (v ∷ vs) [] t k r m h g =
    let a = h.1 in
    (d s).never_both n v a.front (a.back ++ k) r m a.is_front (subst (λ x. (P.due s).faults n x r m) (ap (λ x. x ++ k) a.split ∙ append_assoc a.front a.back k) g.1)
row_never P d s n (v ∷ vs) (w ∷ ws) t k r m h g =
    let a = h.1 in
    let b = g.1 in
    let z : a.front ++ (a.back ++ k) ≡ b.front ++ b.back = sym (append_assoc a.front a.back k) ∙ ap (λ x. x ++ k) (sym a.split) ∙ b.split in
    let c = same (P.due s) (d s) n v w a.front b.front (a.back ++ k) b.back a.is_front b.is_front z in
    let x : RowSpells P (P.next s w) (n + length b.front) vs a.back = subst (λ y. RowSpells P (P.next s y) (n + length b.front) vs a.back) c.values (subst (λ i. RowSpells P (P.next s v) (n + i) vs a.back) c.sizes a.is_back) in
    row_never P d (P.next s w) (n + length b.front) vs ws a.back k r m x (subst (λ y. RowFaults P (P.next s w) (n + length b.front) ws y r m) (sym c.rests) b.is_back)

pub row_definite : {S A M : Type 0} (P : Steps S A M) → ((s : S) → IsDefinite (P.due s)) → (s : S) → IsDefinite (row P s)
row_definite P d s = record {
  one_value = λ n v w t u k l h g e. rows_same P d s n v w t u k l h g e;
  one_fault = λ n t r q m k h g. row_faults_same P d s n h.0 g.0 t r q m k h.1 g.1;
  never_both = λ n v t k r m h g. row_never P d s n v g.0 t k r m h g.1;
}
