-- Rows of values, one after the other.
use Rattle.std.proofs.Common.{◌≡◌, ◌<◌, ◌≤◌, ℕ, zero, suc, ◌+◌, Bool, true, false, List, [], ◌∷◌, ◌++◌, length, refl, sym, ap, subst, ◌∙◌, arith, append_assoc, length-append, add-zero}
use Rattle.rv_bytes.specs.Forms.{Steps, RowSpells, RowFaults, row}
use Rattle.rv_bytes.specs.Readers.{Res, got, bad, Reader, and_then, with_value, rows, read_row}
use Rattle.rv_bytes.proofs.Exact.{Right, Exact}

-- each value has at least one byte
abbrev pub HasBytes : {S A M : Type 0} → Steps S A M → Type 0
HasBytes {S} {A} P = (s : S) (n : ℕ) (v : A) (t : List ℕ) → P.over s ≡ false → (P.due s).spells n v t → 0 < length t

abbrev pub AllExact : {S A M : Type 0} → Steps S A M → (S → Reader M A) → Type 0
AllExact {S} P read = (s : S) → P.over s ≡ false → Exact (P.due s) (read s)

pub spells_fewer : {S A M : Type 0} (P : Steps S A M) → HasBytes P → (s : S) (n : ℕ) (vs : List A) (t : List ℕ) → RowSpells P s n vs t → length vs ≤ length t
spells_fewer P b s n [] t h = omega arith
spells_fewer P b s n (v ∷ vs) t h =
    let w = h.1 in
    let one : 0 < length w.front = b s n v w.front h.0 w.is_front in
    let more : length vs ≤ length w.back = spells_fewer P b (P.next s v) (n + length w.front) vs w.back w.is_back in
    omega (arith, one, more, ap length w.split, length-append w.front w.back)

pub faults_fewer : {S A M : Type 0} (P : Steps S A M) → HasBytes P → (s : S) (n : ℕ) (vs : List A) (t : List ℕ) (r : ℕ) (m : M) → RowFaults P s n vs t r m → length vs ≤ length t
faults_fewer P b s n [] t r m h = omega arith
faults_fewer P b s n (v ∷ vs) t r m h =
    let w = h.1 in
    let one : 0 < length w.front = b s n v w.front h.0 w.is_front in
    let more : length vs ≤ length w.back = faults_fewer P b (P.next s v) (n + length w.front) vs w.back r m w.is_back in
    omega (arith, one, more, ap length w.split, length-append w.front w.back)

pub rows_over : {S A M : Type 0} (over : S → Bool) (read : S → Reader M A) (next : S → A → S) (here : M) (f : ℕ) (s : S) (n : ℕ) (t : List ℕ) → over s ≡ true → rows over read next here (suc f) s n t ≡ got [] n t
unfolding rows
rows_over over read next here f s n t h = rw h refl

pub rows_more : {S A M : Type 0} (over : S → Bool) (read : S → Reader M A) (next : S → A → S) (here : M) (f : ℕ) (s : S) (n : ℕ) (t : List ℕ) → over s ≡ false
    → rows over read next here (suc f) s n t ≡ and_then (read s n t) (λ v m k. with_value (λ vs. v ∷ vs) (rows over read next here f (next s v) m k))
unfolding rows
rows_more over read next here f s n t h = rw h refl

pub rows_read : {S A M : Type 0} (P : Steps S A M) (read : S → Reader M A) (here : M) → AllExact P read → (f : ℕ) (s : S) (n : ℕ) (vs : List A) (t k : List ℕ) → length vs < f
    → RowSpells P s n vs t → rows P.over read P.next here f s n (t ++ k) ≡ got vs (n + length t) k
rows_read P read here e zero s n vs t k h w = absurd (omega arith)
rows_read P read here e (suc f) s n [] t k h w = rows_over P.over read P.next here f s n (t ++ k) w.0 ∙ rw w.1 (ap (λ j. got [] j k) (sym (add-zero n)))
rows_read {S} {A} {M} P read here e (suc f) s n (v ∷ vs) t k h w =
    let p = w.1 in
    let whole : t ++ k ≡ p.front ++ (p.back ++ k) = ap (λ z. z ++ k) p.split ∙ append_assoc p.front p.back k in
    let tail : Res M A → Res M (List A) = λ x. and_then x (λ v m k. with_value (λ vs. v ∷ vs) (rows P.over read P.next here f (P.next s v) m k)) in
    rows_more P.over read P.next here f s n (t ++ k) w.0
    ∙ ap (λ z. tail (read s n z)) whole
    ∙ ap tail ((e s w.0).reads n v p.front (p.back ++ k) p.is_front)
    ∙ ap (with_value (λ vs. v ∷ vs)) (rows_read P read here e f (P.next s v) (n + length p.front) vs p.back k (omega arith) p.is_back)
    ∙ ap (λ m. got (v ∷ vs) m k) (omega (arith, ap length p.split, length-append p.front p.back))

pub rows_refuse : {S A M : Type 0} (P : Steps S A M) (read : S → Reader M A) (here : M) → AllExact P read → (f : ℕ) (s : S) (n : ℕ) (vs : List A) (t : List ℕ) (r : ℕ) (m : M) → length vs < f
    → RowFaults P s n vs t r m → rows P.over read P.next here f s n t ≡ bad r m
rows_refuse P read here e zero s n vs t r m h w = absurd (omega arith)
rows_refuse {S} {A} {M} P read here e (suc f) s n [] t r m h w =
    let tail : Res M A → Res M (List A) = λ x. and_then x (λ v m k. with_value (λ vs. v ∷ vs) (rows P.over read P.next here f (P.next s v) m k)) in
    rows_more P.over read P.next here f s n t w.0 ∙ ap tail ((e s w.0).refuses n t r m w.1)
rows_refuse {S} {A} {M} P read here e (suc f) s n (v ∷ vs) t r m h w =
    let p = w.1 in
    let tail : Res M A → Res M (List A) = λ x. and_then x (λ v m k. with_value (λ vs. v ∷ vs) (rows P.over read P.next here f (P.next s v) m k)) in
    rows_more P.over read P.next here f s n t w.0
    ∙ ap (λ z. tail (read s n z)) p.split
    ∙ ap tail ((e s w.0).reads n v p.front p.back p.is_front)
    ∙ ap (with_value (λ vs. v ∷ vs)) (rows_refuse P read here e f (P.next s v) (n + length p.front) vs p.back r m (omega arith) p.is_back)

pub rows_right : {S A M : Type 0} (P : Steps S A M) (read : S → Reader M A) (here : M) → HasBytes P → AllExact P read → (f : ℕ) (s : S) (n : ℕ) (t : List ℕ) → length t < f
    → Right (row P s) n t (rows P.over read P.next here f s n t)
rows_right P read here b e zero s n t h = absurd (omega arith)
rows_right {S} {A} {M} P read here b e (suc f) s n t h = each_way (rows_right P read here b e f) (P.over s) refl
  where
    -- what came after the first value
    behind : (v : A) (u k : List ℕ) (y : Res M (List A)) → P.over s ≡ false → (P.due s).spells n v u → t ≡ u ++ k → Right (row P (P.next s v)) (n + length u) k y → Right (row P s) n t (with_value (λ vs. v ∷ vs) y)
    behind v u k (got vs m l) o p q w = (
      u ++ w.0,
      (
        (o, record { front = u; back = w.0; split = refl; is_front = p; is_back = w.1.0 }),
        (q ∙ ap (λ z. u ++ z) w.1.1.0 ∙ sym (append_assoc u w.0 l), omega (arith, w.1.1.1, length-append u w.0)),
      ),
    )
    behind v u k (bad r m) o p q w = (v ∷ w.0, (o, record { front = u; back = k; split = q; is_front = p; is_back = w.1 }))

    first : (rest : (z : S) (j : ℕ) (l : List ℕ) → length l < f → Right (row P z) j l (rows P.over read P.next here f z j l)) (x : Res M A) → P.over s ≡ false → Right (P.due s) n t x
        → Right (row P s) n t (and_then x (λ v m k. with_value (λ vs. v ∷ vs) (rows P.over read P.next here f (P.next s v) m k)))
    first rest (got v m k) o w =
        let one : 0 < length w.0 = b s n v w.0 o w.1.0 in
        behind v w.0 k (rows P.over read P.next here f (P.next s v) m k) o w.1.0 w.1.1.0
        (subst (λ j. Right (row P (P.next s v)) j k (rows P.over read P.next here f (P.next s v) m k)) w.1.1.1 (rest (P.next s v) m k (omega (arith, h, one, ap length w.1.1.0, length-append w.0 k))))
    first rest (bad r m) o w = ([], (o, w))

    each_way : ((z : S) (j : ℕ) (l : List ℕ) → length l < f → Right (row P z) j l (rows P.over read P.next here f z j l)) → (o : Bool) → P.over s ≡ o → Right (row P s) n t (rows P.over read P.next here (suc f) s n t)
    each_way rest true o = subst (Right (row P s) n t) (sym (rows_over P.over read P.next here f s n t o)) ([], ((o, refl), (refl, sym (add-zero n))))
    each_way rest false o = subst (Right (row P s) n t) (sym (rows_more P.over read P.next here f s n t o)) (first rest (read s n t) o ((e s o).right n t))

pub row_exact : {S A M : Type 0} (P : Steps S A M) (read : S → Reader M A) (here : M) → HasBytes P → AllExact P read → (s : S) → Exact (row P s) (read_row P.over read P.next here s)
row_exact P read here b e s = record {
  reads = λ n vs t k h. rows_read P read here e (suc (length (t ++ k))) s n vs t k (omega (arith, spells_fewer P b s n vs t h, length-append t k)) h;
  refuses = λ n t r m h. rows_refuse P read here e (suc (length t)) s n h.0 t r m (omega (arith, faults_fewer P b s n h.0 t r m h.1)) h.1;
  right = λ n t. rows_right P read here b e (suc (length t)) s n t (omega arith);
}
