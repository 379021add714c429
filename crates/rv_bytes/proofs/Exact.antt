-- A reader is exact for a form: it gives what is spelled, and refuses where something is invalid.
use Rattle.std.proofs.Common.{◌≡◌, ℕ, ◌+◌, Bool, true, false, if◌then◌else◌, List, [], ◌∷◌, ◌++◌, length, Option, Some, None, inl, inr, refl, sym, ap, subst, ◌∙◌, arith, append_assoc, length-append, add-zero}
use Rattle.rv_bytes.specs.Forms.{Form, Splits, nothing, follow, made, each, here, item, choose, fails, IsDefinite}
use Rattle.rv_bytes.specs.Readers.{Res, got, bad, Reader, and_then, with_value, read_each, unless_broken, as_item}

-- what a reader says of these bytes is so: it gives a value that is spelled in front of the rest, or what is first invalid
abbrev pub Right : {M A : Type 0} → Form M A → ℕ → List ℕ → Res M A → Type 0
Right F n s (got v m k) = (t : List ℕ) × (F.spells n v t × ((s ≡ t ++ k) × (m ≡ n + length t)))
Right F n s (bad r m) = F.faults n s r m

-- what is spelled is given, what is invalid is refused, and each answer is one of the two
pub record Exact {M A : Type 0} (F : Form M A) (read : Reader M A) : Type 0 where
  pub reads : (n : ℕ) (v : A) (t k : List ℕ) → F.spells n v t → read n (t ++ k) ≡ got v (n + length t) k
  pub refuses : (n : ℕ) (s : List ℕ) (r : ℕ) (m : M) → F.faults n s r m → read n s ≡ bad r m
  pub right : (n : ℕ) (s : List ℕ) → Right F n s (read n s)

-- bytes begin with at most one value
pub one_value : {M A : Type 0} (F : Form M A) (read : Reader M A) → Exact F read → (n : ℕ) (v w : A) (t u k l : List ℕ) → F.spells n v t → F.spells n w u → t ++ k ≡ u ++ l → (v ≡ w) × (k ≡ l)
one_value F read e n v w t u k l h g p =
    let q : got v (n + length t) k ≡ got w (n + length u) l = sym (e.reads n v t k h) ∙ ap (read n) p ∙ e.reads n w u l g in
    (cc, cc)

-- bytes have a first error in at most one way
pub one_fault : {M A : Type 0} (F : Form M A) (read : Reader M A) → Exact F read → (n : ℕ) (s : List ℕ) (r q : ℕ) (m k : M) → F.faults n s r m → F.faults n s q k → (r ≡ q) × (m ≡ k)
one_fault F read e n s r q m k h g =
    let p : bad r m ≡ bad q k = sym (e.refuses n s r m h) ∙ e.refuses n s q k g in
    (cc, cc)

-- no bytes begin with a value and are invalid
pub never_both : {M A : Type 0} (F : Form M A) (read : Reader M A) → Exact F read → (n : ℕ) (v : A) (t k : List ℕ) (r : ℕ) (m : M) → F.spells n v t → F.faults n (t ++ k) r m → ⊥
never_both F read e n v t k r m h g =
    let p : got v (n + length t) k ≡ bad r m = sym (e.reads n v t k h) ∙ e.refuses n (t ++ k) r m g in
    cc

-- the reader of no bytes
pub nothing_exact : {M A : Type 0} (a : A) → Exact {M = M} (nothing a) (λ n s. got a n s)
nothing_exact a = record {
  reads = λ n v t k h. rw (h.0, h.1) (ap (λ j. got a j k) (sym (add-zero n)));
  refuses = λ n s r m h. absurd h;
  right = λ n s. ([], ((refl, refl), (refl, omega arith)));
}

-- one reader after the other
pub follow_exact : {M A B : Type 0} (F : Form M A) (G : A → Form M B) (f : Reader M A) (g : A → Reader M B) → Exact F f → ((a : A) → Exact (G a) (g a)) → Exact (follow F G) (λ n s. and_then (f n s) g)
follow_exact {M} {A} {B} F G f g e d = record {
  reads = λ n w t k h. both n w t k h.0 h.1;
  refuses = λ n s r m h. elim h [
    | inl a ↦ ap (λ x. and_then x g) (e.refuses n s r m a)
    | inr p ↦ later n s r m p.0 p.1
  ];
  right = λ n s. whole n s (f n s) (e.right n s);
}
  where
    both : (n : ℕ) (w : B) (t k : List ℕ) (v : A) → Splits (F.spells n v) (λ m. (G v).spells m w) n t → and_then (f n (t ++ k)) g ≡ got w (n + length t) k
    both n w t k v h =
        ap (λ z. and_then (f n z) g) (ap (λ z. z ++ k) h.split ∙ append_assoc h.front h.back k)
        ∙ ap (λ x. and_then x g) (e.reads n v h.front (h.back ++ k) h.is_front)
        ∙ (d v).reads (n + length h.front) w h.back k h.is_back
        ∙ ap (λ m. got w m k) (omega (arith, ap length h.split, length-append h.front h.back))

    later : (n : ℕ) (s : List ℕ) (r : ℕ) (m : M) (v : A) → Splits (F.spells n v) (λ j b. (G v).faults j b r m) n s → and_then (f n s) g ≡ bad r m
    later n s r m v h =
        ap (λ z. and_then (f n z) g) h.split
        ∙ ap (λ x. and_then x g) (e.reads n v h.front h.back h.is_front)
        ∙ (d v).refuses (n + length h.front) h.back r m h.is_back

    second : (n : ℕ) (s : List ℕ) (v : A) (t k : List ℕ) (y : Res M B) → F.spells n v t → s ≡ t ++ k → Right (G v) (n + length t) k y → Right (follow F G) n s y
    second n s v t k (got w m l) h p q = (
      t ++ q.0,
      (
        (v, record { front = t; back = q.0; split = refl; is_front = h; is_back = q.1.0 }),
        (p ∙ ap (λ z. t ++ z) q.1.1.0 ∙ sym (append_assoc t q.0 l), omega (arith, q.1.1.1, length-append t q.0)),
      ),
    )
    second n s v t k (bad r m) h p q = inr (v, record { front = t; back = k; split = p; is_front = h; is_back = q })

    whole : (n : ℕ) (s : List ℕ) (x : Res M A) → Right F n s x → Right (follow F G) n s (and_then x g)
    whole n s (got v m k) h = second n s v h.0 k (g v m k) h.1.0 h.1.1.0 (subst (λ j. Right (G v) j k (g v m k)) h.1.1.1 ((d v).right m k))
    whole n s (bad r m) h = inl h

-- a reader, then a function of its value
pub made_exact : {M A B : Type 0} (p : A → B) (F : Form M A) (f : Reader M A) → Exact F f → Exact (made p F) (λ n s. with_value p (f n s))
made_exact {M} {A} {B} p F f e = record {
  reads = λ n w t k h. ap (with_value p) (e.reads n h.0 t k h.1.1) ∙ ap (λ x. got x (n + length t) k) (sym h.1.0);
  refuses = λ n s r m h. ap (with_value p) (e.refuses n s r m h);
  right = λ n s. whole n s (f n s) (e.right n s);
}
  where
    whole : (n : ℕ) (s : List ℕ) (x : Res M A) → Right F n s x → Right (made p F) n s (with_value p x)
    whole n s (got v m k) h = (h.0, ((v, (refl, h.1.0)), h.1.1))
    whole n s (bad r m) h = h

-- for each of a list a reader
pub each_exact : {M X A : Type 0} (F : X → Form M A) (f : X → Reader M A) → ((x : X) → Exact (F x) (f x)) → (xs : List X) → Exact (each F xs) (read_each f xs)
each_exact F f e [] = nothing_exact []
each_exact F f e (x ∷ xs) = follow_exact (F x) (λ a. made (λ more. a ∷ more) (each F xs)) (f x) (λ a m k. with_value (λ more. a ∷ more) (read_each f xs m k)) (e x)
    (λ a. made_exact (λ more. a ∷ more) (each F xs) (read_each f xs) (each_exact F f e xs))

-- the reader of what may stand at its place
pub here_exact : {M A : Type 0} (F : ℕ → Form M A) (f : ℕ → Reader M A) → ((n : ℕ) → Exact (F n) (f n)) → Exact (here F) (λ n s. f n n s)
here_exact {M} {A} F f e = record {
  reads = λ n v t k h. (e n).reads n v t k h;
  refuses = λ n s r m h. (e n).refuses n s r m h;
  right = λ n s. whole n s (f n n s) ((e n).right n s);
}
  where
    whole : (n : ℕ) (s : List ℕ) (x : Res M A) → Right (F n) n s x → Right (here F) n s x
    whole n s (got v m k) h = h
    whole n s (bad r m) h = h

-- the reader of one item
pub item_exact : {A : Type 0} (F : Form ℕ A) (f : Reader ℕ A) (breaks : A → Option ℕ) → Exact F f → Exact (item F breaks) (λ n s. as_item breaks n (f n s))
item_exact {A} F f breaks e = record {
  reads = λ n v t k h. ap (as_item breaks n) (e.reads n v t k h.0) ∙ ap (λ o. unless_broken o n (got v (n + length t) k)) h.1;
  refuses = λ n s r m h. elim h.1 [
    | inl p ↦ ap (as_item breaks n) (e.refuses n s r p.0 p.1) ∙ ap (bad r) (sym h.0)
    | inr p ↦ value n s r p.0 p.1.0 p.1.1 ∙ ap (bad r) (sym h.0)
  ];
  right = λ n s. whole n s (f n s) (e.right n s);
}
  where
    value : (n : ℕ) (s : List ℕ) (r : ℕ) (v : A) → breaks v ≡ Some r → Splits (F.spells n v) (λ _ _. Unit {0}) n s → as_item breaks n (f n s) ≡ bad r n
    value n s r v b h =
        ap (λ z. as_item breaks n (f n z)) h.split ∙ ap (as_item breaks n) (e.reads n v h.front h.back h.is_front) ∙ ap (λ o. unless_broken o n (got v (n + length h.front) h.back)) b

    decided : (n : ℕ) (s : List ℕ) (v : A) (m : ℕ) (t k : List ℕ) (o : Option ℕ) → breaks v ≡ o → F.spells n v t → s ≡ t ++ k → m ≡ n + length t → Right (item F breaks) n s (unless_broken o n (got v m k))
    decided n s v m t k None b h p q = (t, ((h, b), (p, q)))
    decided n s v m t k (Some r) b h p q = (refl, inr (v, (b, record { front = t; back = k; split = p; is_front = h; is_back = tt })))

    whole : (n : ℕ) (s : List ℕ) (x : Res ℕ A) → Right F n s x → Right (item F breaks) n s (as_item breaks n x)
    whole n s (got v m k) h = decided n s v m h.0 k (breaks v) refl h.1.0 h.1.1.0 h.1.1.1
    whole n s (bad r m) h = (refl, inl (m, h))

-- one of two readers
pub choose_exact : {M A : Type 0} (b : Bool) (F G : Form M A) (f g : Reader M A) → Exact F f → Exact G g → Exact (choose b F G) (λ n s. if b then f n s else g n s)
choose_exact true F G f g e d = e
choose_exact false F G f g e d = d

-- the reader that refuses whatever follows
pub fails_exact : {A : Type 0} (rule : ℕ) → Exact {A = A} (fails rule) (λ n s. bad rule n)
fails_exact rule = record {
  reads = λ n v t k h. absurd h;
  refuses = λ n s r m h. rw (h.0, h.1) refl;
  right = λ n s. (refl, refl);
}

-- a form with an exact reader is definite
pub definite : {M A : Type 0} (F : Form M A) (read : Reader M A) → Exact F read → IsDefinite F
definite F read e = record {
  one_value = one_value F read e;
  one_fault = one_fault F read e;
  never_both = never_both F read e;
}
