-- What a reader owes, and how readers are put together.
use Rattle.std.proofs.Common.{◌≡◌, ℕ, ◌≤◌, Bool, true, false, ◌==◌, ◌&&◌, if◌then◌else◌, List, [], ◌∷◌, ◌++◌, length, ◌⊎◌, inl, inr, refl}
use Rattle.std.proofs.Common.{sym, ap, subst, ◌∙◌, arith, append_assoc, append-nil, length-append, eq-eqb}
use Rattle.std.proofs.lemmas.Bool.{eqb-true}
use Rattle.std.proofs.lemmas.List.{append_cancel_right}
use Rattle.names.specs.Reading.{Res, got, bad, and_then, begins, tail, Reader, give, never, bind, on, where_first, literal}

-- the text s was read as far as what is left
abbrev pub Suffix : {A : Type 0} → List ℕ → Res A → Type 0
Suffix s (got v k) = (t : List ℕ) × (s ≡ t ++ k)
Suffix s (bad k) = (t : List ℕ) × (s ≡ t ++ k)

-- x was read before c ∷ k, and y, before c ∷ r, is the same
pub record Follows {A : Type 0} (c : ℕ) (k r : List ℕ) (x y : Res A) : Type 0 where
  pub got_too : (v : A) (q : List ℕ) → x ≡ got v (q ++ c ∷ k) → y ≡ got v (q ++ c ∷ r)
  pub bad_too : (q : List ℕ) → x ≡ bad (q ++ c ∷ k) → y ≡ bad (q ++ c ∷ r)

-- the reader does not look past the byte at which it stops
abbrev pub IsLocal : {A : Type 0} → (List ℕ → Res A) → Type 0
IsLocal read = (c : ℕ) (k r p : List ℕ) → Follows c k r (read (p ++ c ∷ k)) (read (p ++ c ∷ r))

-- some value's text begins so
abbrev pub Viable : {A : Type 0} → (A → List ℕ → Type 0) → List ℕ → Type 0
Viable {A} Spells p = (v : A) × ((r : List ℕ) × Spells v (p ++ r))

-- what was read is the value's text, or may go on to be one
abbrev pub Right : {A : Type 0} → (A → List ℕ → Type 0) → List ℕ → Res A → Type 0
Right Spells s (got v k) = (t : List ℕ) × (Spells v t × (s ≡ t ++ k))
Right Spells s (bad e) = (p : List ℕ) × ((s ≡ p ++ e) × ((p ≡ []) ⊎ Viable Spells p))

-- a reader reads each text before what may follow it, reads nothing else, and does not look ahead
pub record IsReader {A : Type 0} (Stops : List ℕ → Type 0) (R : Reader A) : Type 0 where
  pub complete : (v : A) (t k : List ℕ) → R.Spells v t → Stops k → R.read (t ++ k) ≡ got v k
  pub right : (s : List ℕ) → Right R.Spells s (R.read s)
  pub local : IsLocal R.read

abbrev pub Inhabited : {A : Type 0} → Reader A → Type 0
Inhabited {A} R = (v : A) × ((t : List ℕ) × R.Spells v t)

pub Suffix-right : {A : Type 0} (Spells : A → List ℕ → Type 0) (s : List ℕ) (x : Res A) → Right Spells s x → Suffix s x
Suffix-right Spells s (got v k) h = (h.0, h.1.1)
Suffix-right Spells s (bad e) h = (h.0, h.1.0)

pub suffix_of : {A : Type 0} {Stops : List ℕ → Type 0} (R : Reader A) → IsReader Stops R → (s : List ℕ) → Suffix s (R.read s)
suffix_of R is s = Suffix-right R.Spells s (R.read s) (is.right s)

pub Suffix-longer : {A : Type 0} (s t m : List ℕ) (x : Res A) → s ≡ t ++ m → Suffix m x → Suffix s x
Suffix-longer s t m (got v k) e h = (t ++ h.0, e ∙ ap (λ l. t ++ l) h.1 ∙ sym (append_assoc t h.0 k))
Suffix-longer s t m (bad k) e h = (t ++ h.0, e ∙ ap (λ l. t ++ l) h.1 ∙ sym (append_assoc t h.0 k))

pub Suffix-then : {A B : Type 0} (s : List ℕ) (x : Res A) (f : A → List ℕ → Res B) → Suffix s x → ((v : A) (k : List ℕ) → x ≡ got v k → Suffix k (f v k)) →
    Suffix s (and_then x f)
Suffix-then s (got v k) f h g = Suffix-longer s h.0 k (f v k) h.1 (g v k refl)
Suffix-then s (bad k) f h g = h

pub Suffix-if : {A : Type 0} (b : Bool) (s : List ℕ) (x y : Res A) → Suffix s x → Suffix s y → Suffix s (if b then x else y)
Suffix-if true s x y h g = h
Suffix-if false s x y h g = g

pub Suffix-shorter : {A : Type 0} (s k : List ℕ) (x : Res A) (v : A) → Suffix s x → x ≡ got v k → length k ≤ length s
Suffix-shorter s k x v h e = let w = subst (Suffix s) e h in omega (arith, ap length w.1, length-append w.0 k)

pub Suffix-tail : (s : List ℕ) → (t : List ℕ) × (s ≡ t ++ tail s)
Suffix-tail [] = ([], refl)
Suffix-tail (c ∷ s) = (c ∷ [], refl)

-- one that is past c ∷ k
pub Follows-past : {A : Type 0} (c : ℕ) (k r : List ℕ) (x y : Res A) → Suffix k x → Follows c k r x y
Follows-past c k r x y h = record {
  got_too = λ w q e. let t = subst (Suffix k) e h in absurd (omega (arith, ap length t.1, length-append t.0 (q ++ c ∷ k), length-append q (c ∷ k)));
  bad_too = λ q e. let t = subst (Suffix k) e h in absurd (omega (arith, ap length t.1, length-append t.0 (q ++ c ∷ k), length-append q (c ∷ k)));
}

-- one that gives what is left as it is
pub Follows-got : {A : Type 0} (c : ℕ) (k r p : List ℕ) (v : A) → Follows c k r (got v (p ++ c ∷ k)) (got v (p ++ c ∷ r))
Follows-got c k r p v = record {
  got_too = λ w q e. let same : p ≡ q = append_cancel_right p q (c ∷ k) (cc) in cc;
  bad_too = λ q e. cc;
}

pub Follows-bad : {A : Type 0} (c : ℕ) (k r p : List ℕ) → Follows {A = A} c k r (bad (p ++ c ∷ k)) (bad (p ++ c ∷ r))
Follows-bad c k r p = record {
  got_too = λ w q e. cc;
  bad_too = λ q e. let same : p ≡ q = append_cancel_right p q (c ∷ k) (cc) in cc;
}

pub Follows-if : {A : Type 0} (c : ℕ) (k r : List ℕ) (b b' : Bool) (x y x' y' : Res A) → b ≡ b' → (b ≡ true → Follows c k r x x') →
    (b ≡ false → Follows c k r y y') → Follows c k r (if b then x else y) (if b' then x' else y')
Follows-if c k r true true x y x' y' e h g = h refl
Follows-if c k r false false x y x' y' e h g = g refl
Follows-if c k r true false x y x' y' e h g = cc
Follows-if c k r false true x y x' y' e h g = cc

pub begins-same : (b c : ℕ) (k r p : List ℕ) → begins b (p ++ c ∷ k) ≡ begins b (p ++ c ∷ r)
begins-same b c k r [] = refl
begins-same b c k r (a ∷ p) = refl

pub begins_is : (b : ℕ) (s : List ℕ) → begins b s ≡ true → s ≡ b ∷ tail s
begins_is b [] e = cc
begins_is b (c ∷ s) e = ap (λ x. x ∷ s) (eqb-true c b e)

pub begins_at : (b : ℕ) (s : List ℕ) → begins b (b ∷ s) ≡ true
begins_at b s = eq-eqb b b refl

and_parts : (a b : Bool) → (a && b) ≡ true → (a ≡ true) × (b ≡ true)
and_parts true b e = (refl, e)
and_parts false b e = cc

-- composition: what is read after a value that was got
pub Follows-then : {A B : Type 0} (c : ℕ) (k r : List ℕ) (x y : Res A) (f : A → List ℕ → Res B) → Follows c k r x y
    → ((v : A) (m : List ℕ) → x ≡ got v m → Suffix m (f v m))
    → ((v : A) (m : List ℕ) → x ≡ got v m → (q : List ℕ) → Follows c k r (f v (q ++ c ∷ k)) (f v (q ++ c ∷ r)))
    → Follows c k r (and_then x f) (and_then y f)
Follows-then c k r (got v m) y f h suf next = record {
  got_too = λ w q e.
      let t = subst (Suffix m) e (suf v m refl) in
      let at : m ≡ (t.0 ++ q) ++ c ∷ k = t.1 ∙ sym (append_assoc t.0 q (c ∷ k)) in
      let here : y ≡ got v ((t.0 ++ q) ++ c ∷ r) = h.got_too v (t.0 ++ q) (ap (got v) at) in
      ap (λ z. and_then z f) here ∙ (next v m refl (t.0 ++ q)).got_too w q (ap (f v) (sym at) ∙ e);
  bad_too = λ q e.
      let t = subst (Suffix m) e (suf v m refl) in
      let at : m ≡ (t.0 ++ q) ++ c ∷ k = t.1 ∙ sym (append_assoc t.0 q (c ∷ k)) in
      let here : y ≡ got v ((t.0 ++ q) ++ c ∷ r) = h.got_too v (t.0 ++ q) (ap (got v) at) in
      ap (λ z. and_then z f) here ∙ (next v m refl (t.0 ++ q)).bad_too q (ap (f v) (sym at) ∙ e);
}
Follows-then c k r (bad m) y f h suf next = record {
  got_too = λ w q e. cc;
  bad_too = λ q e. ap (λ z. and_then z f) (h.bad_too q (ap bad (let same : m ≡ q ++ c ∷ k = cc in same)));
}

pub give_reader : {A : Type 0} (Stops : List ℕ → Type 0) (v : A) → IsReader Stops (give v)
give_reader Stops v = record {
  complete = λ w t k h stops. ap (λ l. got v (l ++ k)) h.1 ∙ ap (λ z. got z k) (sym h.0);
  right = λ s. ([], ((refl, refl), refl));
  local = λ c k r p. Follows-got c k r p v;
}

pub never_reader : {A : Type 0} (Stops : List ℕ → Type 0) → IsReader Stops (never {A = A})
never_reader Stops = record {
  complete = λ v t k h stops. absurd h;
  right = λ s. ([], (refl, inl refl));
  local = λ c k r p. Follows-bad c k r p;
}

-- what was got is a text of the value
pub spelled : {A : Type 0} (Spells : A → List ℕ → Type 0) (s : List ℕ) (x : Res A) → Right Spells s x → (v : A) (m : List ℕ) → x ≡ got v m →
    (p : List ℕ) × (Spells v p × (s ≡ p ++ m))
spelled Spells s x h v m e = subst (Right Spells s) e h

module _ {A B : Type 0} (R : Reader A) (f : A → Reader B) {StopsA StopsB : List ℕ → Type 0} (is : IsReader StopsA R)
    (next : (a : A) (p : List ℕ) → R.Spells a p → IsReader StopsB (f a))
    (some : (a : A) (p : List ℕ) → R.Spells a p → Inhabited (f a))
    (follow : (a : A) (p : List ℕ) → R.Spells a p → (w : B) (q k : List ℕ) → (f a).Spells w q → StopsB k → StopsA (q ++ k)) where
  abbrev Both : B → List ℕ → Type 0
  Both = (bind R f).Spells

  bind_complete : (w : B) (t k : List ℕ) → Both w t → StopsB k → (bind R f).read (t ++ k) ≡ got w k
  bind_complete w t k (a, (p, (q, (h, (g, e))))) stops =
      ap (λ l. and_then (R.read l) (λ a k. (f a).read k)) (ap (λ l. l ++ k) e ∙ append_assoc p q k)
      ∙ ap (λ x. and_then x (λ a k. (f a).read k)) (is.complete a p (q ++ k) h (follow a p h w q k g stops))
      ∙ (next a p h).complete w q k g stops

  goes_on : (a : A) (p : List ℕ) → R.Spells a p → (q : List ℕ) → (q ≡ []) ⊎ Viable (f a).Spells q → Viable Both (p ++ q)
  goes_on a p h q (inl e) =
      let more = some a p h in
      (more.0, (more.1.0, (a, (p, (more.1.0, (h, (more.1.1, ap (λ l. (p ++ l) ++ more.1.0) e ∙ ap (λ l. l ++ more.1.0) (append-nil p))))))))
  goes_on a p h q (inr v) = (v.0, (v.1.0, (a, (p, (q ++ v.1.0, (h, (v.1.1, append_assoc p q v.1.0)))))))

  begun : (p : List ℕ) → (p ≡ []) ⊎ Viable R.Spells p → (p ≡ []) ⊎ Viable Both p
  begun p (inl e) = inl e
  begun p (inr v) =
      let more = some v.0 (p ++ v.1.0) v.1.1 in
      inr (more.0, (v.1.0 ++ more.1.0, (v.0, (p ++ v.1.0, (more.1.0, (v.1.1, (more.1.1, sym (append_assoc p v.1.0 more.1.0))))))))

  after : (s : List ℕ) (a : A) (p k : List ℕ) → R.Spells a p → s ≡ p ++ k → (x : Res B) → Right (f a).Spells k x → Right Both s x
  after s a p k h e (got w m) g = (p ++ g.0, ((a, (p, (g.0, (h, (g.1.0, refl))))), e ∙ ap (λ l. p ++ l) g.1.1 ∙ sym (append_assoc p g.0 m)))
  after s a p k h e (bad m) g = (p ++ g.0, (e ∙ ap (λ l. p ++ l) g.1.0 ∙ sym (append_assoc p g.0 m), inr (goes_on a p h g.0 g.1.1)))

  bind_right : (s : List ℕ) (x : Res A) → Right R.Spells s x → Right Both s (and_then x (λ a k. (f a).read k))
  bind_right s (got a k) h = after s a h.0 k h.1.0 h.1.1 ((f a).read k) ((next a h.0 h.1.0).right k)
  bind_right s (bad e) h = (h.0, (h.1.0, begun h.0 h.1.1))

  pub bind_reader : IsReader StopsB (bind R f)
  bind_reader = record {
    complete = bind_complete;
    right = λ s. bind_right s (R.read s) (is.right s);
    local = λ c k r p.
        Follows-then c k r (R.read (p ++ c ∷ k)) (R.read (p ++ c ∷ r)) (λ a k. (f a).read k) (is.local c k r p)
        (λ v m e. let h = spelled R.Spells (p ++ c ∷ k) (R.read (p ++ c ∷ k)) (is.right (p ++ c ∷ k)) v m e in suffix_of (f v) (next v h.0 h.1.0) m)
        (λ v m e q. let h = spelled R.Spells (p ++ c ∷ k) (R.read (p ++ c ∷ k)) (is.right (p ++ c ∷ k)) v m e in (next v h.0 h.1.0).local c k r q);
  }

module _ {A : Type 0} (flag : Bool) (b : ℕ) (R R' : Reader A) {Stops : List ℕ → Type 0} (is : flag ≡ true → IsReader Stops R)
    (some : flag ≡ true → Inhabited R) (is' : IsReader Stops R')
    (other : flag ≡ true → (w : A) (t k : List ℕ) → R'.Spells w t → Stops k → begins b (t ++ k) ≡ false) where
  abbrev Either : A → List ℕ → Type 0
  Either = (on flag b R R').Spells

  on_complete : (w : A) (t k : List ℕ) → Either w t → Stops k → (on flag b R R').read (t ++ k) ≡ got w k
  on_complete w t k (inl (f, (q, (h, e)))) stops =
      ap (λ l. if flag && begins b (l ++ k) then R.read (tail (l ++ k)) else R'.read (l ++ k)) e
      ∙ ap (λ z. if z && (b == b) then R.read (q ++ k) else R'.read (b ∷ (q ++ k))) f
      ∙ ap (λ z. if z then R.read (q ++ k) else R'.read (b ∷ (q ++ k))) (begins_at b []) ∙ (is f).complete w q k h stops
  on_complete w t k (inr h) stops = by_flag flag refl
    where
      by_flag : (z : Bool) → flag ≡ z → (if flag && begins b (t ++ k) then R.read (tail (t ++ k)) else R'.read (t ++ k)) ≡ got w k
      by_flag true e = ap (λ z. if z && begins b (t ++ k) then R.read (tail (t ++ k)) else R'.read (t ++ k)) e ∙
          ap (λ z. if z then R.read (tail (t ++ k)) else R'.read (t ++ k)) (other e w t k h stops) ∙ is'.complete w t k h stops
      by_flag false e = ap (λ z. if z && begins b (t ++ k) then R.read (tail (t ++ k)) else R'.read (t ++ k)) e ∙ is'.complete w t k h stops

  after_byte : flag ≡ true → (s m : List ℕ) → s ≡ b ∷ m → (x : Res A) → Right R.Spells m x → Right Either s x
  after_byte f s m e (got w k) h = (b ∷ h.0, (inl (f, (h.0, (h.1.0, refl))), e ∙ ap (λ l. b ∷ l) h.1.1))
  after_byte f s m e (bad k) h = (b ∷ h.0, (e ∙ ap (λ l. b ∷ l) h.1.0, inr (viable h.0 h.1.1)))
    where
      viable : (p : List ℕ) → (p ≡ []) ⊎ Viable R.Spells p → Viable Either (b ∷ p)
      viable p (inl g) = let v = some f in (v.0, (v.1.0, inl (f, (v.1.0, (v.1.1, ap (λ l. b ∷ (l ++ v.1.0)) g)))))
      viable p (inr v) = (v.0, (v.1.0, inl (f, (p ++ v.1.0, (v.1.1, refl)))))

  otherwise : (s : List ℕ) (x : Res A) → Right R'.Spells s x → Right Either s x
  otherwise s (got w k) h = (h.0, (inr h.1.0, h.1.1))
  otherwise s (bad k) h = (h.0, (h.1.0, viable h.0 h.1.1))
    where
      viable : (p : List ℕ) → (p ≡ []) ⊎ Viable R'.Spells p → (p ≡ []) ⊎ Viable Either p
      viable p (inl g) = inl g
      viable p (inr v) = inr (v.0, (v.1.0, inr v.1.1))

  on_right : (s : List ℕ) (z : Bool) → (flag && begins b s) ≡ z → Right Either s (if z then R.read (tail s) else R'.read s)
  on_right s true e = let p = and_parts flag (begins b s) e in after_byte p.0 s (tail s) (begins_is b s p.1) (R.read (tail s)) ((is p.0).right (tail s))
  on_right s false e = otherwise s (R'.read s) (is'.right s)

  tail_local : (c : ℕ) (k r p : List ℕ) → flag ≡ true → Follows c k r (R.read (tail (p ++ c ∷ k))) (R.read (tail (p ++ c ∷ r)))
  tail_local c k r [] f = Follows-past c k r (R.read k) (R.read r) (suffix_of R (is f) k)
  tail_local c k r (a ∷ p) f = (is f).local c k r p

  pub on_reader : IsReader Stops (on flag b R R')
  on_reader = record {
    complete = on_complete;
    right = λ s. on_right s (flag && begins b s) refl;
    local = λ c k r p.
        Follows-if c k r _ _ _ _ _ _ (ap (λ z. flag && z) (begins-same b c k r p)) (λ e. tail_local c k r p (and_parts flag (begins b (p ++ c ∷ k)) e).0)
        (λ e. is'.local c k r p);
  }

module _ {A : Type 0} (test : List ℕ → Bool) (R R' : Reader A) {Stops : List ℕ → Type 0}
    (first : (c : ℕ) (k r p : List ℕ) → test (p ++ c ∷ k) ≡ test (p ++ c ∷ r)) (is : IsReader Stops R) (is' : IsReader Stops R')
    (holds : (w : A) (t k : List ℕ) → R.Spells w t → Stops k → test (t ++ k) ≡ true)
    (fails : (w : A) (t k : List ℕ) → R'.Spells w t → Stops k → test (t ++ k) ≡ false) where
  one_of : (s : List ℕ) (x : Res A) → Right R.Spells s x → Right (where_first test R R').Spells s x
  one_of s (got w k) h = (h.0, (inl h.1.0, h.1.1))
  one_of s (bad k) h = (h.0, (h.1.0, viable h.0 h.1.1))
    where
      viable : (p : List ℕ) → (p ≡ []) ⊎ Viable R.Spells p → (p ≡ []) ⊎ Viable (where_first test R R').Spells p
      viable p (inl g) = inl g
      viable p (inr v) = inr (v.0, (v.1.0, inl v.1.1))

  other_of : (s : List ℕ) (x : Res A) → Right R'.Spells s x → Right (where_first test R R').Spells s x
  other_of s (got w k) h = (h.0, (inr h.1.0, h.1.1))
  other_of s (bad k) h = (h.0, (h.1.0, viable h.0 h.1.1))
    where
      viable : (p : List ℕ) → (p ≡ []) ⊎ Viable R'.Spells p → (p ≡ []) ⊎ Viable (where_first test R R').Spells p
      viable p (inl g) = inl g
      viable p (inr v) = inr (v.0, (v.1.0, inr v.1.1))

  where_right : (s : List ℕ) (z : Bool) → Right (where_first test R R').Spells s (if z then R.read s else R'.read s)
  where_right s true = one_of s (R.read s) (is.right s)
  where_right s false = other_of s (R'.read s) (is'.right s)

  where_complete : (w : A) (t k : List ℕ) → (where_first test R R').Spells w t → Stops k → (where_first test R R').read (t ++ k) ≡ got w k
  where_complete w t k (inl h) stops = ap (λ z. if z then R.read (t ++ k) else R'.read (t ++ k)) (holds w t k h stops) ∙ is.complete w t k h stops
  where_complete w t k (inr h) stops = ap (λ z. if z then R.read (t ++ k) else R'.read (t ++ k)) (fails w t k h stops) ∙ is'.complete w t k h stops

  pub where_reader : IsReader Stops (where_first test R R')
  where_reader = record {
    complete = where_complete;
    right = λ s. where_right s (test s);
    local = λ c k r p. Follows-if c k r _ _ _ _ _ _ (first c k r p) (λ e. is.local c k r p) (λ e. is'.local c k r p);
  }

abbrev pub Any : List ℕ → Type 0
Any k = Unit {0}

pub literal_some : (bs : List ℕ) → Inhabited (literal bs)
literal_some [] = (tt, ([], (refl, refl)))
literal_some (b ∷ bs) = let more = literal_some bs in (tt, (b ∷ more.1.0, inl (refl, (more.1.0, (more.1.1, refl)))))

pub literal_reader : (Stops : List ℕ → Type 0) (bs : List ℕ) → IsReader Stops (literal bs)
literal_reader Stops [] = give_reader Stops tt
literal_reader Stops (b ∷ bs) =
    on_reader true b (literal bs) never (λ e. literal_reader Stops bs) (λ e. literal_some bs) (never_reader Stops) (λ e w t k h stops. absurd h)

pub literal_text : (bs : List ℕ) (u : Unit {0}) (t : List ℕ) → (literal bs).Spells u t → t ≡ bs
literal_text [] u t h = h.1
literal_text (b ∷ bs) u t (inl (f, (q, (h, e)))) = e ∙ ap (λ l. b ∷ l) (literal_text bs u q h)
literal_text (b ∷ bs) u t (inr h) = absurd h

pub literal_spells : (bs : List ℕ) → (literal bs).Spells tt bs
literal_spells [] = (refl, refl)
literal_spells (b ∷ bs) = inl (refl, (bs, (literal_spells bs, refl)))

-- the same reader, seen as one of other texts
pub as_reader : {A : Type 0} {Stops : List ℕ → Type 0} (R : Reader A) (S : A → List ℕ → Type 0) → IsReader Stops R →
    ((v : A) (t : List ℕ) → R.Spells v t → S v t) → ((v : A) (t : List ℕ) → S v t → R.Spells v t)
    → IsReader Stops (record { read = R.read; Spells = S })
as_reader {A = A} R S is to from = record {
  complete = λ v t k h stops. is.complete v t k (from v t h) stops;
  right = λ s. each s (R.read s) (is.right s);
  local = is.local;
}
  where
    viable : (p : List ℕ) → (p ≡ []) ⊎ Viable R.Spells p → (p ≡ []) ⊎ Viable S p
    viable p (inl g) = inl g
    viable p (inr v) = inr (v.0, (v.1.0, to v.0 (p ++ v.1.0) v.1.1))

    each : (s : List ℕ) (x : Res A) → Right R.Spells s x → Right S s x
    each s (got v k) h = (h.0, (to v h.0 h.1.0, h.1.1))
    each s (bad k) h = (h.0, (h.1.0, viable h.0 h.1.1))

pub fewer_stops : {A : Type 0} {Stops Stops' : List ℕ → Type 0} (R : Reader A) → ((k : List ℕ) → Stops' k → Stops k) → IsReader Stops R → IsReader Stops' R
fewer_stops R fewer is = record { complete = λ v t k h stops. is.complete v t k h (fewer k stops); right = is.right; local = is.local }
