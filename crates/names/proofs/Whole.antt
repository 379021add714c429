-- What a reader's answer says of a whole text.
use Rattle.std.proofs.Common.{◌≡◌, ℕ, zero, suc, ◌-◌, ◌^◌, min, ◌<◌, ◌≤◌, List, [], ◌∷◌, ◌++◌, length, take, ◌⊎◌, inl, inr, refl, sym, ap}
use Rattle.std.proofs.Common.{subst, ◌∙◌, arith, append-nil, length-append}
use Rattle.std.proofs.lemmas.Bool.{cases_lt}
use Rattle.std.proofs.Math.Seq.{take-append_seam}
use Rattle.names.specs.Reading.{Res, got, bad, Reader}
use Rattle.names.specs.Claims.{Begins, IsLongest, IsBadAt, IsOfOne}
use Rattle.names.proofs.Readers.{Suffix, IsReader, Right, Viable, Inhabited, suffix_of}

-- no value has the text, and no value's text begins with more of it than this
abbrev pub NotOne : {A : Type 0} → (A → List ℕ → Type 0) → List ℕ → ℕ → Type 0
NotOne {A} Spells text len = ((v : A) → Spells v text → ⊥) × IsLongest Spells text len

module _ {A : Type 0} {Stops : List ℕ → Type 0} (R : Reader A) (is : IsReader Stops R) (end : Stops []) (some : Inhabited R) where
  whole : (v : A) (t : List ℕ) → R.Spells v t → R.read t ≡ got v []
  whole v t h = ap R.read (sym (append-nil t)) ∙ is.complete v t [] h end

  pub of_one : IsOfOne R.Spells
  of_one a b t p q = let same : got a [] ≡ got b [] = sym (whole a t p) ∙ whole b t q in cc

  right_of : (text : List ℕ) (x : Res A) → R.read text ≡ x → Right R.Spells text x
  right_of text x e = subst (Right R.Spells text) e (is.right text)

  pub read_whole : (text k : List ℕ) (v : A) → R.read text ≡ got v k → length k ≡ 0 → R.Spells v text
  read_whole text [] v e h = let r = right_of text (got v []) e in subst (R.Spells v) (sym (r.1.1 ∙ append-nil r.0)) r.1.0
  read_whole text (c ∷ k) v e h = absurd (omega arith)

  -- a reading that leaves something is of no text
  none_left : (text : List ℕ) (c : ℕ) (k : List ℕ) (v : A) → R.read text ≡ got v (c ∷ k) → (w : A) → R.Spells w text → ⊥
  none_left text c k v e w h = let same : got w [] ≡ got v (c ∷ k) = sym (whole w text h) ∙ e in cc

  none_bad : (text k : List ℕ) → R.read text ≡ bad k → (w : A) → R.Spells w text → ⊥
  none_bad text k e w h = let same : got w [] ≡ bad k = sym (whole w text h) ∙ e in cc

  -- a longer prefix has the byte c after p
  longer : (p k r : List ℕ) (c m : ℕ) → length p < m → (t : List ℕ) × (take m (p ++ c ∷ k) ++ r ≡ p ++ c ∷ t)
  longer p k r c zero h = absurd (omega arith)
  longer [] k r c (suc m) h = (take m k ++ r, refl)
  longer (a ∷ p) k r c (suc m) h = let more = longer p k r c m (omega arith) in (more.0, ap (λ l. a ∷ l) more.1)

  no_longer : (p k : List ℕ) (c : ℕ) → ((r : List ℕ) (w : A) → R.Spells w (p ++ c ∷ r) → ⊥) → (m : ℕ) → Begins R.Spells (take m (p ++ c ∷ k)) → m ≤ length p
  no_longer p k c none m b = by_case (cases_lt (length p) m)
    where
      by_case : (length p < m) ⊎ (m ≤ length p) → m ≤ length p
      by_case (inl h) = let more = longer p k b.1.0 c m h in absurd (none more.0 b.0 (subst (R.Spells b.0) more.1 b.1.1))
      by_case (inr h) = h

  -- the place after p, where no text goes on
  place : (text p k : List ℕ) → text ≡ p ++ k → Begins R.Spells p → ((m : ℕ) → m ≤ length text → Begins R.Spells (take m text) → m ≤ length p) →
      IsLongest R.Spells text (length text - length k)
  place text p k e b most =
      let at : length p ≡ length text - length k = omega (arith, ap length e, length-append p k) in
      record {
        within = omega arith;
        begun = subst (Begins R.Spells) (sym (ap (λ l. take (length text - length k) l) e ∙ ap (λ i. take i (p ++ k)) (sym at) ∙ take-append_seam p k)) b;
        longest = λ m h w. omega (arith, most m h w);
      }

  begins_some : (p : List ℕ) → (p ≡ []) ⊎ Viable R.Spells p → Begins R.Spells p
  begins_some p (inl e) = (some.0, (some.1.0, subst (λ l. R.Spells some.0 (l ++ some.1.0)) (sym e) some.1.1))
  begins_some p (inr v) = v

  pub left_over : (text k : List ℕ) (v : A) → R.read text ≡ got v k → (length k ≡ 0 → ⊥) → NotOne R.Spells text (length text - length k)
  left_over text [] v e h = absurd (h refl)
  left_over text (c ∷ k) v e h =
      let r = right_of text (got v (c ∷ k)) e in
      let p = r.0 in
      let none : (r : List ℕ) (w : A) → R.Spells w (p ++ c ∷ r) → ⊥ =
      λ s w. none_left (p ++ c ∷ s) c s v ((is.local c k s p).got_too v [] (ap R.read (sym r.1.1) ∙ e)) w in (
        none_left text c k v e,
        place text p (c ∷ k) r.1.1 (v, ([], subst (R.Spells v) (sym (append-nil p)) r.1.0))
            (λ m h b. no_longer p k c none m (subst (λ l. Begins R.Spells (take m l)) r.1.1 b)),
      )

  most_bad : (text k : List ℕ) → R.read text ≡ bad k → (r : Right R.Spells text (bad k)) → (m : ℕ) → m ≤ length text → Begins R.Spells (take m text) →
      m ≤ length r.0
  most_bad text [] e r m h w = omega (arith, ap length r.1.0, length-append r.0 [])
  most_bad text (c ∷ k) e r m h w =
      let p = r.0 in
      let none : (s : List ℕ) (w : A) → R.Spells w (p ++ c ∷ s) → ⊥ =
      λ s w. none_bad (p ++ c ∷ s) (c ∷ s) ((is.local c k s p).bad_too [] (ap R.read (sym r.1.0) ∙ e)) w in
      no_longer p k c none m (subst (λ l. Begins R.Spells (take m l)) r.1.0 w)

  pub stopped : (text k : List ℕ) → R.read text ≡ bad k → NotOne R.Spells text (length text - length k)
  stopped text k e = let r = right_of text (bad k) e in (none_bad text k e, place text r.0 k r.1.0 (begins_some r.0 r.1.1) (most_bad text k e r))

  pub got_shorter : (text k : List ℕ) (v : A) → R.read text ≡ got v k → length k ≤ length text
  got_shorter text k v e = let w = subst (Suffix text) e (suffix_of R is text) in omega (arith, ap length w.1, length-append w.0 k)

  pub bad_shorter : (text k : List ℕ) → R.read text ≡ bad k → length k ≤ length text
  bad_shorter text k e = let w = subst (Suffix text) e (suffix_of R is text) in omega (arith, ap length w.1, length-append w.0 k)

-- the answer to a text whose reading stopped there
pub bad_at : {A : Type 0} (Spells : A → List ℕ → Type 0) (text : List ℕ) (len at : ℕ) → NotOne Spells text len → at ≡ min len (2 ^ 32 - 1) →
    IsBadAt Spells text at
bad_at Spells text len at h e = record { none = h.0; len = len; longest = h.1; saturates = e }
