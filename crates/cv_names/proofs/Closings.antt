-- A closing `>` is read as a reader owes, and closes the text after which it is read.
use Rattle.std.proofs.Common.{◌≡◌, ℕ, ◌-◌, Bool, true, false, if◌then◌else◌, ◌==◌, ◌||◌, List, [], ◌∷◌, ◌++◌, length, take, ◌⊎◌, inl, inr}
use Rattle.std.proofs.Common.{refl, sym, ap, subst, ◌∙◌, arith, codes, append_assoc, append-nil, length-append}
use Rattle.std.proofs.lemmas.List.{append_cancel_right}
use Rattle.std.proofs.Math.Seq.{take-append_seam}
use Rattle.cv_names.specs.CvText.{ends_closed, closing, closed}
use Rattle.names.specs.Reading.{Res, got, bad, and_then, Reader, give, bind, literal}
use Rattle.cv_names.specs.Closings.{read_of, with_text, close, closed_by}
use Rattle.names.proofs.Readers.{Suffix, Follows, IsReader, Right, Viable, Inhabited, Any, suffix_of, give_reader, literal_reader}
use Rattle.names.proofs.Readers.{literal_some, literal_text, literal_spells}
use Rattle.names.proofs.Starts.{Starts, starts_either, starts_literal, starts_first, either_reader}
use Rattle.names.proofs.Combined.{starts_then, then_reader, then_some, give_some, either_some}
use Rattle.cv_names.proofs.CvLevels.{closed_append}

-- what may follow a text that is to be closed
abbrev pub CloseStops : List ℕ → Type 0
CloseStops [] = ⊥
CloseStops (c ∷ k) = (c == 62 || c == 32) ≡ true

pub read_back : (t k : List ℕ) → read_of (t ++ k) k ≡ t
read_back t k =
    let at : length (t ++ k) - length k ≡ length t = omega (arith, length-append t k) in
    ap (λ i. take i (t ++ k)) at ∙ take-append_seam t k

module _ {A : Type 0} (R : Reader A) where
  abbrev Texted : A × List ℕ → List ℕ → Type 0
  Texted = (with_text R).Spells

  texted_right : (s : List ℕ) (x : Res A) → Right R.Spells s x → Right Texted s (and_then x (λ v k. got (v, read_of s k) k))
  texted_right s (got v k) h = (h.0, ((h.1.0, ap (λ l. read_of l k) h.1.1 ∙ read_back h.0 k), h.1.1))
  texted_right s (bad e) h = (h.0, (h.1.0, viable h.0 h.1.1))
    where
      viable : (p : List ℕ) → (p ≡ []) ⊎ Viable R.Spells p → (p ≡ []) ⊎ Viable Texted p
      viable p (inl g) = inl g
      viable p (inr v) = inr ((v.0, p ++ v.1.0), (v.1.0, (v.1.1, refl)))

  -- the text is the same, whatever follows it
  same_text : (c : ℕ) (k r p q t : List ℕ) → p ++ c ∷ k ≡ t ++ (q ++ c ∷ k) → read_of (p ++ c ∷ r) (q ++ c ∷ r) ≡ read_of (p ++ c ∷ k) (q ++ c ∷ k)
  same_text c k r p q t e =
      let same : p ≡ t ++ q = append_cancel_right p (t ++ q) (c ∷ k) (e ∙ sym (append_assoc t q (c ∷ k))) in
      ap (λ l. read_of (l ++ c ∷ r) (q ++ c ∷ r)) same ∙ ap (λ l. read_of l (q ++ c ∷ r)) (append_assoc t q (c ∷ r)) ∙ read_back t (q ++ c ∷ r)
      ∙ sym (ap (λ l. read_of l (q ++ c ∷ k)) e ∙ read_back t (q ++ c ∷ k))

  texted_local : (c : ℕ) (k r p : List ℕ) (x y : Res A) → Follows c k r x y → Suffix (p ++ c ∷ k) x
      → Follows {A = A × List ℕ} c k r (and_then x (λ v m. got (v, read_of (p ++ c ∷ k) m) m)) (and_then y (λ v m. got (v, read_of (p ++ c ∷ r) m) m))
  texted_local c k r p (got v m) y h suf = record {
    got_too = λ w q e.
        let at : m ≡ q ++ c ∷ k = cc in
        let is : (v, read_of (p ++ c ∷ k) m) ≡ w = cc in
        ap (λ z. and_then z (λ v m. got (v, read_of (p ++ c ∷ r) m) m)) (h.got_too v q (ap (got v) at))
        ∙ ap (λ l. got (v, l) (q ++ c ∷ r)) (same_text c k r p q suf.0 (suf.1 ∙ ap (λ l. suf.0 ++ l) at) ∙ sym (ap (λ l. read_of (p ++ c ∷ k) l) at))
        ∙ ap (λ z. got z (q ++ c ∷ r)) is;
    bad_too = λ q e. cc;
  }
  texted_local c k r p (bad m) y h suf = record {
    got_too = λ w q e. cc;
    bad_too = λ q e. ap (λ z. and_then z (λ v m. got (v, read_of (p ++ c ∷ r) m) m)) (h.bad_too q (ap bad (let same : m ≡ q ++ c ∷ k = cc in same)));
  }

  texted_reader : {Stops : List ℕ → Type 0} → IsReader Stops R → IsReader Stops (with_text R)
  texted_reader is = record {
    complete = λ x t k h stops.
        ap (λ z. and_then z (λ v m. got (v, read_of (t ++ k) m) m)) (is.complete x.0 t k h.0 stops) ∙ ap (λ l. got (x.0, l) k) (read_back t k ∙ sym h.1);
    right = λ s. texted_right s (R.read s) (is.right s);
    local = λ c k r p. texted_local c k r p (R.read (p ++ c ∷ k)) (R.read (p ++ c ∷ r)) (is.local c k r p) (suffix_of R is (p ++ c ∷ k));
  }

  ending : (A × List ℕ) → Reader A
  ending x = bind (close x.1) (λ _. give x.0)

  close_reader : (Stops : List ℕ → Type 0) (text : List ℕ) → IsReader Stops (close text)
  close_reader Stops text =
      either_reader (ends_closed text) (literal (codes " >")) (literal (codes ">")) (λ f. literal_reader Stops (codes " >"))
      (λ f. literal_reader Stops (codes ">"))

  close_some : (text : List ℕ) → Inhabited (close text)
  close_some text = either_some (ends_closed text) (literal (codes " >")) (literal (codes ">")) (literal_some (codes " >")) (literal_some (codes ">"))

  starts_close : (Stops : List ℕ → Type 0) (text : List ℕ) → Starts CloseStops Stops (close text)
  starts_close Stops text =
      starts_either (ends_closed text) (literal (codes " >")) (literal (codes ">")) (λ f. starts_literal 32 (codes ">") (λ m. refl))
      (λ f. starts_literal 62 [] (λ m. refl))

  ending_reader : (Stops : List ℕ → Type 0) (x : A × List ℕ) → IsReader Stops (ending x)
  unfolding ending
  ending_reader Stops x =
      then_reader (close x.1) (λ _. give x.0) (close_reader Any x.1) (λ u. give_reader Stops x.0) (λ u. give_some x.0)
      (λ u. record { at = λ w t k h stops. tt })

  ending_some : (x : A × List ℕ) → Inhabited (ending x)
  unfolding ending
  ending_some x = then_some (close x.1) (λ _. give x.0) (close_some x.1) (λ u. give_some x.0)

  starts_ending : (Stops : List ℕ → Type 0) (x : A × List ℕ) → Starts CloseStops Stops (ending x)
  unfolding ending
  starts_ending Stops x = starts_first (close x.1) (λ _. give x.0) (starts_close Any x.1)

  pub closed_reader : (Stops : List ℕ → Type 0) → IsReader CloseStops R → IsReader Stops (closed_by R)
  unfolding ending
  closed_reader Stops is = then_reader (with_text R) ending (texted_reader is) (ending_reader Stops) ending_some (starts_ending Stops)

  pub closed_some : Inhabited R → Inhabited (closed_by R)
  unfolding ending
  closed_some some = then_some (with_text R) ending ((some.0, some.1.0), (some.1.0, (some.1.1, refl))) ending_some

  pub starts_closed : {H Stops : List ℕ → Type 0} → Starts H CloseStops R → Starts H Stops (closed_by R)
  unfolding ending
  starts_closed {Stops = Stops} h = starts_then (with_text R) ending (record { at = λ x t k e stops. h.at x.0 t k e.0 stops }) (starts_ending Stops)

  closing_is : (text : List ℕ) (u : Unit {0}) (p : List ℕ) → (close text).Spells u p → p ≡ closing text
  closing_is text u p (inl h) = literal_text (codes " >") u p h.1 ∙ sym (ap (λ z. if z then codes " >" else codes ">") h.0)
  closing_is text u p (inr h) = literal_text (codes ">") u p h.1 ∙ sym (ap (λ z. if z then codes " >" else codes ">") h.0)

  closes : (text : List ℕ) → (close text).Spells tt (closing text)
  closes text = each (ends_closed text) refl
    where
      each : (z : Bool) → ends_closed text ≡ z → (close text).Spells tt (if z then codes " >" else codes ">")
      each true e = inl (e, literal_spells (codes " >"))
      each false e = inr (e, literal_spells (codes ">"))

  -- the text of a closed value
  pub of_closing : (v : A) (t : List ℕ) → (closed_by R).Spells v t → (p : List ℕ) × (R.Spells v p × (t ≡ closed p))
  of_closing v t (x, (p, (q, (h, ((u, (p', (q', (c, (g, e'))))), e))))) = (
    p,
    (
      subst (λ w. R.Spells w p) (sym g.0) h.0,
      e ∙ ap (λ l. p ++ l) (e' ∙ ap (λ l. p' ++ l) g.1 ∙ append-nil p' ∙ closing_is x.1 u p' c ∙ ap closing h.1),
    ),
  )

  pub to_closing : (v : A) (p : List ℕ) → R.Spells v p → (closed_by R).Spells v (closed p)
  to_closing v p h = ((v, p), (p, (closing p, ((h, refl), ((tt, (closing p, ([], (closes p, ((refl, refl), sym (append-nil (closing p))))))), refl)))))

-- what is closed after `<` is closed by itself
pub closed_angle : (a : List ℕ) → closed (60 ∷ a) ≡ 60 ∷ closed a
closed_angle [] = refl
closed_angle (c ∷ s) = refl

-- what stands before an opening `<` changes no closing
pub closed_after : (o a : List ℕ) → closed (o ++ 60 ∷ a) ≡ o ++ 60 ∷ closed a
closed_after o a = closed_append o (60 ∷ a) (omega arith) ∙ ap (λ l. o ++ l) (closed_angle a)
