-- With which bytes a reader's texts begin, before what may follow them.
use Rattle.std.proofs.Common.{◌≡◌, ℕ, Bool, true, false, ◌==◌, List, [], ◌∷◌, ◌++◌, Option, Some, None, ◌⊎◌, inl, inr, refl, sym, ap, subst, ◌∙◌, append_assoc}
use Rattle.std.proofs.lemmas.Bool.{eqb-true}
use Rattle.names.specs.Words.{lead_of, IsSomeWith, AreChars}
use Rattle.names.specs.Reading.{Res, got, bad, Reader, begins, give, never, bind, on, either, where_first, literal, word, starts_word, if_some}
use Rattle.names.proofs.Readers.{IsReader, Right, Viable, Any, literal_text}

-- a text before what may follow it begins as H says
pub record Starts {A : Type 0} (H Stops : List ℕ → Type 0) (R : Reader A) : Type 0 where
  pub at : (w : A) (t k : List ℕ) → R.Spells w t → Stops k → H (t ++ k)

pub starts_give : {A : Type 0} {H Stops : List ℕ → Type 0} (v : A) → ((k : List ℕ) → Stops k → H k) → Starts H Stops (give v)
starts_give {H = H} v h = record { at = λ w t k e stops. subst (λ l. H (l ++ k)) (sym e.1) (h k stops) }

pub starts_never : {A : Type 0} {H Stops : List ℕ → Type 0} → Starts H Stops (never {A = A})
starts_never = record { at = λ w t k e stops. absurd e }

pub starts_on : {A : Type 0} {H Stops : List ℕ → Type 0} (flag : Bool) (b : ℕ) (R R' : Reader A) → ((m : List ℕ) → H (b ∷ m)) → Starts H Stops R' →
    Starts H Stops (on flag b R R')
starts_on {A = A} {H = H} {Stops = Stops} flag b R R' h g = record { at = each }
  where
    each : (w : A) (t k : List ℕ) → (on flag b R R').Spells w t → Stops k → H (t ++ k)
    each w t k (inl (f, (q, (x, e)))) stops = subst (λ l. H (l ++ k)) (sym e) (h (q ++ k))
    each w t k (inr x) stops = g.at w t k x stops

pub starts_either : {A : Type 0} {H Stops : List ℕ → Type 0} (flag : Bool) (R R' : Reader A) → (flag ≡ true → Starts H Stops R) →
    (flag ≡ false → Starts H Stops R') → Starts H Stops (either flag R R')
starts_either {A = A} {H = H} {Stops = Stops} flag R R' h g = record { at = each }
  where
    each : (w : A) (t k : List ℕ) → (either flag R R').Spells w t → Stops k → H (t ++ k)
    each w t k (inl x) stops = (h x.0).at w t k x.1 stops
    each w t k (inr x) stops = (g x.0).at w t k x.1 stops

pub starts_where : {A : Type 0} {H Stops : List ℕ → Type 0} (test : List ℕ → Bool) (R R' : Reader A) → Starts H Stops R → Starts H Stops R' →
    Starts H Stops (where_first test R R')
starts_where {A = A} {H = H} {Stops = Stops} test R R' h g = record { at = each }
  where
    each : (w : A) (t k : List ℕ) → (where_first test R R').Spells w t → Stops k → H (t ++ k)
    each w t k (inl x) stops = h.at w t k x stops
    each w t k (inr x) stops = g.at w t k x stops

-- the first of two texts is never empty
pub starts_first : {A B : Type 0} {H Stops : List ℕ → Type 0} (R : Reader A) (f : A → Reader B) → Starts H Any R → Starts H Stops (bind R f)
starts_first {B = B} {H = H} {Stops = Stops} R f h = record { at = each }
  where
    each : (w : B) (t k : List ℕ) → (bind R f).Spells w t → Stops k → H (t ++ k)
    each w t k (a, (p, (q, (x, (y, e))))) stops = subst H (sym (ap (λ l. l ++ k) e ∙ append_assoc p q k)) (h.at a p (q ++ k) x tt)

-- the first of two texts may be empty
pub starts_both : {A B : Type 0} {H Stops : List ℕ → Type 0} (R : Reader A) (f : A → Reader B) → Starts H H R → ((a : A) → Starts H Stops (f a)) →
    Starts H Stops (bind R f)
starts_both {B = B} {H = H} {Stops = Stops} R f h g = record { at = each }
  where
    each : (w : B) (t k : List ℕ) → (bind R f).Spells w t → Stops k → H (t ++ k)
    each w t k (a, (p, (q, (x, (y, e))))) stops = subst H (sym (ap (λ l. l ++ k) e ∙ append_assoc p q k)) (h.at a p (q ++ k) x ((g a).at w q k y stops))

pub starts_literal : {H Stops : List ℕ → Type 0} (b : ℕ) (bs : List ℕ) → ((m : List ℕ) → H (b ∷ m)) → Starts H Stops (literal (b ∷ bs))
starts_literal {H = H} b bs h = record { at = λ u t k e stops. subst (λ l. H (l ++ k)) (sym (literal_text (b ∷ bs) u t e)) (h (bs ++ k)) }

pub some_lead : {A : Type 0} (o : Option A) (P : A → Type 0) → IsSomeWith o P → if_some o (λ l. true) false ≡ true
some_lead None P h = absurd h
some_lead (Some l) P h = refl

pub starts_words : {H Stops : List ℕ → Type 0} → ((c : ℕ) (m : List ℕ) → starts_word (c ∷ m) ≡ true → H (c ∷ m)) → Starts H Stops word
unfolding AreChars
starts_words {H = H} h = record { at = λ w t k e stops. subst (λ l. H (l ++ k)) (sym e.1) (each w k e.0.0) }
  where
    each : (w k : List ℕ) → AreChars true 0 0 0 w → H (w ++ k)
    each [] k x = cc
    each (c ∷ w) k x = h c (w ++ k) (some_lead (lead_of true c) _ x)

-- a byte with which no word begins
pub not_word : (c b : ℕ) (m : List ℕ) → starts_word (c ∷ m) ≡ true → starts_word (b ∷ []) ≡ false → begins b (c ∷ m) ≡ false
not_word c b m h g = by_case (c == b) refl
  where
    by_case : (z : Bool) → (c == b) ≡ z → (c == b) ≡ false
    by_case true e = let no : true ≡ false = sym h ∙ ap (λ x. starts_word (x ∷ [])) (eqb-true c b e) ∙ g in cc
    by_case false e = e

-- one of two readers, by a flag
pub either_reader : {A : Type 0} {Stops : List ℕ → Type 0} (flag : Bool) (R R' : Reader A) → (flag ≡ true → IsReader Stops R) →
    (flag ≡ false → IsReader Stops R') → IsReader Stops (either flag R R')
either_reader {A = A} true R R' is is' = record {
  complete = λ v t k h stops. (is refl).complete v t k (first v t h) stops;
  right = λ s. each s (R.read s) ((is refl).right s);
  local = (is refl).local;
}
  where
    first : (v : A) (t : List ℕ) → (either true R R').Spells v t → R.Spells v t
    first v t (inl h) = h.1
    first v t (inr h) = let no : true ≡ false = h.0 in cc

    viable : (p : List ℕ) → (p ≡ []) ⊎ Viable R.Spells p → (p ≡ []) ⊎ Viable (either true R R').Spells p
    viable p (inl e) = inl e
    viable p (inr v) = inr (v.0, (v.1.0, inl (refl, v.1.1)))

    each : (s : List ℕ) (x : Res A) → Right R.Spells s x → Right (either true R R').Spells s x
    each s (got v k) h = (h.0, (inl (refl, h.1.0), h.1.1))
    each s (bad k) h = (h.0, (h.1.0, viable h.0 h.1.1))
either_reader {A = A} false R R' is is' = record {
  complete = λ v t k h stops. (is' refl).complete v t k (second v t h) stops;
  right = λ s. each s (R'.read s) ((is' refl).right s);
  local = (is' refl).local;
}
  where
    second : (v : A) (t : List ℕ) → (either false R R').Spells v t → R'.Spells v t
    second v t (inl h) = let no : true ≡ false = sym h.0 in cc
    second v t (inr h) = h.1

    viable : (p : List ℕ) → (p ≡ []) ⊎ Viable R'.Spells p → (p ≡ []) ⊎ Viable (either false R R').Spells p
    viable p (inl e) = inl e
    viable p (inr v) = inr (v.0, (v.1.0, inr (refl, v.1.1)))

    each : (s : List ℕ) (x : Res A) → Right R'.Spells s x → Right (either false R R').Spells s x
    each s (got v k) h = (h.0, (inr (refl, h.1.0), h.1.1))
    each s (bad k) h = (h.0, (h.1.0, viable h.0 h.1.1))
