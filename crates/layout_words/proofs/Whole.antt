-- What is read of a whole text.
use Rattle.std.proofs.Common.{◌≡◌, ◌∙◌, sym, ap, subst, refl, ℕ, List, [], ◌∷◌, append-nil, Option, Some, None}
use Rattle.std.proofs.lemmas.Option.{same_Some}
use Rattle.names.specs.Reading.{Res, got, bad, Reader}
use Rattle.names.proofs.Readers.{IsReader, Inhabited}
use Rattle.names.proofs.Whole.{read_whole}
use Rattle.layout_words.specs.Spellings.{all_read}

module _ {A : Type 0} {Stops : List ℕ → Type 0} (R : Reader A) (is : IsReader Stops R) (end : Stops []) (some : Inhabited R) where
  pub read_some : (v : A) (t : List ℕ) → R.Spells v t → all_read (R.read t) ≡ Some v
  read_some v t h = ap all_read (ap R.read (sym (append-nil t)) ∙ is.complete v t [] h end)

  says_by : (v : A) (t : List ℕ) (r : Res A) → R.read t ≡ r → all_read r ≡ Some v → R.Spells v t
  says_by v t (got w []) e h = subst (λ x. R.Spells x t) (same_Some w v h) (read_whole R is end some t [] w e refl)
  says_by v t (got w (c ∷ k)) e h = absurd (cc)
  says_by v t (bad k) e h = absurd (cc)

  pub read_says : (v : A) (t : List ℕ) → all_read (R.read t) ≡ Some v → R.Spells v t
  read_says v t h = says_by v t (R.read t) refl h

  none_by : (t : List ℕ) → ((v : A) → R.Spells v t → ⊥) → (o : Option A) → all_read (R.read t) ≡ o → all_read (R.read t) ≡ None
  none_by t h None e = e
  none_by t h (Some v) e = absurd (h v (read_says v t e))

  pub read_none : (t : List ℕ) → ((v : A) → R.Spells v t → ⊥) → all_read (R.read t) ≡ None
  read_none t h = none_by t h (all_read (R.read t)) refl
