-- The readers of names and of words, on whole texts.
use Rattle.std.proofs.Common.{◌≡◌, ℕ, true, false, List, [], ◌∷◌, Option, Some, None, is_some, sym, ap, subst, refl, ◌∙◌, append-nil}
use Rattle.names.specs.Claims.{IsBadAt, WordSpells}
use Rattle.names.specs.Reading.{Res, got, bad, Reader, word}
use Rattle.names.specs.declared.name.Name.{Name}
use Rattle.names.proofs.Readers.{IsReader, Right}
use Rattle.names.proofs.Words.{word_reader}
use Rattle.cv_names.specs.CvText.{CvSpells}
use Rattle.cv_names.proofs.CvWhole.{cv_names, cv_names_reader}
use Rattle.cv_type_defs.specs.Texts.{is_word, proper_name, whole_of}

module _ {A : Type 0} {Stops : List ℕ → Type 0} (R : Reader A) (is : IsReader Stops R) (end : Stops []) where
  -- what has the text is read from it
  read_some : (v : A) (t : List ℕ) → R.Spells v t → whole_of (R.read t) ≡ Some v
  read_some v t h = ap whole_of (ap R.read (sym (append-nil t)) ∙ is.complete v t [] h end)

  -- what is read has the text
  spelled_by : (v : A) (t : List ℕ) (x : Res A) → R.read t ≡ x → whole_of x ≡ Some v → R.Spells v t
  spelled_by v t (got w []) e h =
      let r = subst (Right R.Spells t) e (is.right t) in
      let same : w ≡ v = cc in
      subst (λ u. R.Spells u t) same (subst (R.Spells w) (sym (r.1.1 ∙ append-nil r.0)) r.1.0)
  spelled_by v t (got w (c ∷ k)) e h = let clash : ◌≡◌ {A = Option A} None (Some v) = h in absurd cc
  spelled_by v t (bad k) e h = let clash : ◌≡◌ {A = Option A} None (Some v) = h in absurd cc

  -- where nothing has the text nothing is read
  none_by : (t : List ℕ) (x : Option A) → whole_of (R.read t) ≡ x → ((v : A) → R.Spells v t → ⊥) → x ≡ None
  none_by t None e none = refl
  none_by t (Some v) e none = absurd (none v (spelled_by v t (R.read t) refl e))

-- a name is read from its text
pub some_name : (name : Name) (text : List ℕ) → CvSpells name text → Some name ≡ proper_name text
unfolding proper_name
some_name name text h = sym (read_some cv_names cv_names_reader tt name text h)

pub no_name : (text : List ℕ) (at : ℕ) → IsBadAt CvSpells text at → None ≡ proper_name text
unfolding proper_name
no_name text at h = sym (none_by cv_names cv_names_reader tt text (proper_name text) refl h.none)

pub some_word : (w text : List ℕ) → WordSpells w text → true ≡ is_word text
unfolding is_word
some_word w text h = sym (ap is_some (read_some word word_reader tt w text h))

pub no_word : (text : List ℕ) (at : ℕ) → IsBadAt WordSpells text at → false ≡ is_word text
unfolding is_word
no_word text at h = sym (ap is_some (none_by word word_reader tt text (whole_of (word.read text)) refl h.none))
