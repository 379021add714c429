-- The readers of names and of words, on whole texts.
use Rattle.std.proofs.Common.{◌≡◌, ℕ, List, [], ◌∷◌, Option, Some, None, sym, ap, subst, refl, ◌∙◌, append-nil}
use Rattle.names.specs.Claims.{IsBadAt, WordSpells}
use Rattle.names.specs.Reading.{Res, got, bad, Reader, word}
use Rattle.names.specs.declared.name.Name.{Name}
use Rattle.names.proofs.Readers.{IsReader, Right}
use Rattle.names.proofs.Words.{word_reader}
use Rattle.rust_names.specs.RustText.{RustSpells}
use Rattle.rust_names.proofs.RustWhole.{rust_names, rust_names_reader}
use Rattle.dwarf_entries.specs.Names.{AreReadBy, proper_name, whole_of, word_in}

module _ {A : Type 0} {Stops : List ℕ → Type 0} (R : Reader A) (is : IsReader Stops R) (end : Stops []) where
  -- what has the text is read from it
  read_some : (v : A) (t : List ℕ) → R.Spells v t → whole_of (R.read t) ≡ Some v
  read_some v t h = ap whole_of (ap R.read (sym (append-nil t)) ∙ is.complete v t [] h end)

  -- what is read has the text
  spelled_by : (v : A) (t : List ℕ) (x : Res A) → R.read t ≡ x → whole_of x ≡ Some v → R.Spells v t
  spelled_by v t (got w []) e h =
      let r = subst (Right R.Spells t) e (is.right t) in
      let same : w ≡ v = cc in
      subst (λ u. R.Spells u t) same (subst (R.Spells w) (sym (r.1.1 ∙ append-nil r.0)) r.1.0)
  spelled_by v t (got w (c ∷ k)) e h = let clash : ◌≡◌ {A = Option A} None (Some v) = h in absurd cc
  spelled_by v t (bad k) e h = let clash : ◌≡◌ {A = Option A} None (Some v) = h in absurd cc

  -- where nothing has the text nothing is read
  none_by : (t : List ℕ) (x : Option A) → whole_of (R.read t) ≡ x → ((v : A) → R.Spells v t → ⊥) → x ≡ None
  none_by t None e none = refl
  none_by t (Some v) e none = absurd (none v (spelled_by v t (R.read t) refl e))

-- a proper name is read from its text
pub some_name : (name : Name) (text : List ℕ) → RustSpells name text → Some name ≡ proper_name text
unfolding proper_name
some_name name text h = sym (read_some rust_names rust_names_reader tt name text h)

pub no_name : (text : List ℕ) (at : ℕ) → IsBadAt RustSpells text at → None ≡ proper_name text
unfolding proper_name
no_name text at h = sym (none_by rust_names rust_names_reader tt text (proper_name text) refl h.none)

pub some_word : (w text : List ℕ) → WordSpells w text → Some w ≡ word_in text
unfolding word_in
some_word w text h = sym (read_some word word_reader tt w text h)

pub no_word : (text : List ℕ) (at : ℕ) → IsBadAt WordSpells text at → None ≡ word_in text
unfolding word_in
no_word text at h = sym (none_by word word_reader tt text (word_in text) refl h.none)

-- proper names are what their texts are read as
pub names_read : AreReadBy RustSpells proper_name
unfolding proper_name
names_read = record {
  some = λ name text h. read_some rust_names rust_names_reader tt name text h;
  spelled = λ name text h. spelled_by rust_names rust_names_reader tt name text (rust_names.read text) refl h;
}

-- and so are words
pub words_read : AreReadBy WordSpells word_in
unfolding word_in
words_read = record {
  some = λ w text h. read_some word word_reader tt w text h;
  spelled = λ w text h. spelled_by word word_reader tt w text (word.read text) refl h;
}
