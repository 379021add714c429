-- Names told apart by their Rust texts. Private: law 10 speaks of names.
use Rattle.std.specs.Prelude.{◌≢◌, ℕ, ◌<◌, Bool, true, false, not, List, map, Option, Some, None, slice_index_or}
use Rattle.std.specs.List.{list_any}
use Rattle.std.specs.Str.{bytes_eq}
use Rattle.std.specs.Borrow.{Bor}
use Rattle.indexmap.specs.IndexSet.{IndexSet}
use Rattle.names.specs.declared.name.Name.{Name}
use Rattle.type_names.specs.RustText.{rust_text}
use Rattle.layout_set.specs.declared.set.TypeDef.{TypeDef}
use Rattle.layout_set.specs.NameShapes.{is_raw}
use Rattle.layout_set.specs.DerivedNames.{name_of}

abbrev pub text_unless : Bool → Name → Option (List ℕ)
text_unless true name = None
text_unless false name = Some (rust_text name)

abbrev pub text_of_name : Option Name → Option (List ℕ)
text_of_name None = None
text_of_name (Some name) = text_unless (is_raw name) name

-- the Rust text of a type's name, if it has one that is no raw text
abbrev pub rust_text_of : TypeDef → Option (List ℕ)
rust_text_of t = text_of_name (name_of t)

abbrev pub TextsApart : Option (List ℕ) → Option (List ℕ) → Type 0
TextsApart None o = Unit {0}
TextsApart (Some a) None = Unit {0}
TextsApart (Some a) (Some b) = a ≢ b

-- no earlier text is the one at this place
unfoldable pub IsNewText : List (Option (List ℕ)) → ℕ → Type 0
IsNewText texts i = (j : ℕ) (a b : Option (List ℕ)) → j < i → TextsApart (slice_index_or texts j a) (slice_index_or texts i b)

-- the texts in the order of their first use
abbrev pub texts_of : {S : Type 0} → IndexSet (Bor (List ℕ)) S → List (List ℕ)
texts_of s = map (λ k. k.now) s.keys

abbrev pub is_new : List (List ℕ) → Option (List ℕ) → Bool
is_new texts None = true
is_new texts (Some a) = not (list_any (bytes_eq a) texts)
