-- The names of entries: their texts, with those of the entries around them before, as names of Rust's grammar or raw.
use Rattle.std.specs.Prelude.{◌≡◌, ℕ, ◌==◌, nat_le, nat_lt, not, Bool, true, false, if◌then◌else◌, List, [], ◌∷◌, ◌++◌, length, map, filter, reverse, Option, Some, None, codes, is_some}
use Rattle.names.specs.Joined.{joined}
use Rattle.names.specs.Reading.{Res, got, bad, word}
use Rattle.names.specs.declared.name.Name.{Name, out-Name}
use Rattle.names.specs.declared.name.Name.TheOpen.{Name-F}
use Rattle.names.specs.declared.name.Name.TheVariants.{Raw}
use Rattle.names.specs.declared.name.Seg.{Seg}
use Rattle.rust_names.specs.RustGrammar.{rust}
use Rattle.dwarf_entries.specs.Dies.{Die, Info, ancestors, what}
use Rattle.dwarf_entries.specs.Tags.{passes, is_named_scope}
use Rattle.dwarf_entries.specs.Texts.{own_text}

-- the texts that these are the values of
pub record AreReadBy {A : Type 0} (Spells : A → List ℕ → Type 0) (value_in : List ℕ → Option A) : Type 0 where
  -- a text has this value where it is its text, and no other
  pub some : (value : A) (text : List ℕ) → Spells value text → value_in text ≡ Some value
  pub spelled : (value : A) (text : List ℕ) → value_in text ≡ Some value → Spells value text

-- what was read, where nothing is left
abbrev pub whole_of : {A : Type 0} → Res A → Option A
whole_of (got v []) = Some v
whole_of (got v (c ∷ rest)) = None
whole_of (bad rest) = None

-- the proper name that has the text in Rust's spelling, if there is one
unfoldable pub proper_name : List ℕ → Option Name
proper_name text = whole_of ((rust 64).whole.read text)

-- the text as a word, if it is one
unfoldable pub word_in : List ℕ → Option (List ℕ)
word_in text = whole_of (word.read text)

-- whether the text is a word
abbrev pub is_word : List ℕ → Bool
is_word text = is_some (word_in text)

abbrev pub named_or_raw : List ℕ → Option Name → Name
named_or_raw text None = Raw text
named_or_raw text (Some name) = name

-- the name of a text: the proper one of a text of at most 1,000 bytes, where there is one, and else the text itself
abbrev pub name_of_text : List ℕ → Name
name_of_text text = if nat_le (length text) 1000 then named_or_raw text (proper_name text) else Raw text

abbrev is_one_segment : Name-F Name Seg → Bool
is_one_segment (Name-F.Path segs) = length segs == 1
is_one_segment _ = false

-- the name of an entry whatever is around it: any but a path of one segment
abbrev pub stands_alone : Name → Bool
stands_alone name = not (is_one_segment (out-Name name))

-- there is such a name
abbrev pub is_complete : Option Name → Bool
is_complete None = false
is_complete (Some name) = stands_alone name

-- the texts of the namespaces, structures, enumerations and unions around an entry, the outermost first
abbrev pub texts_around : Info → Die → List (List ℕ)
texts_around info d = map (own_text info) (reverse (filter (λ o. passes is_named_scope (what o)) (ancestors d)))

-- the text of an entry's name: with the texts around it and `::` between each two, unless its own is a name of another shape
-- than one segment
abbrev pub joined_text : Info → Die → List ℕ
joined_text info d =
    if is_complete (proper_name (own_text info d)) then own_text info d
    else joined (codes "::") (texts_around info d ++ own_text info d ∷ [])

-- the name of an entry
abbrev pub name_of : Info → Die → Name
name_of info d = name_of_text (joined_text info d)

-- whether the joined text is too long for a name
abbrev pub is_too_long : Info → Die → Bool
is_too_long info d = nat_lt 65535 (length (joined_text info d))
