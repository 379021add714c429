-- The names of types, as names of CodeView's spelling or raw.
use Rattle.std.specs.Prelude.{ℕ, ◌-◌, ◌&&◌, nat_le, nat_eq, Bool, if◌then◌else◌, List, [], ◌∷◌, length, take, drop, Option, Some, None, is_some, codes}
use Rattle.std.specs.List.{ends_with}
use Rattle.cv_names.specs.CvGrammar.{cv}
use Rattle.names.specs.Reading.{Res, got, bad, word}
use Rattle.names.specs.declared.name.Name.{Name}
use Rattle.names.specs.declared.name.Name.TheVariants.{Raw}
use Rattle.cv_type_defs.specs.Numbering.{is_closed, is_enum_name}

-- what was read, where nothing is left
abbrev pub whole_of : {A : Type 0} → Res A → Option A
whole_of (got v []) = Some v
whole_of (got v (c ∷ rest)) = None
whole_of (bad rest) = None

-- the name that has the text in CodeView's spelling, if there is one
unfoldable pub proper_name : List ℕ → Option Name
proper_name text = whole_of ((cv 64).whole.read text)

-- whether the text is a word
unfoldable pub is_word : List ℕ → Bool
is_word text = is_some (whole_of (word.read text))

abbrev pub named_or_raw : List ℕ → Option Name → Name
named_or_raw text None = Raw text
named_or_raw text (Some name) = name

-- the name of a text: the proper one of a text of at most 1,000 bytes, where there is one, and else the text itself
abbrev pub name_of_text : List ℕ → Name
name_of_text text = if nat_le (length text) 1000 then named_or_raw text (proper_name text) else Raw text

-- a text without its last byte
abbrev pub without_last : List ℕ → List ℕ
without_last text = take (length text - 1) text

-- a text without one space at its end
abbrev pub without_space : List ℕ → List ℕ
without_space text = if ends_with nat_eq text (codes " ") then without_last text else text

-- the text X of a name `enum2$<X>`, and the name where it is no such
abbrev pub enum_text : List ℕ → List ℕ
enum_text name =
    if is_closed name && is_enum_name (without_last name) then without_space (drop (length (codes "enum2$<")) (without_last name)) else name
