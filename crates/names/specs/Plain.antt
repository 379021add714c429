-- The plain segment `str`, and words and levels compared.
use Rattle.std.specs.Prelude.{ℕ, zero, suc, ◌&&◌, Bool, true, false, List, [], ◌∷◌, Option, Some, None, bytes_eq, codes}
use Rattle.names.specs.declared.name.Name.{Name}
use Rattle.names.specs.declared.name.Seg.{Seg}

-- the word has these bytes
abbrev pub is_word : List ℕ → List ℕ → Bool
is_word w other = bytes_eq w other

-- there is no number
abbrev pub is_none : Option ℕ → Bool
is_none None = true
is_none (Some n) = false

-- there are no names
abbrev pub is_empty : List Name → Bool
is_empty [] = true
is_empty (x ∷ xs) = false

-- the segment is `str` without a number and without args
abbrev pub is_plain_str : Seg → Bool
is_plain_str s = is_word s.word (codes "str") && (is_none s.number && is_empty s.args)

-- there is a level of names below
abbrev pub has_some : ℕ → Bool
has_some zero = false
has_some (suc d) = true
