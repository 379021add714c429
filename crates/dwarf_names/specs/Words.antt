-- Words for names that are to be words.
use Rattle.std.specs.Prelude.{ℕ, List, codes, unwrap_or}
use Rattle.dwarf_entries.specs.Names.{word_in}

-- stands for a text that is no word
abbrev pub blank : List ℕ
blank = codes "_"

-- the word that a text is
abbrev pub word_or_blank : List ℕ → List ℕ
word_or_blank text = unwrap_or (word_in text) blank
