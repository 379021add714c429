-- Words and names, by their texts.
use Rattle.std.proofs.Common.{◌≡◌, ℕ, List, Some, None}
use Rattle.names.specs.declared.name.Name.{Name}
use Rattle.rust_names.specs.RustText.{RustSpells}
use Rattle.names.specs.Claims.{WordSpells}
use Rattle.names.specs.Reading.{word}
use Rattle.names.proofs.Words.{word_reader}
use Rattle.names.proofs.Combined.{a_word}
use Rattle.rust_names.proofs.RustWhole.{rust_names, rust_names_reader, rust_names_some}
use Rattle.layout_words.specs.Spellings.{word_of, rust_name_of}
use Rattle.layout_words.proofs.Whole.{read_some, read_says, read_none}

pub word_some : (w text : List ℕ) → WordSpells w text → word_of text ≡ Some w
unfolding word_of
word_some w text h = read_some word word_reader tt a_word w text h

pub word_says : (w text : List ℕ) → word_of text ≡ Some w → WordSpells w text
unfolding word_of
word_says w text e = read_says word word_reader tt a_word w text e

pub word_none : (text : List ℕ) → ((w : List ℕ) → WordSpells w text → ⊥) → word_of text ≡ None
unfolding word_of
word_none text h = read_none word word_reader tt a_word text h

pub rust_name_some : (n : Name) (text : List ℕ) → RustSpells n text → rust_name_of text ≡ Some n
unfolding rust_name_of
rust_name_some n text h = read_some rust_names rust_names_reader tt rust_names_some n text h

pub rust_name_says : (n : Name) (text : List ℕ) → rust_name_of text ≡ Some n → RustSpells n text
unfolding rust_name_of
rust_name_says n text e = read_says rust_names rust_names_reader tt rust_names_some n text e

pub rust_name_none : (text : List ℕ) → ((n : Name) → RustSpells n text → ⊥) → rust_name_of text ≡ None
unfolding rust_name_of
rust_name_none text h = read_none rust_names rust_names_reader tt rust_names_some text h
