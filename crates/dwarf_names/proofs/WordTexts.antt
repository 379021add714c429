-- Words that are read, and `_`. For callers: a text that is a word is that word.
use Rattle.std.proofs.Common.{◌≡◌, ℕ, List, Option, Some, None, IsTrue, is_some, unwrap_or, refl, sym, arith}
use Rattle.names.specs.Claims.{WordSpells}
use Rattle.names.specs.Words.{AreChars}
use Rattle.dwarf_entries.specs.Names.{is_word, word_in}
use Rattle.dwarf_entries.proofs.ProperNames.{words_read}
use Rattle.dwarf_names.specs.Words.{blank, word_or_blank}

pub word_is : (w text : List ℕ) → Some w ≡ word_in text → w ≡ text
word_is w text h = sym (words_read.spelled w text (sym h)).1

-- for callers: nothing stands for a text that is a word
pub word_stays : (text : List ℕ) → IsTrue (is_word text) → word_or_blank text ≡ text
word_stays text h = stays_by (word_in text) refl h
  where
    stays_by : (w : Option (List ℕ)) → word_in text ≡ w → IsTrue (is_some w) → unwrap_or w blank ≡ text
    stays_by None e g = absurd (cc)
    stays_by (Some w) e g = word_is w text (sym e)

pub blank_spelled : WordSpells blank blank
unfolding AreChars
blank_spelled = ((refl, omega arith), refl)
