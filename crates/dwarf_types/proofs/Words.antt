-- Names that are words.
use Rattle.std.proofs.Common.{◌≡◌, ◌∙◌, ℕ, List, ap}
use Rattle.dwarf_entries.specs.Dies.{Info}
use Rattle.dwarf_entries.specs.Texts.{own_text}
use Rattle.dwarf_dies.specs.Handles.{DieIn}
use Rattle.dwarf_names.specs.Words.{word_or_blank}
use Rattle.dwarf_names.proofs.WordTexts.{word_stays}
use Rattle.dwarf_types.specs.Said.{IsNamed}

-- the word of an entry whose name is one
pub word_is_text : (info : Info) (a : DieIn) → a.info ≡ info → IsNamed info a.die → (w : List ℕ) → w ≡ word_or_blank (own_text a.info a.die) → w ≡ own_text info a.die
word_is_text info a here named w is = is ∙ ap (λ (i : Info). word_or_blank (own_text i a.die)) here ∙ word_stays (own_text info a.die) named
