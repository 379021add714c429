-- `_` is a word.
use Rattle.dwarf_names.specs.Words.{blank}
use Rattle.dwarf_names.proofs.WordTexts.{blank_spelled}
use Rattle.dwarf_names.proofs.word.blank.Goals as goal

pub unreachable-requires : goal.unreachable-requires
unreachable-requires c =
    let bad = rw c.in-Err-BadName.field-0-is at c.in-Err-BadName.ensures in
    bad.none blank blank_spelled
