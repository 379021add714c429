-- The names of variants: DWARF 5, 5.7.10.
use Rattle.std.specs.Prelude.{ℕ, List, [], Option, Some, None}
use Rattle.dwarf_entries.specs.Dies.{Die, Info}
use Rattle.dwarf_entries.specs.Enums.{variant_member}
use Rattle.dwarf_entries.specs.Texts.{own_text}

abbrev text_of_member : Info → Option Die → List ℕ
text_of_member info None = []
text_of_member info (Some m) = own_text info m

-- the name of a variant is that of its first member
abbrev pub text_of_variant : Info → Die → List ℕ
text_of_variant info v = text_of_member info (variant_member info v)
