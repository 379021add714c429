-- The rules of a static's type: DWARF 5, 4.1.
use Rattle.std.specs.Prelude.{ℕ, if◌then◌else◌, Option, Some, None}
use Rattle.dwarf_entries.specs.Dies.{Die, Info}
use Rattle.dwarf_entries.specs.Origins.{goes_on}
use Rattle.dwarf_entries.specs.Rules.{missing, too_long}
use Rattle.dwarf_entries.specs.TypeLinks.{type_rule}

-- the type isn't found: there is a further origin, or there is none
abbrev pub lost_rule : Info → Die → ℕ
lost_rule info d = if goes_on info d then too_long else missing

-- the rule of the type of a static that this entry has, where one has it
abbrev pub bearer_rule : Info → Die → Option Die → Option ℕ
bearer_rule info d None = Some (lost_rule info d)
bearer_rule info d (Some o) = type_rule info o
