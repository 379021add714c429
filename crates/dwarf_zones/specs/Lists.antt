-- Where attributes lead that name a list: DWARF 5, 2.6.2, 2.17.3, 7.28 and 7.29, with offsets of 4 bytes.
use Rattle.std.specs.Prelude.{ℕ, ◌+◌, nat_lt, if◌then◌else◌, List, length, Option, Some, None, option_and_then}
use Rattle.dwarf_abbrev.specs.Values.{Val}
use Rattle.dwarf_entries.specs.Codes.{at_loclists_base, at_rnglists_base}
use Rattle.dwarf_entries.specs.Dies.{Die, Info}
use Rattle.dwarf_entries.specs.Texts.{indexed}
use Rattle.dwarf_zones.specs.Units.{base_by}

-- a place of the section
abbrev pub inside : List ℕ → ℕ → Option ℕ
inside section at = if nat_lt at (length section) then Some at else None

-- the place of the list at an index: the offset there counts from the base
abbrev pub indexed_place : List ℕ → Option ℕ → ℕ → Option ℕ
indexed_place section None index = None
indexed_place section (Some base) index = option_and_then (λ offset. inside section (base + offset)) (indexed 4 section (Some base) index)

-- the place of the range list that a value names; None where it leads outside, or has no base
abbrev pub ranges_place : Info → Die → Val → Option ℕ
ranges_place info d (Val.SecOffset n) = inside info.sections.ranges n
ranges_place info d (Val.RangeIndex i) = indexed_place info.sections.ranges (base_by at_rnglists_base d) i
ranges_place info d _ = None

-- the place of the location list that a value names
abbrev pub locations_place : Info → Die → Val → Option ℕ
locations_place info d (Val.SecOffset n) = inside info.sections.locs n
locations_place info d (Val.LocIndex i) = indexed_place info.sections.locs (base_by at_loclists_base d) i
locations_place info d _ = None
