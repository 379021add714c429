-- Entries with what is around them: who owns them, and their unit's bases. DWARF 5, 2.3, 3.1.1 and 7.5.1.
use Rattle.std.specs.Prelude.{ℕ, ◌+◌, ◌==◌, Bool, false, if◌then◌else◌, List, [], ◌∷◌, filter, find, flat_map, slice_get, Option, Some, None, option_and_then}
use Rattle.dwarf_abbrev.specs.Values.{Val}
use Rattle.dwarf_entries.specs.Codes.{at_str_offsets_base, at_addr_base}
use Rattle.dwarf_entries.specs.Lookups.{value_of}
use Rattle.dwarf_entries.specs.Shapes.{Entry, DwarfUnit, Sections}
use Rattle.dwarf_entries.specs.Tags.{tag_of}
use Rattle.dwarf_entries.specs.declared.sections.Bases.{Bases}
use Rattle.dwarf_entries.specs.declared.tag.Tag.{Tag}

-- an entry, the entries that own it, its parent first and the first entry of its unit last, and where its unit begins
pub record Die : Type 0 where
  pub start : ℕ
  pub bases : Bases
  pub owners : List Entry
  pub entry : Entry

-- all entries of `.debug_info` in order, and the sections that they lead to
pub record Info : Type 0 where
  pub sections : Sections
  pub dies : List Die

-- an offset of another section; a base of another class is no base
abbrev pub offset_in : Val → Option ℕ
offset_in (Val.SecOffset n) = Some n
offset_in _ = None

abbrev pub base_in : ℕ → Option Entry → Option ℕ
base_in code None = None
base_in code (Some e) = option_and_then offset_in (value_of code e)

-- the bases of a unit are those of its first entry
abbrev pub bases_of : Option Entry → Bases
bases_of first = record { text_offsets = base_in at_str_offsets_base first; addrs = base_in at_addr_base first }

-- the part of a way up that begins with the entry of this number
abbrev pub way_from : ℕ → List Entry → List Entry
way_from number [] = []
way_from number (e ∷ way) = if e.number == number then e ∷ way else way_from number way

-- of the entries on the way from the last one to its root, those that own one with this parent
abbrev pub owning : Option ℕ → List Entry → List Entry
owning None way = []
owning (Some number) way = way_from number way

-- the entries that follow, where the last one and those that own it are `way`
abbrev pub dies_after : DwarfUnit → List Entry → List Entry → List Die
dies_after unit way [] = []
dies_after unit way (e ∷ entries) =
    record { start = unit.start; bases = bases_of (slice_get unit.entries 0); owners = owning e.up way; entry = e }
    ∷ dies_after unit (e ∷ owning e.up way) entries

-- all entries of a unit
abbrev pub dies_of : DwarfUnit → List Die
dies_of unit = dies_after unit [] unit.entries

-- all entries of these units, which lead to these sections
abbrev pub info_of : Sections → List DwarfUnit → Info
info_of sections units = record { sections = sections; dies = flat_map dies_of units }

-- what an entry describes
abbrev pub what : Die → Option Tag
what d = tag_of d.entry.tag

-- the entries that own one, each with those that own it
abbrev pub ancestors_in : Die → List Entry → List Die
ancestors_in d [] = []
ancestors_in d (e ∷ owners) = record { start = d.start; bases = d.bases; owners = owners; entry = e } ∷ ancestors_in d owners

abbrev pub ancestors : Die → List Die
ancestors d = ancestors_in d d.owners

-- the entry that owns it
abbrev pub parent_of : Die → Option Die
parent_of d = slice_get (ancestors d) 0

abbrev pub is_owned_by : ℕ → List Entry → Bool
is_owned_by offset [] = false
is_owned_by offset (e ∷ owners) = e.offset == offset

-- the entries whose parent it is, in order
abbrev pub children_of : Info → Die → List Die
children_of info d = filter (λ c. is_owned_by d.entry.offset c.owners) info.dies

-- the entry that begins at this offset
abbrev pub die_at : Info → ℕ → Option Die
die_at info offset = find (λ d. d.entry.offset == offset) info.dies

-- where a reference leads: so many bytes from the start of the unit, or of the section
abbrev pub target_of : ℕ → Val → Option ℕ
target_of start (Val.UnitRef n) = Some (start + n)
target_of start (Val.InfoRef n) = Some n
target_of start _ = None

-- the entry to which the first attribute with this code leads
abbrev pub linked : Info → ℕ → Die → Option Die
linked info code d = option_and_then (die_at info) (option_and_then (target_of d.start) (value_of code d.entry))
