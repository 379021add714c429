-- What is read of sections: the set that they describe, or why they are refused.
use Rattle.std.specs.Prelude.{◌≡◌, length, Some, None, Result, Ok, Err, ◌⊎◌}
use Rattle.bundle_file.specs.declared.sections.DwarfSections.{DwarfSections}
use Rattle.layout_set.specs.Laws.{IsSound}
use Rattle.layout_set.specs.declared.refusal.ReadErr.{ReadErr}
use Rattle.layout_set.specs.declared.set.Set.{Set}
use Rattle.dwarf_entries.specs.Dies.{Info}
use Rattle.dwarf_entries.specs.Items.{first_fault}
use Rattle.dwarf_entries.specs.Said.{Describes, IsRefusedAt, IsUnsound, items, said, set_of}
use Rattle.dwarf_entries.specs.Shapes.{Sections}
use Rattle.dwarf_entries.specs.TextResults.{spot_of}
use Rattle.dwarf_dies.specs.Units.{all_units}

-- the bytes of the sections that entries lead to
abbrev pub bytes_in : DwarfSections → Sections
bytes_in s = record {
  info = s.info;
  text = s.text;
  line_text = s.line_text;
  text_offsets = s.text_offsets;
  addrs = s.addrs;
  locs = s.locs;
  ranges = s.ranges;
}

-- the sections describe this set of types and statics
abbrev pub DescribeSet : DwarfSections → Set → Type 0
DescribeSet s set = Describes (bytes_in s) (all_units s.abbrev (length s.info)) set

-- the first rule that the sections break; out of memory says nothing of them
abbrev pub AreRefusedBy : DwarfSections → ReadErr → Type 0
AreRefusedBy s (ReadErr.Refused r) = IsRefusedAt (bytes_in s) (all_units s.abbrev (length s.info)) r.rule (spot_of r)
AreRefusedBy s ReadErr.Memory = Unit {0}

-- the set is what the entries say, none of whose items breaks a rule, and it is sound
pub record IsSetOf (info : Info) (set : Set) : Type 0 where
  pub none : first_fault (items info) ≡ None
  pub sound : IsSound (set_of info)
  pub is : set ≡ set_of info

-- why entries say no sound set: an item breaks a rule, or what they say isn't sound
abbrev pub RefusesEntries : Info → ReadErr → Type 0
RefusesEntries info (ReadErr.Refused r) = (first_fault (items info) ≡ Some (r.rule, spot_of r)) ⊎ ((first_fault (items info) ≡ None) × IsUnsound (said info) r.rule (spot_of r))
RefusesEntries info ReadErr.Memory = Unit {0}

-- what a reader of sections answers
abbrev pub IsReading : DwarfSections → Result Set ReadErr → Type 0
IsReading s (Ok set) = DescribeSet s set
IsReading s (Err e) = AreRefusedBy s e

-- no sections are without a set that they describe or a first rule that they break
abbrev pub HaveReading : Type 0
HaveReading = (s : DwarfSections) → ((r : Result Set ReadErr) → (r ≡ Err ReadErr.Memory → ⊥) → IsReading s r → ⊥) → ⊥
