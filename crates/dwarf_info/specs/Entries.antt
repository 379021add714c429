-- Where sections don't split into units.
use Rattle.std.specs.Prelude.{ℕ, List}
use Rattle.rv_bytes.specs.Forms.{Form}
use Rattle.dwarf_units.specs.declared.fault.UnitsErr.{UnitsErr}
use Rattle.dwarf_entries.specs.Items.{Spot}
use Rattle.dwarf_entries.specs.Shapes.{DwarfUnit}
use Rattle.dwarf_entries.specs.TextResults.{spot_of}
use Rattle.layout_set.specs.declared.refusal.ReadErr.{ReadErr}
use Rattle.layout_set.specs.declared.refusal.Section.{Section}

-- the refusal of units, with its section
abbrev pub refusal_of : UnitsErr → ReadErr
refusal_of (UnitsErr.Info offset rule) = ReadErr.Refused (record { section = Section.Info; offset = offset; rule = rule })
refusal_of (UnitsErr.Abbrev offset rule) = ReadErr.Refused (record { section = Section.Abbrev; offset = offset; rule = rule })
refusal_of UnitsErr.Memory = ReadErr.Memory

-- the first invalid item of these bytes; out of memory says nothing of them
abbrev pub IsSplitFault : Form Spot (List DwarfUnit) → List ℕ → ReadErr → Type 0
IsSplitFault units info (ReadErr.Refused r) = units.faults 0 info r.rule (spot_of r)
IsSplitFault units info ReadErr.Memory = Unit {0}
