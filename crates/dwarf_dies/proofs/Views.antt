-- What a view is, by the units that were read.
use Rattle.std.proofs.Common.{◌≡◌, ℕ, ◌+◌, List, [], length, refl, sym, ap, ◌∙◌, append-nil}
use Rattle.rv_bytes.specs.Readers.{got}
use Rattle.dwarf_units.specs.Units.{CompileUnit, AreUnits, at_start}
use Rattle.dwarf_units.specs.UnitReaders.{read_units}
use Rattle.dwarf_units.proofs.UnitReads.{units_exact}
use Rattle.dwarf_entries.specs.Dies.{Info, info_of}
use Rattle.dwarf_entries.specs.Shapes.{Sections}
use Rattle.dwarf_dies.specs.Units.{dwarf_units}
use Rattle.dwarf_dies.specs.Views.{units_or_none, info_read}

units_got : (abbrevs info : List ℕ) (us : List CompileUnit) → AreUnits abbrevs info us → read_units abbrevs (at_start (length info)) 0 info ≡ got us (0 + length info) []
units_got abbrevs info us h = ap (read_units abbrevs (at_start (length info)) 0) (sym (append-nil info)) ∙ (units_exact abbrevs (at_start (length info))).reads 0 us info [] h

-- the view is of the units that the bytes are
pub info_is : (abbrevs : List ℕ) (sections : Sections) (us : List CompileUnit) → AreUnits abbrevs sections.info us → info_read abbrevs sections ≡ info_of sections (dwarf_units us)
unfolding info_read
info_is abbrevs sections us h = ap (λ x. info_of sections (dwarf_units (units_or_none x))) (units_got abbrevs sections.info us h)
