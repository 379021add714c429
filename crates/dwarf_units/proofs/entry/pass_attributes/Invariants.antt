use Rattle.std.proofs.Common.{◌≡◌, drop}
use Rattle.rv_bytes.specs.Readers.{with_value}
use Rattle.dwarf_units.specs.EntryReaders.{nothing_of, read_attributes}
use Rattle.dwarf_units.proofs.entry.pass_attributes.Given as goal

-- the attributes that are left are read as all are
abbrev pub invariant-loop-spec : goal.invariant-loop-spec
invariant-loop-spec l = with_value nothing_of (read_attributes (drop l.spec-index l.specs) l.cut.at l.cut.rest) ≡ with_value nothing_of (read_attributes l.specs l.fn.cut.at l.fn.cut.rest)
