-- The readers of units, for proofs.
use Rattle.std.specs.Prelude.{◌≡◌, ℕ, ◌==◌, List, [], ◌∷◌, length, drop, Option, Result, Ok, Err}
use Rattle.rv_bytes.specs.Places.{Place}
use Rattle.rv_bytes.specs.Readers.{Res, got, bad, Reader, and_then, with_value, as_item, read_row}
use Rattle.rv_bytes.specs.NumberReaders.{read_number}
use Rattle.rv_bytes.specs.NestedReaders.{read_boxed, read_elsewhere, spotted}
use Rattle.rv_bytes.specs.declared.err.DwErr.{DwErr}
use Rattle.dwarf_abbrev.specs.TableReaders.{read_table}
use Rattle.dwarf_abbrev.specs.declared.decl.Abbrev.{Abbrev}
use Rattle.dwarf_units.specs.Rules.{version, not_compile, address_size}
use Rattle.dwarf_units.specs.Spots.{Spot, in_info, in_abbrev}
use Rattle.dwarf_units.specs.EntryReaders.{read_tree}
use Rattle.dwarf_units.specs.Units.{CompileUnit, wants, length_breaks, table_breaks, SoFar, unit_of, after_unit}
use Rattle.dwarf_units.specs.declared.fault.UnitsErr.{UnitsErr}

-- the reader of `field`
abbrev pub read_field : ℕ → (ℕ → Option ℕ) → Reader Spot ℕ
read_field width breaks n s = spotted in_info (as_item breaks n (read_number width n s))

-- the reader of `header`
abbrev pub read_header : List ℕ → Reader Spot ℕ
read_header abbrevs n s =
    and_then (read_field 2 (wants 5 version) n s) (λ _ n s. and_then (read_field 1 (wants 1 not_compile) n s) (λ _ n s. and_then (read_field 1 (wants 8 address_size) n s)
    (λ _ n s. read_field 4 (table_breaks abbrevs) n s)))

-- the reader of the table at a place of `.debug_abbrev`
abbrev pub read_table_at : List ℕ → ℕ → Reader Spot (List Abbrev)
read_table_at abbrevs at n s = read_elsewhere abbrevs at (λ n s. spotted in_abbrev (read_table n s)) n s

-- the reader of `body`
abbrev pub read_body : List ℕ → SoFar → ℕ → ℕ → Reader Spot CompileUnit
read_body abbrevs s n size m t =
    and_then (read_header abbrevs m t) (λ at m t. and_then (read_table_at abbrevs at m t) (λ list m t. with_value (unit_of n size at list) (spotted in_info (read_tree list s.units s.nodes m t))))

-- the reader of `unit`
abbrev pub read_unit : List ℕ → SoFar → Reader Spot CompileUnit
read_unit abbrevs s n t = and_then (read_field 4 length_breaks n t) (λ size m k. read_boxed (in_info n) size (read_body abbrevs s n size) m k)

-- the reader of the row of `units`
abbrev pub read_units : List ℕ → SoFar → Reader Spot (List CompileUnit)
read_units abbrevs s n t = read_row (λ s. s.left == 0) (read_unit abbrevs) after_unit (in_info 0) s n t

-- the refusal that lies in `.debug_info`, or in `.debug_abbrev`
abbrev pub info_refusal : DwErr → UnitsErr
info_refusal (DwErr.Refused offset rule) = UnitsErr.Info offset rule
info_refusal DwErr.Memory = UnitsErr.Memory

abbrev pub abbrev_refusal : DwErr → UnitsErr
abbrev_refusal (DwErr.Refused offset rule) = UnitsErr.Abbrev offset rule
abbrev_refusal DwErr.Memory = UnitsErr.Memory

-- the reader gives the value, as `view` sees it, and the place p, or the refusal; out of memory says nothing of the bytes
abbrev pub ReadsUnits : {A B : Type 0} → (B → A) → Res Spot A → Result B UnitsErr → Place → Type 0
ReadsUnits view r (Ok v) p = r ≡ got (view v) p.at p.rest
ReadsUnits view r (Err (UnitsErr.Info offset rule)) p = r ≡ bad rule (in_info offset)
ReadsUnits view r (Err (UnitsErr.Abbrev offset rule)) p = r ≡ bad rule (in_abbrev offset)
ReadsUnits view r (Err UnitsErr.Memory) p = Unit {0}

-- the reader of tables refuses at this place of `.debug_abbrev`
abbrev pub IsTableFault : List ℕ → ℕ → DwErr → Type 0
IsTableFault abbrevs at (DwErr.Refused offset rule) = read_table at (drop at abbrevs) ≡ bad rule offset
IsTableFault abbrevs at DwErr.Memory = Unit {0}
