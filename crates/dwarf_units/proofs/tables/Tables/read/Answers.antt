-- The table that is added begins at its place, and the others stay.
use Rattle.std.proofs.Common.{sym, ◌∙◌}
use Rattle.std.proofs.lemmas.Result.{err_from_is_err_and}
use Rattle.dwarf_abbrev.proofs.Codes.{succeeds}
use Rattle.dwarf_units.proofs.KeptTables.{table_fault, begin}
use Rattle.dwarf_units.proofs.tables.Tables.read.Goals as goal

pub returns-in_err-table-clause-refused : goal.returns-in_err-table-clause-refused
returns-in_err-table-clause-refused c =
    let p = err_from_is_err_and c.from_residual.result c.from_residual.ensures.1 in
    rw (p.1, p.2) (table_fault c.args.abbrevs.now c.args.at _ c.requires.inside c.in_err-table.ensures.refused)

pub returns-clause-tables : goal.returns-clause-tables
returns-clause-tables c =
    begin c.args.abbrevs.now c.args.self.now.by_offset c.insert.new.self c.args.at c.in_ok-table.table c.requires.tables c.in_ok-table.ensures.table
    (succeeds c.insert.result _ (sym c.is_err.ensures.value ∙ c.if-is_err.false) c.insert.ensures.updates)
