-- The reader's words carry over from the place on, since it is exact.
use Rattle.std.proofs.Common.{subst}
use Rattle.rv_bytes.specs.Places.{Place}
use Rattle.rv_bytes.specs.Results.{Reads}
use Rattle.rv_bytes.proofs.Sections.{begins_at, is_fault_at}
use Rattle.dwarf_abbrev.specs.Rules.{table_outside}
use Rattle.dwarf_abbrev.specs.Tables.{table}
use Rattle.dwarf_abbrev.specs.TableReaders.{read_table}
use Rattle.dwarf_abbrev.proofs.Tables.{table_exact}
use Rattle.dwarf_abbrev.proofs.table.read_table.Goals as goal

pub returns-clause-table : goal.returns-clause-table
returns-clause-table c =
    let P : Place → Type 0 = λ q. Reads (read_table q.at q.rest) c.read_decls.result c.read_decls.new.cut in
    begins_at table read_table table_exact c.args.section.now c.args.at c.if-at-section.false c.read_decls.new.cut c.read_decls.result (subst P c.from_place-cut.ensures c.read_decls.ensures)

pub returns-clause-refused : goal.returns-clause-refused
returns-clause-refused c =
    let P : Place → Type 0 = λ q. Reads (read_table q.at q.rest) c.read_decls.result c.read_decls.new.cut in
    is_fault_at table_outside table read_table table_exact c.args.section.now c.args.at c.if-at-section.false c.read_decls.new.cut c.read_decls.result (subst P c.from_place-cut.ensures c.read_decls.ensures)
