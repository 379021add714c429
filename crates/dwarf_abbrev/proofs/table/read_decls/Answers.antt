-- A declaration goes on with the table, the code 0 ends it, or an item is invalid.
use Rattle.std.proofs.Common.{◌≡◌, Some, None, ap, ◌∙◌}
use Rattle.std.proofs.lemmas.Result.{err_from_is_err_and}
use Rattle.rv_bytes.specs.Readers.{got}
use Rattle.rv_bytes.proofs.Calls.{refusal_on}
use Rattle.dwarf_abbrev.specs.Tables.{fresh}
use Rattle.dwarf_abbrev.specs.Declarations.{codes_of}
use Rattle.dwarf_abbrev.specs.TableReaders.{read_decl, read_decls}
use Rattle.dwarf_abbrev.proofs.Loops.{decls_end, decls_on, decls_bad, decls_shorter}
use Rattle.dwarf_abbrev.proofs.table.read_decls.Goals as goal

pub returns-in_err-decl : goal.returns-in_err-decl
returns-in_err-decl c =
    let p = err_from_is_err_and c.from_residual.result c.from_residual.ensures.1 in
    rw (p.1, p.2)
    (refusal_on (read_decl (codes_of c.loop-table.table) c.loop-table.cut.at c.loop-table.cut.rest) _ _ _ _ c.in_err-decl.ensures.reads
    (λ r m e. decls_bad (read_decls fresh c.args.cut.now.at c.args.cut.now.rest) c.loop-table.table c.loop-table.cut.at c.loop-table.cut.rest r m c.loop-table.invariant e))

pub loop-table-smaller : goal.loop-table-smaller
loop-table-smaller c =
    decls_shorter c.loop-table.table c.loop-table.cut.at c.loop-table.cut.rest c.in_ok-decl.field-0 c.read_decl.new.cut.at c.read_decl.new.cut.rest c.in_ok-decl.ensures.reads

pub loop-table-preserved : goal.loop-table-preserved
loop-table-preserved c =
    let e : read_decl (codes_of c.loop-table.table) c.loop-table.cut.at c.loop-table.cut.rest ≡ got (Some c.in-Some.decl) c.read_decl.new.cut.at c.read_decl.new.cut.rest =
    c.in_ok-decl.ensures.reads ∙ ap (λ o. got o c.read_decl.new.cut.at c.read_decl.new.cut.rest) c.in-Some.is in
    rw c.in_ok-table.ensures.more
    (decls_on (read_decls fresh c.args.cut.now.at c.args.cut.now.rest) c.loop-table.table c.loop-table.cut.at c.loop-table.cut.rest c.in-Some.decl c.read_decl.new.cut.at c.read_decl.new.cut.rest c.loop-table.invariant e)

pub returns : goal.returns
returns c =
    let e : read_decl (codes_of c.loop-table.table) c.loop-table.cut.at c.loop-table.cut.rest ≡ got None c.read_decl.new.cut.at c.read_decl.new.cut.rest =
    c.in_ok-decl.ensures.reads ∙ ap (λ o. got o c.read_decl.new.cut.at c.read_decl.new.cut.rest) c.in_default.is in
    decls_end (read_decls fresh c.args.cut.now.at c.args.cut.now.rest) c.loop-table.table c.loop-table.cut.at c.loop-table.cut.rest c.read_decl.new.cut.at c.read_decl.new.cut.rest c.loop-table.invariant e
