use Rattle.std.proofs.lemmas.Result.{err_from_is_err_and}
use Rattle.dwarf_entries.specs.TextResults.{bytes_of}
use Rattle.dwarf_info.proofs.Describing.{described, dies_of, err_map, fault_of, ok_map, refused_by}
use Rattle.dwarf_info.proofs.reader.read.Goals as goal

pub returns-in_err-dies-clause-refused : goal.returns-in_err-dies-clause-refused
returns-in_err-dies-clause-refused c =
    let p = err_from_is_err_and c.from_residual.result c.from_residual.ensures.1 in
    rw (p.1, p.2) (fault_of c.args.sections.now c.as_bytes.result.now (bytes_of c.sections_of.result) c.in_err-dies.field-0.0 c.as_bytes.ensures c.sections_of.ensures c.in_err-dies.ensures.refused)

pub returns-clause-set : goal.returns-clause-set
returns-clause-set c =
    let d = dies_of c.args.sections.now c.as_bytes.result.now (bytes_of c.sections_of.result) c.in_ok-dies.dies c.as_bytes.ensures c.sections_of.ensures c.in_ok-dies.ensures.dies in
    ok_map c.read_set.result _ _ (λ s h. described c.args.sections.now c.in_ok-dies.dies s d h) c.read_set.ensures.set

pub returns-clause-refused : goal.returns-clause-refused
returns-clause-refused c =
    let d = dies_of c.args.sections.now c.as_bytes.result.now (bytes_of c.sections_of.result) c.in_ok-dies.dies c.as_bytes.ensures c.sections_of.ensures c.in_ok-dies.ensures.dies in
    err_map c.read_set.result _ _ (λ e h. refused_by c.args.sections.now c.in_ok-dies.dies e d h) c.read_set.ensures.refused
