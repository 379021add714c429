use Rattle.std.proofs.Common.{◌∙◌, sym, lit<, refl, append_assoc, ◌∷◌, []}
use Rattle.std.proofs.lemmas.Result.{err_from_is_err_and}
use Rattle.readers.specs.Lines.{with_end}
use Rattle.layout_lines.specs.Sets.{version_text}
use Rattle.layout_rules.specs.Faults.{first, second}
use Rattle.layout_reader.proofs.Refused.{refused_first}
use Rattle.layout_reader.proofs.head.read_head.Goals as goal

pub returns-in_err-rest : goal.returns-in_err-rest
returns-in_err-rest c =
    let p = err_from_is_err_and c.from_residual.result c.from_residual.ensures.1 in
    rw (p.1, p.2) (refused_first first c.args.bytes.now [] c.args.bytes.now 0 c.in_err-rest.field-0.0 (lit< tt) refl (refl, refl) tt c.in_err-rest.ensures)

pub returns-in_err-ptr : goal.returns-in_err-ptr
returns-in_err-ptr c =
    let p = err_from_is_err_and c.from_residual-in_err-ptr.result c.from_residual-in_err-ptr.ensures.1 in
    let text = c.in_ok-rest.ensures.text ∙ sym (append_assoc version_text (10 ∷ []) c.in_ok-rest.rest.now) in
    rw (p.1, p.2) (refused_first second c.args.bytes.now (with_end version_text) c.in_ok-rest.rest.now 1 c.in_err-ptr.field-0.0 (lit< tt) text
    (refl, refl) tt c.in_err-ptr.ensures)
