use Rattle.std.proofs.Common.{◌≡◌, ◌∙◌, ap, subst, length, Some, None, Err}
use Rattle.layout_lines.specs.ReadLines.{line_of}
use Rattle.layout_words.specs.Steps.{Read}
use Rattle.layout_reader.proofs.NoneSpelled.{unfit_rule}
use Rattle.layout_reader.proofs.reader.read_line.Goals as goal

pub add_read-requires-clause-read : goal.add_read-requires-clause-read
add_read-requires-clause-read c = subst (λ ts. line_of (length ts) c.args.line.now ≡ Some c.in-Ok.read) c.as_slice.ensures c.in-Ok.ensures

pub refuse_behind-requires : goal.refuse_behind-requires
refuse_behind-requires c =
    unfit_rule c.args.reading.set c.args.reading.open_entry c.args.line.now
    (subst (λ ts. line_of (length ts) c.args.line.now ≡ None) c.as_slice.ensures
    (subst (Read (line_of (length c.as_slice.result.now) c.args.line.now)) (c.in-Err-Unfit.is ∙ ap Err c.in-Err-Unfit.field-0-is) c.line_of.ensures))
