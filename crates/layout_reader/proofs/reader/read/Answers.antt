use Rattle.std.proofs.Common.{subst}
use Rattle.std.proofs.lemmas.Result.{err_from_is_err_and}
use Rattle.layout_lines.proofs.IsSets.{spells_is_set}
use Rattle.layout_reader.specs.Progress.{HasRead, Ends}
use Rattle.layout_reader.proofs.Refused.{refused_line, refused_end, must_go_on, goes_on, all_read}
use Rattle.layout_reader.proofs.reader.read.Goals as goal

-- a line is refused
pub returns-in_err-reading-2-clause-reading : goal.returns-in_err-reading-2-clause-reading
returns-in_err-reading-2-clause-reading c =
    let p = err_from_is_err_and c.from_residual-in_err-reading-2.result c.from_residual-in_err-reading-2.ensures.1 in
    rw (p.1, p.2) (refused_line c.args.bytes.now c.loop-line.reading c.loop-line.rest.now c.in-Some.line.now c.in-Some.more.now c.in_err-reading-2.field-0.0
    c.loop-line.invariant c.in-Some.ensures.cut c.in_err-reading-2.ensures)

-- a line more
pub loop-line-preserved : goal.loop-line-preserved
loop-line-preserved c =
    goes_on c.args.bytes.now c.loop-line.reading c.in_ok-reading-2.reading c.loop-line.rest.now c.in-Some.line.now c.in-Some.more.now c.loop-line.invariant
    c.in-Some.ensures.cut c.in_ok-reading-2.ensures

-- the file ends where it may
pub returns-then-is_over : goal.returns-then-is_over
returns-then-is_over c =
    let e = subst (Ends c.loop-line.reading c.loop-line.rest.now) c.if-is_over.true c.is_over.ensures in
    let spelled = all_read c.args.bytes.now c.loop-line.reading (subst (HasRead c.args.bytes.now c.loop-line.reading) e.0 c.loop-line.invariant) e.1 in
    record { reading = spelled; set = spells_is_set c.loop-line.reading.set c.args.bytes.now spelled }

-- bytes behind the last line, or an entry that stands open
pub returns-else-is_over-clause-reading : goal.returns-else-is_over-clause-reading
returns-else-is_over-clause-reading c =
    let e = subst (Ends c.loop-line.reading c.loop-line.rest.now) c.if-is_over.false c.is_over.ensures in
    refused_end c.args.bytes.now c.loop-line.reading c.loop-line.rest.now c.refuse_end.result c.loop-line.invariant c.in_default.ensures.cut
    (λ none. must_go_on c.loop-line.reading.set c.loop-line.reading.open_entry (e none)) c.refuse_end.ensures
