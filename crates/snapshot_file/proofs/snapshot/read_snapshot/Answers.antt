use Rattle.std.proofs.Common.{◌∙◌, sym, subst}
use Rattle.readers.specs.Lines.{lines}
use Rattle.snapshot_file.specs.Reading.{step, steps, Fails, snapshot_of}
use Rattle.snapshot_file.proofs.Steps.{one_line, line_fails, line_reads, hands_on}
use Rattle.snapshot_file.proofs.snapshot.read_snapshot.Goals as goal

pub returns-in_err-reading : goal.returns-in_err-reading
returns-in_err-reading c =
    let r = c.loop-line.reading in
    let same = sym c.loop-line.invariant ∙ one_line r c.loop-line.rest.now c.in-Some.line.now c.in-Some.more.now c.in-Some.ensures.lines in
    let fails = line_fails c.in_err-reading.field-0.0 (step r c.in-Some.line.now) (λ s. steps s (lines c.in-Some.more.now)) c.in_err-reading.ensures in
    hands_on c.in_err-reading.field-0.0 c.from_residual.result (snapshot_of c.args.bytes.now) c.from_residual.ensures.0 c.from_residual.ensures.1 (subst (Fails c.in_err-reading.field-0.0) (sym same) fails)

pub loop-line-preserved : goal.loop-line-preserved
loop-line-preserved c =
    let r = c.loop-line.reading in
    let first = one_line r c.loop-line.rest.now c.in-Some.line.now c.in-Some.more.now c.in-Some.ensures.lines in
    sym (line_reads (step r c.in-Some.line.now) c.in_ok-reading.reading (λ s. steps s (lines c.in-Some.more.now)) c.in_ok-reading.ensures) ∙ sym first ∙ c.loop-line.invariant
