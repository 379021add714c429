-- One index more, none is left, or the next is invalid.
use Rattle.std.proofs.Common.{lit<}
use Rattle.std.proofs.lemmas.Result.{err_from_is_err_and}
use Rattle.rv_bytes.specs.Numbers.{number}
use Rattle.rv_bytes.specs.NumberReaders.{read_number}
use Rattle.rv_bytes.proofs.ByteNumbers.{number_exact}
use Rattle.rv_bytes.proofs.Calls.{refusal_on}
use Rattle.cv_parts.specs.RecordReaders.{read_so_many}
use Rattle.cv_parts.proofs.Fields.{number_byte}
use Rattle.cv_parts.proofs.Counts.{many_on, many_end, many_bad}
use Rattle.cv_type_records.proofs.fields.read_indices.Goals as goal

pub returns-in_err-index : goal.returns-in_err-index
returns-in_err-index c =
    let p = err_from_is_err_and c.from_residual.result c.from_residual.ensures.1 in
    rw (p.1, p.2)
    (refusal_on (read_number 4 c.loop-left.cut.at c.loop-left.cut.rest) _ _ _ _ c.in_err-index.ensures
    (λ r m e. many_bad (number 4) (read_number 4) (read_so_many (read_number 4) c.args.count c.args.cut.now.at c.args.cut.now.rest) c.loop-left.types c.loop-left.left c.loop-left.cut.at c.loop-left.cut.rest r m c.loop-left.invariant c.loop-left-test.true e))

pub loop-left-preserved : goal.loop-left-preserved
loop-left-preserved c =
    rw c.in_ok-push.ensures.last
    (many_on (number 4) (read_number 4) (number_byte 4 (lit< tt)) (number_exact 4) (read_so_many (read_number 4) c.args.count c.args.cut.now.at c.args.cut.now.rest) c.loop-left.types c.loop-left.left c.loop-left.cut.at c.loop-left.cut.rest
    c.in_ok-index.index c.read_type_index.new.cut.at c.read_type_index.new.cut.rest c.loop-left.invariant c.loop-left-test.true c.in_ok-index.ensures)

pub returns : goal.returns
returns c =
    many_end (number 4) (read_number 4) (read_so_many (read_number 4) c.args.count c.args.cut.now.at c.args.cut.now.rest) c.loop-left.types c.loop-left.left c.loop-left.cut.at c.loop-left.cut.rest c.loop-left.invariant c.loop-left-test.false
