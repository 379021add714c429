-- The next record is read or is invalid; or no byte is left.
use Rattle.std.proofs.Common.{◌≡◌, ◌<◌, ◌∷◌, [], length, refl, arith}
use Rattle.std.proofs.lemmas.Result.{err_from_is_err_and}
use Rattle.rv_bytes.proofs.Calls.{refusal_on}
use Rattle.cv_parts.specs.RecordReaders.{read_all}
use Rattle.cv_parts.proofs.Series.{keeps_on, keeps_end, keeps_bad, takes_bytes}
use Rattle.cv_type_records.specs.Types.{type_record}
use Rattle.cv_type_records.specs.TypeReaders.{read_type_record}
use Rattle.cv_type_records.proofs.Types.{type_exact, type_byte}
use Rattle.cv_type_records.proofs.read.read_records.Goals as goal

pub returns-in_err-record : goal.returns-in_err-record
returns-in_err-record c =
    let p = err_from_is_err_and c.from_residual.result c.from_residual.ensures.1 in
    let l : 0 < length c.loop-alloc.cut.rest = omega (arith, c.left.ensures, c.loop-alloc-test.true) in
    rw (p.1, p.2)
    (refusal_on (read_type_record c.loop-alloc.cut.at c.loop-alloc.cut.rest) _ _ _ _ c.in_err-record.ensures.reads
    (λ r m e. keeps_bad (λ _. type_record) (λ _. read_type_record) (λ vs. vs) (read_all (λ _. read_type_record) c.args.cut.now.at c.args.cut.now.rest) c.loop-alloc.records c.loop-alloc.cut.at c.loop-alloc.cut.rest r m c.loop-alloc.invariant.whole l e))

pub loop-alloc-smaller : goal.loop-alloc-smaller
loop-alloc-smaller c =
    takes_bytes type_record read_type_record type_byte type_exact c.loop-alloc.cut.at c.loop-alloc.cut.rest c.in_ok-record.record c.read_type.new.cut.at c.read_type.new.cut.rest c.in_ok-record.ensures.reads

pub loop-alloc-preserved : goal.loop-alloc-preserved
loop-alloc-preserved c =
    let l : 0 < length c.loop-alloc.cut.rest = omega (arith, c.left.ensures, c.loop-alloc-test.true) in
    rw c.in_ok-push.ensures.last
    record {
      whole = keeps_on (λ _. type_record) (λ _. read_type_record) (λ _. type_byte) (λ _. type_exact) (λ vs. vs) (λ v. v ∷ []) (λ v vs. refl) (read_all (λ _. read_type_record) c.args.cut.now.at c.args.cut.now.rest) c.loop-alloc.records
          c.loop-alloc.cut.at c.loop-alloc.cut.rest c.in_ok-record.record c.read_type.new.cut.at c.read_type.new.cut.rest c.loop-alloc.invariant.whole l c.in_ok-record.ensures.reads;
      place = c.in_ok-record.ensures.place;
    }

pub returns : goal.returns
returns c =
    keeps_end (λ _. type_record) (λ _. read_type_record) (λ vs. vs) refl (read_all (λ _. read_type_record) c.args.cut.now.at c.args.cut.now.rest) c.loop-alloc.records c.loop-alloc.cut.at c.loop-alloc.cut.rest c.loop-alloc.invariant.whole
    (omega (arith, c.left.ensures, c.loop-alloc-test.false))
