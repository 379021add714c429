-- The next record is read or is invalid; or no byte is left.
use Rattle.std.proofs.Common.{◌≡◌, ◌<◌, ◌++◌, ◌∷◌, [], length, refl, arith}
use Rattle.std.proofs.lemmas.Result.{err_from_is_err_and}
use Rattle.rv_bytes.specs.Readers.{with_value}
use Rattle.rv_bytes.proofs.Turns.{bad_back}
use Rattle.cv_parts.specs.RecordReaders.{read_all}
use Rattle.cv_parts.proofs.Series.{keeps_on, keeps_end, keeps_bad, takes_bytes}
use Rattle.cv_symbol_records.specs.Symbols.{symbol}
use Rattle.cv_symbol_records.specs.SymbolReaders.{read_symbol}
use Rattle.cv_symbol_records.proofs.SymbolForms.{symbol_exact, symbol_byte}
use Rattle.cv_symbol_records.proofs.SectionReads.{refusal_onto}
use Rattle.cv_symbol_records.proofs.read.read_records.Goals as goal

pub returns-in_err-record : goal.returns-in_err-record
returns-in_err-record c =
    let p = err_from_is_err_and c.from_residual.result c.from_residual.ensures.1 in
    let l : 0 < length c.loop-alloc.cut.rest = omega (arith, c.left.ensures, c.loop-alloc-test.true) in
    rw (p.1, p.2)
    (refusal_onto (Unit {0}) (read_symbol c.loop-alloc.cut.at c.loop-alloc.cut.rest) (read_all (λ _. read_symbol) c.args.cut.now.at c.args.cut.now.rest) _ c.read_symbol.new.cut c.read_symbol.new.cut c.args.records.now c.loop-alloc.records c.in_err-record.ensures.reads
    (λ r m e. bad_back (λ vs. c.args.records.now ++ vs) r m (read_all (λ _. read_symbol) c.args.cut.now.at c.args.cut.now.rest)
    (keeps_bad (λ _. symbol) (λ _. read_symbol) (λ vs. vs) (with_value (λ vs. c.args.records.now ++ vs) (read_all (λ _. read_symbol) c.args.cut.now.at c.args.cut.now.rest)) c.loop-alloc.records c.loop-alloc.cut.at c.loop-alloc.cut.rest r m
    c.loop-alloc.invariant.whole l e)))

pub loop-alloc-smaller : goal.loop-alloc-smaller
loop-alloc-smaller c =
    takes_bytes symbol read_symbol symbol_byte symbol_exact c.loop-alloc.cut.at c.loop-alloc.cut.rest c.in_ok-record.record c.read_symbol.new.cut.at c.read_symbol.new.cut.rest c.in_ok-record.ensures.reads

pub loop-alloc-preserved : goal.loop-alloc-preserved
loop-alloc-preserved c =
    let l : 0 < length c.loop-alloc.cut.rest = omega (arith, c.left.ensures, c.loop-alloc-test.true) in
    rw c.in_ok-push.ensures.last
    record {
      whole = keeps_on (λ _. symbol) (λ _. read_symbol) (λ _. symbol_byte) (λ _. symbol_exact) (λ vs. vs) (λ v. v ∷ []) (λ v vs. refl)
          (with_value (λ vs. c.args.records.now ++ vs) (read_all (λ _. read_symbol) c.args.cut.now.at c.args.cut.now.rest)) c.loop-alloc.records
          c.loop-alloc.cut.at c.loop-alloc.cut.rest c.in_ok-record.record c.read_symbol.new.cut.at c.read_symbol.new.cut.rest c.loop-alloc.invariant.whole l c.in_ok-record.ensures.reads;
      place = c.in_ok-record.ensures.place;
    }

pub returns : goal.returns
returns c =
    keeps_end (λ _. symbol) (λ _. read_symbol) (λ vs. vs) refl (with_value (λ vs. c.args.records.now ++ vs) (read_all (λ _. read_symbol) c.args.cut.now.at c.args.cut.now.rest)) c.loop-alloc.records c.loop-alloc.cut.at c.loop-alloc.cut.rest
    c.loop-alloc.invariant.whole (omega (arith, c.left.ensures, c.loop-alloc-test.false))
