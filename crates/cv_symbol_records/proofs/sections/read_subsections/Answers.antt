-- The next subsection is read or is invalid; or no byte is left.
use Rattle.std.proofs.Common.{◌≡◌, ◌<◌, ◌++◌, List, length, refl, subst, arith}
use Rattle.std.proofs.lemmas.Result.{err_from_is_err_and}
use Rattle.rv_bytes.specs.Readers.{with_value}
use Rattle.cv_parts.specs.RecordReaders.{read_all}
use Rattle.cv_parts.proofs.Series.{keeps_on, keeps_end, keeps_bad, takes_bytes}
use Rattle.cv_symbol_records.specs.Subsections.{subsection, joined}
use Rattle.cv_symbol_records.specs.SubsectionReaders.{read_subsection}
use Rattle.cv_symbol_records.proofs.SectionForms.{subsection_exact, subsection_byte, joined_first}
use Rattle.cv_symbol_records.proofs.SectionReads.{added, refusal_from}
use Rattle.cv_symbol_records.specs.declared.kinds.SymRec.{SymRec}
use Rattle.cv_symbol_records.proofs.sections.read_subsections.Goals as goal

pub returns-in_err-read_subsection : goal.returns-in_err-read_subsection
returns-in_err-read_subsection c =
    let p = err_from_is_err_and c.from_residual.result c.from_residual.ensures.1 in
    let l : 0 < length c.loop-alloc.cut.rest = omega (arith, c.left.ensures, c.loop-alloc-test.true) in
    let whole = with_value joined (read_all read_subsection c.args.cut.now.at c.args.cut.now.rest) in
    rw (p.1, p.2)
    (refusal_from (Unit {0}) (read_subsection (length c.loop-alloc.cut.rest) c.loop-alloc.cut.at c.loop-alloc.cut.rest) whole _ c.read_subsection.new.cut c.read_subsection.new.cut c.loop-alloc.records c.read_subsection.new.records
    c.in_err-read_subsection.ensures.reads
    (λ r m e. keeps_bad subsection read_subsection joined whole c.loop-alloc.records c.loop-alloc.cut.at c.loop-alloc.cut.rest r m c.loop-alloc.invariant.whole l e))

pub loop-alloc-smaller : goal.loop-alloc-smaller
loop-alloc-smaller c =
    let left = length c.loop-alloc.cut.rest in
    let w = added c.loop-alloc.records c.read_subsection.new.records (read_subsection left c.loop-alloc.cut.at c.loop-alloc.cut.rest) c.read_subsection.new.cut.at c.read_subsection.new.cut.rest c.in_ok-read_subsection.ensures.reads in
    takes_bytes (subsection left) (read_subsection left) (subsection_byte left) (subsection_exact left) c.loop-alloc.cut.at c.loop-alloc.cut.rest w.0 c.read_subsection.new.cut.at c.read_subsection.new.cut.rest w.1.0

pub loop-alloc-preserved : goal.loop-alloc-preserved
loop-alloc-preserved c =
    let l : 0 < length c.loop-alloc.cut.rest = omega (arith, c.left.ensures, c.loop-alloc-test.true) in
    let left = length c.loop-alloc.cut.rest in
    let whole = with_value joined (read_all read_subsection c.args.cut.now.at c.args.cut.now.rest) in
    let w = added c.loop-alloc.records c.read_subsection.new.records (read_subsection left c.loop-alloc.cut.at c.loop-alloc.cut.rest) c.read_subsection.new.cut.at c.read_subsection.new.cut.rest c.in_ok-read_subsection.ensures.reads in
    record {
      whole = subst (λ (acc : List SymRec). with_value (λ vs. acc ++ joined vs) (read_all read_subsection c.read_subsection.new.cut.at c.read_subsection.new.cut.rest) ≡ whole) w.1.1
          (keeps_on subsection read_subsection subsection_byte subsection_exact joined (λ v. v) joined_first whole c.loop-alloc.records c.loop-alloc.cut.at c.loop-alloc.cut.rest w.0 c.read_subsection.new.cut.at c.read_subsection.new.cut.rest
          c.loop-alloc.invariant.whole l w.1.0);
      place = c.in_ok-read_subsection.ensures.place;
    }

pub returns : goal.returns
returns c =
    keeps_end subsection read_subsection joined refl (with_value joined (read_all read_subsection c.args.cut.now.at c.args.cut.now.rest)) c.loop-alloc.records c.loop-alloc.cut.at c.loop-alloc.cut.rest c.loop-alloc.invariant.whole
    (omega (arith, c.left.ensures, c.loop-alloc-test.false))
