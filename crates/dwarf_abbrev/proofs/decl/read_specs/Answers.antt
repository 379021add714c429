-- A pair ends the pairs, goes on with them, or is invalid.
use Rattle.std.proofs.Common.{◌≡◌, true, false, sym, ◌∙◌}
use Rattle.std.proofs.lemmas.Result.{err_from_is_err_and}
use Rattle.std.proofs.lemmas.List.Elements.{All-push}
use Rattle.rv_bytes.proofs.Calls.{refusal_on}
use Rattle.dwarf_abbrev.specs.Declarations.{IsSpec}
use Rattle.dwarf_abbrev.specs.Tables.{is_end}
use Rattle.dwarf_abbrev.specs.TableReaders.{read_pair, read_pairs}
use Rattle.dwarf_abbrev.proofs.Loops.{pairs_end, pairs_on, pairs_bad, pairs_shorter}
use Rattle.dwarf_abbrev.proofs.decl.read_specs.Goals as goal

pub returns-in_err-spec-clause-reads : goal.returns-in_err-spec-clause-reads
returns-in_err-spec-clause-reads c =
    let p = err_from_is_err_and c.from_residual.result c.from_residual.ensures.1 in
    rw (p.1, p.2)
    (refusal_on (read_pair c.loop-specs.cut.at c.loop-specs.cut.rest) _ _ _ _ c.in_err-spec.ensures.reads
    (λ r m e. pairs_bad (read_pairs c.args.cut.now.at c.args.cut.now.rest) c.loop-specs.specs c.loop-specs.cut.at c.loop-specs.cut.rest r m c.loop-specs.invariant.whole e))

pub returns-then-is_end-clause-reads : goal.returns-then-is_end-clause-reads
returns-then-is_end-clause-reads c =
    let e : is_end c.in_ok-spec.spec ≡ true = sym c.is_end.ensures ∙ c.if-is_end.true in
    pairs_end (read_pairs c.args.cut.now.at c.args.cut.now.rest) c.loop-specs.specs c.loop-specs.cut.at c.loop-specs.cut.rest c.in_ok-spec.spec c.read_pair.new.cut.at c.read_pair.new.cut.rest c.loop-specs.invariant.whole c.in_ok-spec.ensures.reads e

pub loop-specs-smaller : goal.loop-specs-smaller
loop-specs-smaller c = pairs_shorter c.loop-specs.cut.at c.loop-specs.cut.rest c.in_ok-spec.spec c.read_pair.new.cut.at c.read_pair.new.cut.rest c.in_ok-spec.ensures.reads

pub loop-specs-preserved : goal.loop-specs-preserved
loop-specs-preserved c =
    let e : is_end c.in_ok-spec.spec ≡ false = sym c.is_end.ensures ∙ c.if-is_end.false in
    rw c.in_ok-push.ensures.last
    record {
      whole = pairs_on (read_pairs c.args.cut.now.at c.args.cut.now.rest) c.loop-specs.specs c.loop-specs.cut.at c.loop-specs.cut.rest c.in_ok-spec.spec c.read_pair.new.cut.at c.read_pair.new.cut.rest c.loop-specs.invariant.whole c.in_ok-spec.ensures.reads e;
      sound = All-push IsSpec c.loop-specs.specs c.in_ok-spec.spec c.loop-specs.invariant.sound (c.in_ok-spec.ensures.sound e);
    }
