-- One pair more, and the pair 0, 0 after all.
use Rattle.rv_bytes.proofs.Puts.{on_ok}
use Rattle.dwarf_abbrev.specs.Tables.{end}
use Rattle.dwarf_abbrev.proofs.Written.{pairs_more, pairs_whole}
use Rattle.dwarf_abbrev.proofs.put.put_pairs.Goals as goal

pub loop-spec-preserved : goal.loop-spec-preserved
loop-spec-preserved c = pairs_more c.args.specs.now c.loop-spec.spec-index end c.args.out.now c.loop-spec.out c.put_pair.new.out c.requires c.loop-spec-test.true c.loop-spec.invariant c.in_ok-put_pair.ensures.put

pub returns-clause-put : goal.returns-clause-put
returns-clause-put c = on_ok (pairs_whole c.args.specs.now c.loop-spec.spec-index c.args.out.now c.loop-spec.out c.put_uleb.new.out c.put_uleb-2.new.out c.loop-spec-test.false c.loop-spec.invariant c.in_ok-put_uleb.ensures.appended) c.put_uleb-2.result c.put_uleb-2.ensures.appended
