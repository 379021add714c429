use Rattle.std.proofs.Common.{sym, subst}
use Rattle.names.specs.Scan.{WordEnd}
use Rattle.names.proofs.Scans.{whole_scan}
use Rattle.names.proofs.word.word_end.Goals as goal

pub returns : goal.returns
returns c =
    subst (WordEnd c.args.text.now) (sym c.end_at-2.ensures)
    (whole_scan c.args.text.now c.loop-at.scan c.loop-at.at c.loop-at.auto.at-end c.loop-at-test.false c.loop-at.invariant)
