use Rattle.std.proofs.Common.{◌-◌, length, sym, ◌∙◌, arith}
use Rattle.cv_links.proofs.Reaches.{before, past, past_end, simple, within}
use Rattle.cv_links.proofs.ends.led.Goals as goal

pub returns-then-index-lt-FIRST_INDEX : goal.returns-then-index-lt-FIRST_INDEX
returns-then-index-lt-FIRST_INDEX c = λ records are. sym (simple records (length c.args.ends.now) c.args.index c.if-index-lt-FIRST_INDEX.true)

pub returns-in-Some : goal.returns-in-Some
returns-in-Some c = λ records are.
    are.each (c.args.index - 4096) c.in-Some.end (sym c.in-Some.ensures)
    ∙ sym (before records (length c.args.ends.now) c.args.index (c.args.index - 4096) (omega (arith, c.if-index-lt-FIRST_INDEX.false)) (within c.args.ends.now (c.args.index - 4096) c.in-Some.end (sym c.in-Some.ensures)))

pub returns-in-None : goal.returns-in-None
returns-in-None c = λ records are.
    sym (past records (length c.args.ends.now) c.args.index (omega (arith, c.if-index-lt-FIRST_INDEX.false, past_end c.args.ends.now (c.args.index - 4096) (sym c.in-None.ensures))))
