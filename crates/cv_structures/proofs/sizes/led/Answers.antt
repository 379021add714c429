use Rattle.std.proofs.Common.{◌-◌, length, sym, ◌∙◌, arith}
use Rattle.cv_links.proofs.Reaches.{past_end, within}
use Rattle.cv_structures.proofs.Places.{before, past, simple}
use Rattle.cv_structures.proofs.sizes.led.Goals as goal

pub returns-then-index-lt-FIRST_INDEX : goal.returns-then-index-lt-FIRST_INDEX
returns-then-index-lt-FIRST_INDEX c = λ info are. c.simple_size.ensures ∙ sym (simple info (length c.args.sizes.now) c.args.index c.if-index-lt-FIRST_INDEX.true)

pub returns-in-Some : goal.returns-in-Some
returns-in-Some c = λ info are.
    are.each (c.args.index - 4096) c.in-Some.size (sym c.in-Some.ensures)
    ∙ sym (before info (length c.args.sizes.now) c.args.index (c.args.index - 4096) (omega (arith, c.if-index-lt-FIRST_INDEX.false)) (within c.args.sizes.now (c.args.index - 4096) c.in-Some.size (sym c.in-Some.ensures)))

pub returns-in-None : goal.returns-in-None
returns-in-None c = λ info are.
    c.simple_size-in-None.ensures
    ∙ sym (past info (length c.args.sizes.now) c.args.index (omega (arith, c.if-index-lt-FIRST_INDEX.false, past_end c.args.sizes.now (c.args.index - 4096) (sym c.in-None.ensures))))
