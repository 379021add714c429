use Rattle.std.proofs.Common.{◌-◌, sym, ◌∙◌, arith}
use Rattle.cv_links.proofs.Reaches.{before, past, simple}
use Rattle.cv_links.proofs.links.Links.target.Goals as goal

pub returns-then-index-lt-FIRST_INDEX : goal.returns-then-index-lt-FIRST_INDEX
returns-then-index-lt-FIRST_INDEX c = sym (simple c.args.self.now c.args.place c.args.index c.if-index-lt-FIRST_INDEX.true)

pub returns-then-at-place : goal.returns-then-at-place
returns-then-at-place c =
    c.end.ensures ∙ sym (before c.args.self.now c.args.place c.args.index (c.args.index - 4096) (omega (arith, c.if-index-lt-FIRST_INDEX.false)) c.if-at-place.true)

pub returns-else-at-place : goal.returns-else-at-place
returns-else-at-place c = sym (past c.args.self.now c.args.place c.args.index (omega (arith, c.if-index-lt-FIRST_INDEX.false, c.if-at-place.false)))
