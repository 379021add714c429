use Rattle.std.proofs.Common.{◌-◌, sym, ◌∙◌, arith}
use Rattle.cv_links.proofs.Chains.{before, past, simple}
use Rattle.cv_links.proofs.members.part_below.Goals as goal

pub returns-then-index-lt-FIRST_INDEX-clause-members : goal.returns-then-index-lt-FIRST_INDEX-clause-members
returns-then-index-lt-FIRST_INDEX-clause-members c = sym (simple c.args.records.now c.args.place c.args.index c.if-index-lt-FIRST_INDEX.true)

pub returns-then-at-place-clause-members : goal.returns-then-at-place-clause-members
returns-then-at-place-clause-members c =
    c.listed.ensures.list
    ∙ sym (before c.args.records.now c.args.place c.args.index (c.args.index - 4096) (omega (arith, c.if-index-lt-FIRST_INDEX.false)) c.if-at-place.true)

pub returns-else-at-place-clause-members : goal.returns-else-at-place-clause-members
returns-else-at-place-clause-members c = sym (past c.args.records.now c.args.place c.args.index (omega (arith, c.if-index-lt-FIRST_INDEX.false, c.if-at-place.false)))
