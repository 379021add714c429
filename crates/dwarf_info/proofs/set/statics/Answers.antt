use Rattle.std.proofs.Common.{◌∙◌, subst, sym}
use Rattle.dwarf_info.proofs.Statics.{AreLeft, all_done, next_here, no_more, one_more}
use Rattle.dwarf_info.proofs.set.statics.Goals as goal

pub static_of-requires : goal.static_of-requires
static_of-requires c =
    next_here c.args.links.now c.loop-die.statics c.in-Some.die c.next.new.self (subst (AreLeft c.args.links.now c.loop-die.statics) c.in-Some.ensures.steps c.loop-die.invariant)

pub loop-die-preserved-in-Continue-branch-2 : goal.loop-die-preserved-in-Continue-branch-2
loop-die-preserved-in-Continue-branch-2 c =
    one_more c.args.links.now c.loop-die.statics c.push.new.self c.in-Some.die c.next.new.self c.in_ok-variable.variable
    (subst (AreLeft c.args.links.now c.loop-die.statics) c.in-Some.ensures.steps c.loop-die.invariant) (sym c.is_static.ensures ∙ c.if-is_static.true) c.in_ok-variable.ensures c.in_ok-push.ensures.last

pub loop-die-preserved : goal.loop-die-preserved
loop-die-preserved c =
    no_more c.args.links.now c.loop-die.statics c.in-Some.die c.next.new.self (subst (AreLeft c.args.links.now c.loop-die.statics) c.in-Some.ensures.steps c.loop-die.invariant)
    (sym c.is_static.ensures ∙ c.if-is_static.false)

pub returns : goal.returns
returns c = all_done c.args.links.now c.loop-die.statics c.loop-die.die-iterator c.in-None.ensures.steps.0 c.loop-die.invariant
