use Rattle.std.proofs.Common.{length, map, Some, sym, ap, subst, arith}
use Rattle.entry_tree.specs.Links.{entry_of}
use Rattle.entry_tree.proofs.Finds.{length_of_map}
use Rattle.entry_tree.proofs.Ways.{AreReached, earlier, reached_last, reached_up, steps_left, fewer_steps}
use Rattle.entry_tree.proofs.Nodes.{blank, link_at}
use Rattle.entry_tree.proofs.search.may_be_under.Goals as goal

pub loop-at-init : goal.loop-at-init
loop-at-init c =
    reached_last (map entry_of c.args.nodes.now) c.in-Some.under (length c.args.nodes.now) c.checked_sub-at.result
    (sym (length_of_map entry_of c.args.nodes.now)) c.checked_sub-at.ensures

pub loop-at-smaller : goal.loop-at-smaller
loop-at-smaller c =
    let t = map entry_of c.args.nodes.now in
    let k = c.in-Some-at.number in
    let n = link_at c.args.nodes.now k blank c.requires.linked (let w = c.loop-at.invariant.within k c.in-Some-at.is in omega (arith, length_of_map entry_of c.args.nodes.now)) in
    let less = fewer_steps t k _ (earlier t c.requires.entries.order) n.up in
    let is = ap steps_left c.in-Some-at.is in
    omega (arith, less, is)

pub loop-at-preserved : goal.loop-at-preserved
loop-at-preserved c =
    let t = map entry_of c.args.nodes.now in
    let k = c.in-Some-at.number in
    let u = c.in-Some.under in
    let n = link_at c.args.nodes.now k blank c.requires.linked (let w = c.loop-at.invariant.within k c.in-Some-at.is in omega (arith, length_of_map entry_of c.args.nodes.now)) in
    let reached : AreReached t u (Some k) = subst (AreReached t u) c.in-Some-at.is c.loop-at.invariant in
    subst (AreReached t u) (sym n.up) (reached_up t u k (earlier t c.requires.entries.order) reached c.if-number-under.false)
