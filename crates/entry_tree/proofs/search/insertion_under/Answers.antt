use Rattle.std.proofs.Common.{◌∙◌, ◌-◌, ◌≤◌, map, Some, SomeIff, sym, ap, subst, arith}
use Rattle.entry_tree.specs.Links.{entry_of}
use Rattle.entry_tree.proofs.Finds.{length_of_map}
use Rattle.entry_tree.proofs.Ways.{earlier, steps_left, fewer_steps}
use Rattle.entry_tree.proofs.Insertions.{IsWalked, walk_starts, walk_up, walk_deep, walk_shallow, walk_out, walk_ends, ne_true, ne_false}
use Rattle.entry_tree.proofs.Nodes.{blank, link_at}
use Rattle.entry_tree.proofs.search.insertion_under.Goals.{else-loop-under-test, then-loop-under-test+in_default}
use Rattle.entry_tree.proofs.search.insertion_under.Goals as goal

pub loop-under-init : goal.loop-under-init
loop-under-init c =
    walk_starts (map entry_of c.args.nodes.now) c.args.under c.checked_sub-at.result c.args.depth
    (subst (λ n. SomeIff c.checked_sub-at.result (1 ≤ n) (n - 1)) (sym (length_of_map entry_of c.args.nodes.now)) c.checked_sub-at.ensures)
    c.requires.may_push c.requires.tree.last

pub bounds-nodes-number : goal.bounds-nodes-number
bounds-nodes-number c = omega (arith, c.loop-under.invariant.within c.in-Some.number c.in-Some.is, length_of_map entry_of c.args.nodes.now)

pub overflow_sub-depth : goal.overflow_sub-depth
overflow_sub-depth c =
    let t = map entry_of c.args.nodes.now in
    let w = subst (λ a. IsWalked t c.args.under a c.loop-under.sibling c.loop-under.depth) c.in-Some.is c.loop-under.invariant in
    omega (arith, walk_deep t c.args.under c.loop-under.sibling c.in-Some.number c.loop-under.depth c.requires.tree.entries.order w)

pub loop-under-smaller : goal.loop-under-smaller
loop-under-smaller c =
    let t = map entry_of c.args.nodes.now in
    let k = c.in-Some.number in
    let n = link_at c.args.nodes.now k blank c.requires.tree.linked (omega (arith, c.loop-under.invariant.within k c.in-Some.is, length_of_map entry_of c.args.nodes.now)) in
    let less = fewer_steps t k _ (earlier t c.requires.tree.entries.order) n.up in
    let is = ap steps_left c.in-Some.is in
    omega (arith, less, is)

pub loop-under-preserved : goal.loop-under-preserved
loop-under-preserved c =
    let t = map entry_of c.args.nodes.now in
    let u = c.args.under in
    let k = c.in-Some.number in
    let d = c.loop-under.depth in
    let n = link_at c.args.nodes.now k blank c.requires.tree.linked (omega (arith, c.loop-under.invariant.within k c.in-Some.is, length_of_map entry_of c.args.nodes.now)) in
    let w = subst (λ a. IsWalked t u a c.loop-under.sibling d) c.in-Some.is c.loop-under.invariant in
    subst (λ a. IsWalked t u a (Some k) (d - 1)) (sym n.up)
    (walk_up t u c.loop-under.sibling k d c.requires.tree.entries.order w (λ q. ne_true c.loop-under.at u (sym c.ne.ensures ∙ c.loop-under-test.true) (c.in-Some.is ∙ q)))

pub overflow_add-result : goal.overflow_add-result
overflow_add-result c =
    let few = walk_shallow (map entry_of c.args.nodes.now) c.args.under c.loop-under.at c.loop-under.sibling c.loop-under.depth c.requires.tree.entries c.loop-under.invariant in
    omega (arith, few)

pub returns : goal.returns
returns c =
    let t = map entry_of c.args.nodes.now in
    walk_ends t c.args.under c.loop-under.at c.loop-under.sibling c.loop-under.depth c.requires.tree.entries.order c.loop-under.invariant
    (elim c.loop-under-test.branch [
      | else-loop-under-test w ↦ ne_false c.loop-under.at c.args.under (sym c.ne.ensures ∙ w.loop-under-test.false)
      | then-loop-under-test+in_default w ↦ walk_out t c.loop-under.at c.args.under c.loop-under.invariant.ahead w.in_default.is
    ])
