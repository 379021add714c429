use Rattle.std.proofs.Common.{◌∙◌, ◌∷◌, map, length, sym, ap, arith}
use Rattle.entry_tree.specs.Links.{entry_of, siblings_from}
use Rattle.entry_tree.proofs.Finds.{length_of_map}
use Rattle.entry_tree.proofs.Nodes.{blank, link_at, next_there, siblings_next}
use Rattle.entry_tree.proofs.children.ChildrenIterator.next.Goals as goal

pub invariant_of-self : goal.invariant_of-self
invariant_of-self c =
    let nodes = c.self.inside.nodes.now in
    let w = c.self.invariant in
    let n = link_at nodes c.in_ok-number.number blank w.linked (w.there c.in_ok-number.number c.in_ok-number.was) in
    record {
      linked = w.linked;
      there = λ k e. let h = next_there (map entry_of nodes) c.in_ok-number.number k (sym n.next ∙ e) in omega (arith, length_of_map entry_of nodes);
    }

pub returns-clause-steps : goal.returns-clause-steps
returns-clause-steps c =
    let nodes = c.self.inside.nodes.now in
    let t = map entry_of nodes in
    let k = c.in_ok-number.number in
    let w = c.self.invariant in
    let n = link_at nodes k blank w.linked (w.there k c.in_ok-number.was) in
    sym c.self.view_is ∙ ap (siblings_from t) c.in_ok-number.was ∙ siblings_next t k n.entry n.at ∙ ap (λ o. k ∷ siblings_from t o) (sym n.next)

pub returns-clause-goes : goal.returns-clause-goes
returns-clause-goes c =
    let fewer = ap length (returns-clause-steps c) in
    record { on = λ _. (tt, tt, omega (arith, fewer)); keeps = tt; rests = λ _. tt }
