use Rattle.std.proofs.Common.{◌≡◌, ◌≤◌, ◌∙◌, sym, ap, map, arith}
use Rattle.layout_type_laws.specs.Heights.{heights, step}
use Rattle.layout_type_laws.proofs.Chained.{settled}
use Rattle.layout_type_laws.proofs.law_2.all_heights.Goals as goal

pub loop-round-init : goal.loop-round-init
unfolding heights
loop-round-init c = c.in_ok-found.ensures

pub returns-then-same : goal.returns-then-same
returns-then-same c =
    let types = c.args.types.now in
    let k = c.loop-round._round in
    let next : c.in_ok-next.next.items ≡ map (step (heights types k)) types = c.in_ok-next.ensures ∙ ap (λ t. map (step t) types) (c.as_slice.ensures.value ∙ c.loop-round.invariant) in
    let both : c.in_ok-next.next.items ≡ c.loop-round.found.items = sym c.as_slice-in-loop-round.ensures.value ∙ c.same.ensures c.if-same.true ∙ c.as_slice-in-loop-round-2.ensures.value in
    let le : k ≤ 257 = omega arith in
    c.loop-round.invariant ∙ sym (settled types k (sym next ∙ both ∙ c.loop-round.invariant) 257 le)
