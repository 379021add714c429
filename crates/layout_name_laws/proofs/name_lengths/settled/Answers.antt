use Rattle.std.proofs.Common.{◌≡◌, ◌∙◌, zero, suc, ap, map, refl}
use Rattle.layout_name_laws.specs.NameLengths.{doubled, after_rounds, total, unended}
use Rattle.layout_name_laws.proofs.name_lengths.settled.Goals as goal

pub loop-table-init : goal.loop-table-init
unfolding after_rounds
loop-table-init c = ((zero, refl), c.count_unended-left.ensures ∙ ap (total unended) c.as_slice.ensures.value)

pub loop-table-preserved : goal.loop-table-preserved
unfolding after_rounds
loop-table-preserved c =
    let so_far = c.loop-table.invariant.0 in
    let next : c.in_ok-next.next.items ≡ map (doubled c.loop-table.table.items) c.loop-table.table.items = c.in_ok-next.ensures ∙ ap (λ t. map (doubled t) t) c.as_slice-in-loop-table.ensures.value in
    ((suc so_far.0, next ∙ ap (λ t. map (doubled t) t) so_far.1), c.count_unended-still_left.ensures ∙ ap (total unended) c.as_slice-in-loop-table-2.ensures.value)
