use Rattle.std.proofs.Common.{◌∙◌, ap, refl, sym, subst}
use Rattle.dwarf_entries.specs.Tags.{passes}
use Rattle.dwarf_scopes.specs.Tags.{is_base_type}
use Rattle.dwarf_links.proofs.BaseTypes.{AreSoFar, all_so_far, no_more, none_yet, one_more}
use Rattle.dwarf_links.proofs.base_types.read_base_types.Goals as goal

pub loop-die-init : goal.loop-die-init
loop-die-init c =
    none_yet c.args.dies.now c.into_iter-die-iterator.result c.new-kinds.result (c.into_iter-die-iterator.ensures.into_iter_gives ∙ c.iter-die-items.ensures) (λ n. rw c.new-kinds.ensures.empty refl)

pub loop-die-preserved-in_ok-insert : goal.loop-die-preserved-in_ok-insert
loop-die-preserved-in_ok-insert c =
    one_more c.args.dies.now c.in-Some.die c.next.new.self c.number.result c.loop-die.kinds c.insert.new.self c.in_ok-kind.kind
    (subst (λ l. AreSoFar c.args.dies.now l c.loop-die.kinds) c.in-Some.ensures.steps c.loop-die.invariant)
    (sym (ap (passes is_base_type) c.what.ensures) ∙ sym c.is_base_type.ensures ∙ c.if-is_base_type.true) c.in_ok-kind.ensures c.number.ensures.found c.number.ensures.number c.in_ok-insert.ensures.updates

pub loop-die-preserved : goal.loop-die-preserved
loop-die-preserved c =
    no_more c.args.dies.now c.in-Some.die c.next.new.self c.loop-die.kinds (subst (λ l. AreSoFar c.args.dies.now l c.loop-die.kinds) c.in-Some.ensures.steps c.loop-die.invariant)
    (sym (ap (passes is_base_type) c.what.ensures) ∙ sym c.is_base_type.ensures ∙ c.if-is_base_type.false)

pub returns : goal.returns
returns c = all_so_far c.args.dies.now c.loop-die.die-iterator c.loop-die.kinds c.in-None.ensures.steps.0 c.loop-die.invariant
