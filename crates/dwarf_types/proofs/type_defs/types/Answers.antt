use Rattle.std.proofs.Common.{◌∙◌, ap, map, subst, sym}
use Rattle.dwarf_entries.specs.Dies.{Info}
use Rattle.dwarf_entries.specs.Said.{type_dies}
use Rattle.dwarf_entries.specs.Types.{type_def}
use Rattle.dwarf_dies.specs.Handles.{among}
use Rattle.dwarf_types.proofs.Lists.{all_made, next_one, one_more}
use Rattle.dwarf_types.proofs.SetTypes.{AreTypesLeft, OfSet, no_type_next, none_yet, still, type_next}
use Rattle.dwarf_types.proofs.type_defs.types.Goals as goal

pub loop-die-init : goal.loop-die-init
loop-die-init c =
    none_yet c.args.links.now c.into_iter-die-iterator.result
    (c.into_iter-die-iterator.ensures.into_iter_gives ∙ c.iter-die-items.ensures ∙ ap (λ (i : Info). map (among i) i.dies) c.dies.ensures) c.new-types.result c.new-types.ensures

pub type_def-requires-clause-here : goal.type_def-requires-clause-here
type_def-requires-clause-here c =
    let links = c.args.links.now in
    let now = subst (AreTypesLeft links c.loop-die.types) c.in-Some.ensures.steps c.loop-die.invariant in
    let next = type_next links c.loop-die.types c.in-Some.die c.next.new.self now (sym c.is_type_of_set.ensures ∙ c.if-is_type_of_set.true) in
    (next_one links (OfSet links) (type_def links) c.loop-die.types c.in-Some.die (still c.next.new.self) (map (type_def links) (type_dies links)) next).here

pub type_def-requires-clause-of_set : goal.type_def-requires-clause-of_set
type_def-requires-clause-of_set c =
    let links = c.args.links.now in
    let now = subst (AreTypesLeft links c.loop-die.types) c.in-Some.ensures.steps c.loop-die.invariant in
    let next = type_next links c.loop-die.types c.in-Some.die c.next.new.self now (sym c.is_type_of_set.ensures ∙ c.if-is_type_of_set.true) in
    (next_one links (OfSet links) (type_def links) c.loop-die.types c.in-Some.die (still c.next.new.self) (map (type_def links) (type_dies links)) next).is

pub loop-die-preserved-in-Continue-branch-2 : goal.loop-die-preserved-in-Continue-branch-2
loop-die-preserved-in-Continue-branch-2 c =
    let links = c.args.links.now in
    let now = subst (AreTypesLeft links c.loop-die.types) c.in-Some.ensures.steps c.loop-die.invariant in
    let next = type_next links c.loop-die.types c.in-Some.die c.next.new.self now (sym c.is_type_of_set.ensures ∙ c.if-is_type_of_set.true) in
    one_more links (OfSet links) (type_def links) c.loop-die.types c.in-Some.die (still c.next.new.self) (map (type_def links) (type_dies links)) next c.in_ok-def.def c.in_ok-def.ensures
    c.push.new.self c.in_ok-push.ensures.last

pub loop-die-preserved : goal.loop-die-preserved
loop-die-preserved c =
    let links = c.args.links.now in
    let now = subst (AreTypesLeft links c.loop-die.types) c.in-Some.ensures.steps c.loop-die.invariant in
    no_type_next links c.loop-die.types c.in-Some.die c.next.new.self now (sym c.is_type_of_set.ensures ∙ c.if-is_type_of_set.false)

pub returns : goal.returns
returns c =
    let links = c.args.links.now in
    all_made links (OfSet links) (type_def links) c.loop-die.types (still c.loop-die.die-iterator) (map (type_def links) (type_dies links)) c.loop-die.invariant (ap still c.in-None.ensures.steps.0)
