use Rattle.std.proofs.Common.{◌∙◌, ap, map, subst}
use Rattle.dwarf_entries.specs.Dies.{Info}
use Rattle.dwarf_entries.specs.Enums.{variant_of, variants_in}
use Rattle.dwarf_dies.specs.Handles.{DieIn, beside}
use Rattle.dwarf_types.specs.Said.{IsVariant}
use Rattle.dwarf_types.proofs.Lists.{AreLeft, all_made, at_first, next_one, one_more}
use Rattle.dwarf_types.proofs.variants.variants_of.Goals as goal

pub loop-entry-init : goal.loop-entry-init
loop-entry-init c =
    let links = c.args.links.now in
    let a = c.args.part.now in
    at_first links (IsVariant links) (variant_of links a.die) a c.requires.part (variants_in links a.die) c.requires.variants c.into_iter-entry-iterator.result
    (c.into_iter-entry-iterator.ensures.into_iter_gives ∙ c.variants_in-entry-items.ensures ∙ ap (λ (x : DieIn). map (beside x) (variants_in x.info x.die)) c.entry.ensures
    ∙ ap (λ (i : Info). map (beside a) (variants_in i a.die)) c.requires.part) c.new-variants.result c.new-variants.ensures

pub variant_of-requires-clause-here : goal.variant_of-requires-clause-here
variant_of-requires-clause-here c =
    let links = c.args.links.now in
    let f = variant_of links c.args.part.now.die in
    let whole = map f (variants_in links c.args.part.now.die) in
    let now = subst (λ l. AreLeft links (IsVariant links) f c.loop-entry.variants l whole) c.in-Some.ensures.steps c.loop-entry.invariant in
    (next_one links (IsVariant links) f c.loop-entry.variants c.in-Some.entry c.next.new.self whole now).here

pub variant_of-requires-clause-variant : goal.variant_of-requires-clause-variant
variant_of-requires-clause-variant c =
    let links = c.args.links.now in
    let f = variant_of links c.args.part.now.die in
    let whole = map f (variants_in links c.args.part.now.die) in
    let now = subst (λ l. AreLeft links (IsVariant links) f c.loop-entry.variants l whole) c.in-Some.ensures.steps c.loop-entry.invariant in
    (next_one links (IsVariant links) f c.loop-entry.variants c.in-Some.entry c.next.new.self whole now).is

pub loop-entry-preserved : goal.loop-entry-preserved
loop-entry-preserved c =
    let links = c.args.links.now in
    let f = variant_of links c.args.part.now.die in
    let whole = map f (variants_in links c.args.part.now.die) in
    let now = subst (λ l. AreLeft links (IsVariant links) f c.loop-entry.variants l whole) c.in-Some.ensures.steps c.loop-entry.invariant in
    one_more links (IsVariant links) f c.loop-entry.variants c.in-Some.entry c.next.new.self whole now c.in_ok-variant.variant c.in_ok-variant.ensures c.push.new.self c.in_ok-push.ensures.last

pub returns : goal.returns
returns c =
    let links = c.args.links.now in
    let f = variant_of links c.args.part.now.die in
    all_made links (IsVariant links) f c.loop-entry.variants c.loop-entry.entry-iterator (map f (variants_in links c.args.part.now.die)) c.loop-entry.invariant c.in-None.ensures.steps.0
