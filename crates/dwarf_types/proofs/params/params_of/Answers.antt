use Rattle.std.proofs.Common.{◌∙◌, ap, subst, sym}
use Rattle.dwarf_entries.specs.Structures.{is_param_tag, param_of, params_of}
use Rattle.dwarf_entries.specs.Tags.{passes}
use Rattle.dwarf_pointers.proofs.ChildLists.{those}
use Rattle.dwarf_types.specs.Said.{IsNamed}
use Rattle.dwarf_types.proofs.Lists.{AreLeftOf, all_made, children_first, is_next, is_other, next_one, one_more}
use Rattle.dwarf_types.proofs.params.params_of.Goals as goal

pub loop-child-init : goal.loop-child-init
loop-child-init c =
    let links = c.args.links.now in
    children_first is_param_tag links (IsNamed links) (param_of links) c.args.die.now c.requires.here c.requires.params c.into_iter-child-iterator.result
    (c.into_iter-child-iterator.ensures.into_iter_gives ∙ c.children-child-items.ensures) c.new-params.result c.new-params.ensures

pub param_of-requires-clause-here : goal.param_of-requires-clause-here
param_of-requires-clause-here c =
    let links = c.args.links.now in
    let whole = params_of links c.args.die.now.die in
    let now = subst (λ l. AreLeftOf is_param_tag links (IsNamed links) (param_of links) c.loop-child.params l whole) c.in-Some.ensures.steps c.loop-child.invariant in
    let is = sym (c.is_param_tag.ensures ∙ ap (passes is_param_tag) c.what.ensures) ∙ c.if-is_param_tag.true in
    let next = is_next is_param_tag links (IsNamed links) (param_of links) c.loop-child.params c.in-Some.child c.next.new.self whole now is in
    (next_one links (IsNamed links) (param_of links) c.loop-child.params c.in-Some.child (those is_param_tag c.next.new.self) whole next).here

pub param_of-requires-clause-named : goal.param_of-requires-clause-named
param_of-requires-clause-named c =
    let links = c.args.links.now in
    let whole = params_of links c.args.die.now.die in
    let now = subst (λ l. AreLeftOf is_param_tag links (IsNamed links) (param_of links) c.loop-child.params l whole) c.in-Some.ensures.steps c.loop-child.invariant in
    let is = sym (c.is_param_tag.ensures ∙ ap (passes is_param_tag) c.what.ensures) ∙ c.if-is_param_tag.true in
    let next = is_next is_param_tag links (IsNamed links) (param_of links) c.loop-child.params c.in-Some.child c.next.new.self whole now is in
    (next_one links (IsNamed links) (param_of links) c.loop-child.params c.in-Some.child (those is_param_tag c.next.new.self) whole next).is

pub loop-child-preserved-in-Continue-branch-2 : goal.loop-child-preserved-in-Continue-branch-2
loop-child-preserved-in-Continue-branch-2 c =
    let links = c.args.links.now in
    let whole = params_of links c.args.die.now.die in
    let now = subst (λ l. AreLeftOf is_param_tag links (IsNamed links) (param_of links) c.loop-child.params l whole) c.in-Some.ensures.steps c.loop-child.invariant in
    let is = sym (c.is_param_tag.ensures ∙ ap (passes is_param_tag) c.what.ensures) ∙ c.if-is_param_tag.true in
    let next = is_next is_param_tag links (IsNamed links) (param_of links) c.loop-child.params c.in-Some.child c.next.new.self whole now is in
    one_more links (IsNamed links) (param_of links) c.loop-child.params c.in-Some.child (those is_param_tag c.next.new.self) whole next c.in_ok-param.param c.in_ok-param.ensures
    c.push.new.self c.in_ok-push.ensures.last

pub loop-child-preserved : goal.loop-child-preserved
loop-child-preserved c =
    let links = c.args.links.now in
    let whole = params_of links c.args.die.now.die in
    let now = subst (λ l. AreLeftOf is_param_tag links (IsNamed links) (param_of links) c.loop-child.params l whole) c.in-Some.ensures.steps c.loop-child.invariant in
    let other = sym (c.is_param_tag.ensures ∙ ap (passes is_param_tag) c.what.ensures) ∙ c.if-is_param_tag.false in
    is_other is_param_tag links (IsNamed links) (param_of links) c.loop-child.params c.in-Some.child c.next.new.self whole now other

pub returns : goal.returns
returns c =
    let links = c.args.links.now in
    all_made links (IsNamed links) (param_of links) c.loop-child.params (those is_param_tag c.loop-child.child-iterator) (params_of links c.args.die.now.die) c.loop-child.invariant
    (ap (those is_param_tag) c.in-None.ensures.steps.0)
