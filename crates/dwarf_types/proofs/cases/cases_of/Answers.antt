use Rattle.std.proofs.Common.{◌∙◌, ap, map, refl, subst, sym}
use Rattle.dwarf_entries.specs.Structures.{children_with}
use Rattle.dwarf_entries.specs.Tags.{passes}
use Rattle.dwarf_entries.specs.Types.{case_of, is_enumerator}
use Rattle.dwarf_pointers.proofs.ChildLists.{those}
use Rattle.dwarf_types.specs.Said.{IsNamed}
use Rattle.dwarf_types.proofs.Lists.{AreLeftOf, all_made, children_first, is_next, is_other, next_one, one_more}
use Rattle.dwarf_types.proofs.cases.cases_of.Goals as goal

pub loop-child-init : goal.loop-child-init
loop-child-init c =
    let a = c.args.die.now in
    children_first is_enumerator a.info (IsNamed a.info) (case_of a.info c.args.prim) a refl c.requires c.into_iter-child-iterator.result
    (c.into_iter-child-iterator.ensures.into_iter_gives ∙ c.children-child-items.ensures) c.new-cases.result c.new-cases.ensures

pub case_of-requires : goal.case_of-requires
case_of-requires c =
    let a = c.args.die.now in
    let f = case_of a.info c.args.prim in
    let whole = map f (children_with is_enumerator a.info a.die) in
    let now = subst (λ l. AreLeftOf is_enumerator a.info (IsNamed a.info) f c.loop-child.cases l whole) c.in-Some.ensures.steps c.loop-child.invariant in
    let is = sym (c.is_enumerator.ensures ∙ ap (passes is_enumerator) c.what.ensures) ∙ c.if-is_enumerator.true in
    let next = is_next is_enumerator a.info (IsNamed a.info) f c.loop-child.cases c.in-Some.child c.next.new.self whole now is in
    let one = next_one a.info (IsNamed a.info) f c.loop-child.cases c.in-Some.child (those is_enumerator c.next.new.self) whole next in
    subst (λ i. IsNamed i c.in-Some.child.die) (sym one.here) one.is

pub loop-child-preserved-in-Continue-branch-2 : goal.loop-child-preserved-in-Continue-branch-2
loop-child-preserved-in-Continue-branch-2 c =
    let a = c.args.die.now in
    let f = case_of a.info c.args.prim in
    let whole = map f (children_with is_enumerator a.info a.die) in
    let now = subst (λ l. AreLeftOf is_enumerator a.info (IsNamed a.info) f c.loop-child.cases l whole) c.in-Some.ensures.steps c.loop-child.invariant in
    let is = sym (c.is_enumerator.ensures ∙ ap (passes is_enumerator) c.what.ensures) ∙ c.if-is_enumerator.true in
    let next = is_next is_enumerator a.info (IsNamed a.info) f c.loop-child.cases c.in-Some.child c.next.new.self whole now is in
    let one = next_one a.info (IsNamed a.info) f c.loop-child.cases c.in-Some.child (those is_enumerator c.next.new.self) whole next in
    one_more a.info (IsNamed a.info) f c.loop-child.cases c.in-Some.child (those is_enumerator c.next.new.self) whole next c.in_ok-case.case
    (c.in_ok-case.ensures ∙ ap (λ i. case_of i c.args.prim c.in-Some.child.die) one.here) c.push.new.self c.in_ok-push.ensures.last

pub loop-child-preserved : goal.loop-child-preserved
loop-child-preserved c =
    let a = c.args.die.now in
    let f = case_of a.info c.args.prim in
    let whole = map f (children_with is_enumerator a.info a.die) in
    let now = subst (λ l. AreLeftOf is_enumerator a.info (IsNamed a.info) f c.loop-child.cases l whole) c.in-Some.ensures.steps c.loop-child.invariant in
    let other = sym (c.is_enumerator.ensures ∙ ap (passes is_enumerator) c.what.ensures) ∙ c.if-is_enumerator.false in
    is_other is_enumerator a.info (IsNamed a.info) f c.loop-child.cases c.in-Some.child c.next.new.self whole now other

pub returns : goal.returns
returns c =
    let a = c.args.die.now in
    let f = case_of a.info c.args.prim in
    all_made a.info (IsNamed a.info) f c.loop-child.cases (those is_enumerator c.loop-child.child-iterator) (map f (children_with is_enumerator a.info a.die)) c.loop-child.invariant
    (ap (those is_enumerator) c.in-None.ensures.steps.0)
