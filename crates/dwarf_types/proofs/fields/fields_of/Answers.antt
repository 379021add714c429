use Rattle.std.proofs.Common.{◌∙◌, ap, subst, sym}
use Rattle.dwarf_entries.specs.Structures.{field_of, fields_of, is_member}
use Rattle.dwarf_entries.specs.Tags.{passes}
use Rattle.dwarf_pointers.proofs.ChildLists.{those}
use Rattle.dwarf_types.specs.Said.{IsField}
use Rattle.dwarf_types.proofs.Lists.{all_made, is_next, is_other, next_one, one_more}
use Rattle.dwarf_types.proofs.Members.{AreFieldsLeft, fields_first, no_fields}
use Rattle.dwarf_types.proofs.fields.fields_of.Goals as goal

pub returns-then-has_part : goal.returns-then-has_part
returns-then-has_part c = no_fields c.args.links.now c.args.die.now c.requires.here (sym c.has_part.ensures ∙ c.if-has_part.true) c.new-fields.result c.new-fields.ensures

pub loop-child-init : goal.loop-child-init
loop-child-init c =
    fields_first c.args.links.now c.args.die.now c.requires.here (sym c.has_part.ensures ∙ c.if-has_part.false) c.requires.fields c.into_iter-child-iterator.result
    (c.into_iter-child-iterator.ensures.into_iter_gives ∙ c.children-child-items.ensures) c.new-fields.result c.new-fields.ensures

pub field_of-requires-clause-here : goal.field_of-requires-clause-here
field_of-requires-clause-here c =
    let links = c.args.links.now in
    let d = c.args.die.now.die in
    let now = subst (AreFieldsLeft links d c.loop-child.fields) c.in-Some.ensures.steps c.loop-child.invariant in
    let is = sym (c.is_member.ensures ∙ ap (passes is_member) c.what.ensures) ∙ c.if-is_member.true in
    let next = is_next is_member links (IsField links) (field_of links) c.loop-child.fields c.in-Some.child c.next.new.self (fields_of links d) now is in
    (next_one links (IsField links) (field_of links) c.loop-child.fields c.in-Some.child (those is_member c.next.new.self) (fields_of links d) next).here

pub field_of-requires-clause-field : goal.field_of-requires-clause-field
field_of-requires-clause-field c =
    let links = c.args.links.now in
    let d = c.args.die.now.die in
    let now = subst (AreFieldsLeft links d c.loop-child.fields) c.in-Some.ensures.steps c.loop-child.invariant in
    let is = sym (c.is_member.ensures ∙ ap (passes is_member) c.what.ensures) ∙ c.if-is_member.true in
    let next = is_next is_member links (IsField links) (field_of links) c.loop-child.fields c.in-Some.child c.next.new.self (fields_of links d) now is in
    (next_one links (IsField links) (field_of links) c.loop-child.fields c.in-Some.child (those is_member c.next.new.self) (fields_of links d) next).is

pub loop-child-preserved-in-Continue-branch-2 : goal.loop-child-preserved-in-Continue-branch-2
loop-child-preserved-in-Continue-branch-2 c =
    let links = c.args.links.now in
    let d = c.args.die.now.die in
    let now = subst (AreFieldsLeft links d c.loop-child.fields) c.in-Some.ensures.steps c.loop-child.invariant in
    let is = sym (c.is_member.ensures ∙ ap (passes is_member) c.what.ensures) ∙ c.if-is_member.true in
    let next = is_next is_member links (IsField links) (field_of links) c.loop-child.fields c.in-Some.child c.next.new.self (fields_of links d) now is in
    one_more links (IsField links) (field_of links) c.loop-child.fields c.in-Some.child (those is_member c.next.new.self) (fields_of links d) next c.in_ok-field.field c.in_ok-field.ensures
    c.push.new.self c.in_ok-push.ensures.last

pub loop-child-preserved : goal.loop-child-preserved
loop-child-preserved c =
    let links = c.args.links.now in
    let d = c.args.die.now.die in
    let now = subst (AreFieldsLeft links d c.loop-child.fields) c.in-Some.ensures.steps c.loop-child.invariant in
    let other = sym (c.is_member.ensures ∙ ap (passes is_member) c.what.ensures) ∙ c.if-is_member.false in
    is_other is_member links (IsField links) (field_of links) c.loop-child.fields c.in-Some.child c.next.new.self (fields_of links d) now other

pub returns : goal.returns
returns c =
    let links = c.args.links.now in
    all_made links (IsField links) (field_of links) c.loop-child.fields (those is_member c.loop-child.child-iterator) (fields_of links c.args.die.now.die) c.loop-child.invariant
    (ap (those is_member) c.in-None.ensures.steps.0)
