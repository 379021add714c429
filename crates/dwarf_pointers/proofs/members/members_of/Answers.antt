use Rattle.std.proofs.Common.{◌∙◌, ◌++◌, List, ap, sym}
use Rattle.dwarf_entries.specs.Structures.{is_member}
use Rattle.dwarf_dies.specs.Handles.{DieIn}
use Rattle.dwarf_pointers.proofs.ChildLists.{members_are, those}
use Rattle.dwarf_pointers.proofs.members.members_of.Goals as goal

pub loop-child-init : goal.loop-child-init
loop-child-init c =
    ap (λ (l : List DieIn). l ++ those is_member c.into_iter-child-iterator.result) c.new-members.ensures
    ∙ ap (those is_member) (c.into_iter-child-iterator.ensures.into_iter_gives ∙ c.children-child-items.ensures)
    ∙ members_are c.args.die.now (sym c.has_part.ensures ∙ c.if-has_part.false)
