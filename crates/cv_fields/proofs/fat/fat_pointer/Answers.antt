use Rattle.std.proofs.Common.{Option, ap, sym, ◌∙◌}
use Rattle.layout_set.specs.NameShapes.{fat_of}
use Rattle.layout_set.specs.declared.shapes.FatContent.{FatContent}
use Rattle.names.specs.declared.name.PtrKind.{PtrKind}
use Rattle.cv_type_defs.specs.FieldLists.{members_of}
use Rattle.cv_fields.specs.Members.{two_fields}
use Rattle.cv_fields.specs.Pairs.{fat_by}
use Rattle.cv_fields.proofs.Twos.{fat_is}
use Rattle.cv_fields.proofs.fat.fat_pointer.Goals as goal

pub returns : goal.returns
returns c =
    let records = c.args.links.now in
    let first = c.in-Some.first in
    let second = c.in-Some.second in
    c.fat_by.ensures ∙ ap (λ (f : Option (PtrKind × FatContent)). fat_by records f first second) (c.fat_of.ensures ∙ ap fat_of c.in_ok-name.ensures)
    ∙ sym (fat_is records c.args.name.now (members_of records c.args.place c.args.fields) first second (sym (c.in-Some.ensures ∙ ap two_fields c.members.ensures)))
