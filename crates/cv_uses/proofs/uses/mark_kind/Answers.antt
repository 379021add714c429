use Rattle.std.proofs.Common.{ℕ, List, ap, sym, ◌∙◌}
use Rattle.cv_type_defs.specs.FatPointers.{fat_pointer}
use Rattle.cv_type_defs.specs.FieldLists.{members_of}
use Rattle.cv_type_defs.specs.Uses.{kind_uses}
use Rattle.cv_type_records.specs.declared.kinds.TypeKind.{TypeKind}
use Rattle.cv_uses.specs.Marks.{with_marks}
use Rattle.cv_uses.specs.Places.{structure_uses}
use Rattle.cv_uses.proofs.uses.mark_kind.Goals as goal

pub returns-in_ok-mark_structure-in-Structure : goal.returns-in_ok-mark_structure-in-Structure
returns-in_ok-mark_structure-in-Structure c =
    let records = c.args.links.now in
    let marks = c.args.marks.now in
    let members = members_of records c.args.place c.in-Structure.fields in
    c.in_ok-mark_structure-in-Structure.ensures
    ∙ ap (λ (n : List ℕ). with_marks marks (structure_uses records members (fat_pointer records n members))) c.as_bytes.ensures
    ∙ ap (λ (k : TypeKind). with_marks marks (kind_uses records c.args.place k)) (sym c.in-Structure.is)
