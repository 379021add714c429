use Rattle.std.proofs.Common.{List, sym, ap, ◌∙◌, option_map}
use Rattle.cv_type_defs.specs.FatPointers.{fat_pointer}
use Rattle.cv_type_defs.specs.FieldLists.{members_of}
use Rattle.cv_type_records.specs.declared.kinds.TypeRec.{TypeRec}
use Rattle.cv_fields.specs.Seen.{fat_seen}
use Rattle.cv_structures.proofs.Rules.{fields_fit}
use Rattle.cv_structures.proofs.structures.structure_def.Goals as goal

pub struct_def-requires : goal.struct_def-requires
struct_def-requires c =
    let info = c.args.info.now in
    let name = c.args.name.now in
    let none = sym (c.in_ok-fat.ensures ∙ ap (λ (r : List TypeRec). fat_pointer r name (members_of r c.args.place c.args.fields)) c.links.ensures) ∙ ap (option_map fat_seen) c.in-None.is in
    fields_fit info (members_of info.records c.args.place c.args.fields) c.args.size name c.requires none
