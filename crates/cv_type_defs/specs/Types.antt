-- The types that records are, and the rules that they break.
use Rattle.std.specs.Prelude.{ℕ, List, [], ◌∷◌, filter, map, Option, None}
use Rattle.layout_set.specs.declared.set.TypeDef.{TypeDef}
use Rattle.cv_type_records.specs.declared.kinds.TypeKind.{TypeKind}
use Rattle.cv_type_records.specs.declared.kinds.TypeRec.{TypeRec}
use Rattle.cv_type_defs.specs.Arrays.{array_def, array_rule}
use Rattle.cv_type_defs.specs.Counts.{count_rule}
use Rattle.cv_type_defs.specs.Enumerations.{enumeration_def, enumeration_rule}
use Rattle.cv_type_defs.specs.Enums.{union_def, union_rule}
use Rattle.cv_type_defs.specs.FieldLists.{members_of}
use Rattle.cv_type_defs.specs.Items.{Item, in_types, item_at, lowest}
use Rattle.cv_type_defs.specs.Numbering.{is_numbered}
use Rattle.cv_type_defs.specs.Structures.{pointer_def, pointer_rule, structure_def, structure_rule}
use Rattle.cv_type_defs.specs.TypeRefs.{Info}
use Rattle.cv_type_defs.specs.Uses.{with_places}

-- the type that the numbered record at a place is; every other record is none
abbrev pub kind_def : Info → ℕ → TypeKind → TypeDef
kind_def info place (TypeKind.Pointer ty attributes) = pointer_def info place ty attributes
kind_def info place (TypeKind.Array elem index size name) = array_def info place elem size
kind_def info place (TypeKind.Structure count property fields derived vshape size name unique) =
    structure_def info (members_of info.records place fields) size name
kind_def info place (TypeKind.«Union» count property fields size name unique) =
    union_def info (members_of info.records place fields) size name
kind_def info place (TypeKind.Enum count property ty fields name unique) =
    enumeration_def info place ty (members_of info.records place fields) name
kind_def info place _ = TypeDef.FnPtr

-- the rule that it breaks, counts aside
abbrev pub kind_rule : Info → ℕ → TypeKind → Option ℕ
kind_rule info place (TypeKind.Pointer ty attributes) = pointer_rule info place ty attributes
kind_rule info place (TypeKind.Array elem index size name) = array_rule info place elem size
kind_rule info place (TypeKind.Structure count property fields derived vshape size name unique) =
    structure_rule info (members_of info.records place fields) size name
kind_rule info place (TypeKind.«Union» count property fields size name unique) =
    union_rule info (members_of info.records place fields) size name
kind_rule info place (TypeKind.Enum count property ty fields name unique) =
    enumeration_rule info place ty (members_of info.records place fields)
kind_rule info place _ = None

-- the numbered records in order, each with its place
abbrev pub numbered : Info → List (ℕ × TypeRec)
numbered info = filter (λ p. is_numbered p.1.kind) (with_places info.records)

abbrev pub def_of : Info → ℕ × TypeRec → TypeDef
def_of info p = kind_def info p.0 p.1.kind

-- the item of a numbered record stands at the record, also for what is invalid in a record to which it leads
abbrev pub item_of : Info → ℕ × TypeRec → Item
item_of info p = item_at (in_types p.1.offset) (lowest (count_rule info p.0 ∷ kind_rule info p.0 p.1.kind ∷ []))

-- one item for each numbered record
abbrev pub items : Info → List Item
items info = map (item_of info) (numbered info)
