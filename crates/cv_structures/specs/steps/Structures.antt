-- The steps of the definitions of structures and pointers.
use Rattle.std.specs.Prelude.{ℕ, List, [], map, ℤ, if◌then◌else◌, Option, Some, None}
use Rattle.layout_set.specs.declared.set.TypeDef.{TypeDef}
use Rattle.layout_set.specs.declared.set.TypeRef.{TypeRef}
use Rattle.layout_set.specs.declared.shapes.FatContent.{FatContent}
use Rattle.names.specs.declared.name.Name.{Name}
use Rattle.names.specs.declared.name.PtrKind.{PtrKind}
use Rattle.cv_type_defs.specs.FatPointers.{Fat, leads_to_function}
use Rattle.cv_type_defs.specs.FieldLists.{Members}
use Rattle.cv_type_defs.specs.Fields.{CvField, field_target, fields_in, u32_or_0}
use Rattle.cv_type_defs.specs.Links.{Target}
use Rattle.cv_type_defs.specs.Structures.{fields_rule}
use Rattle.cv_type_defs.specs.Texts.{name_of_text}
use Rattle.cv_type_defs.specs.TypeRefs.{Info, field_of, or_unit, type_of, type_rule}

abbrev pub field_type : Info → CvField → TypeRef
field_type info f = or_unit (type_of info (field_target info.records f))

abbrev pub fat_def : Info → Name → PtrKind → FatContent → CvField → CvField → TypeDef
fat_def info name kind FatContent.OfSlice a b = TypeDef.Slice name kind (field_type info a)
fat_def info name kind FatContent.OfStr a b = TypeDef.Str name kind (field_type info a)
fat_def info name kind FatContent.OfDyn a b = TypeDef.Dyn name kind (field_type info a) (field_type info b)

-- a struct of this name
abbrev pub struct_with : Info → Members → ℤ → Name → TypeDef
struct_with info members size name = TypeDef.Struct name (u32_or_0 size) 0 [] (map (field_of info) (fields_in members))

abbrev pub structure_by : Info → Members → ℤ → List ℕ → Option Fat → TypeDef
structure_by info members size name (Some fat) = fat_def info (name_of_text name) fat.kind fat.content fat.first fat.second
structure_by info members size name None = TypeDef.Struct (name_of_text name) (u32_or_0 size) 0 [] (map (field_of info) (fields_in members))

abbrev pub fields_unless_fat : Info → Members → Option Fat → Option ℕ
fields_unless_fat info members (Some fat) = None
fields_unless_fat info members None = fields_rule info members

abbrev pub pointee_rule : Info → Target → Option ℕ
pointee_rule info to = if leads_to_function info.records to then None else type_rule info to
