-- LF_STRUCTURE and LF_POINTER: structs, fat pointers, and pointers that are not.
use Rattle.std.specs.Prelude.{ℕ, List, [], ◌∷◌, map, ℤ, is_none, if◌then◌else◌, Option, Some, None, unwrap_or}
use Rattle.layout_set.specs.declared.set.TypeDef.{TypeDef}
use Rattle.layout_set.specs.declared.set.TypeRef.{TypeRef}
use Rattle.layout_set.specs.declared.shapes.FatContent.{FatContent}
use Rattle.names.specs.declared.name.Name.{Name}
use Rattle.names.specs.declared.name.PtrKind.{PtrKind}
use Rattle.cv_type_defs.specs.FatPointers.{Fat, fat_pointer, leads_to_function}
use Rattle.cv_type_defs.specs.FieldLists.{Members}
use Rattle.cv_type_defs.specs.Fields.{CvField, field_target, fields_in, u32_of, u32_or_0}
use Rattle.cv_type_defs.specs.Items.{lowest, rule_if}
use Rattle.cv_type_defs.specs.Links.{Target, target}
use Rattle.cv_type_defs.specs.PointerAttributes.{pointer_kind}
use Rattle.cv_type_defs.specs.Rules.{wrong_kind}
use Rattle.cv_type_defs.specs.Texts.{name_of_text}
use Rattle.cv_type_defs.specs.TypeRefs.{Info, field_of, field_rule, fit_rule, or_unit, type_of, type_rule}

abbrev field_type : Info → CvField → TypeRef
field_type info f = or_unit (type_of info (field_target info.records f))

abbrev fat_def : Info → Name → PtrKind → FatContent → CvField → CvField → TypeDef
fat_def info name kind FatContent.OfSlice a b = TypeDef.Slice name kind (field_type info a)
fat_def info name kind FatContent.OfStr a b = TypeDef.Str name kind (field_type info a)
fat_def info name kind FatContent.OfDyn a b = TypeDef.Dyn name kind (field_type info a) (field_type info b)

-- CodeView has neither alignments nor params
abbrev structure_by : Info → Members → ℤ → List ℕ → Option Fat → TypeDef
structure_by info members size name (Some fat) = fat_def info (name_of_text name) fat.kind fat.content fat.first fat.second
structure_by info members size name None = TypeDef.Struct (name_of_text name) (u32_or_0 size) 0 [] (map (field_of info) (fields_in members))

-- an LF_STRUCTURE: a fat pointer where it is one, and else a struct
abbrev pub structure_def : Info → Members → ℤ → List ℕ → TypeDef
structure_def info members size name = structure_by info members size name (fat_pointer info.records name members)

-- the rules that the fields of a structure break, and its list
abbrev pub fields_rule : Info → Members → Option ℕ
fields_rule info members = lowest (members.rule ∷ map (field_rule info) (fields_in members))

abbrev fields_unless_fat : Info → Members → Option Fat → Option ℕ
fields_unless_fat info members (Some fat) = None
fields_unless_fat info members None = fields_rule info members

-- the rule that a structure breaks: its size is no u32, or one of its fields; the type of a fat pointer's length isn't looked at
abbrev pub structure_rule : Info → Members → ℤ → List ℕ → Option ℕ
structure_rule info members size name =
    lowest (fit_rule (u32_of size) ∷ fields_unless_fat info members (fat_pointer info.records name members) ∷ [])

-- an LF_POINTER: that to an LF_PROCEDURE is a function's, and every other a thin one
abbrev pub pointer_def : Info → ℕ → ℕ → ℕ → TypeDef
pointer_def info place ty attributes =
    if leads_to_function info.records (target info.records place ty) then TypeDef.FnPtr
    else TypeDef.Thin (unwrap_or (pointer_kind attributes) PtrKind.Mut) (or_unit (type_of info (target info.records place ty)))

abbrev pointee_rule : Info → Target → Option ℕ
pointee_rule info to = if leads_to_function info.records to then None else type_rule info to

-- the rule that a pointer breaks: its attributes are another's, or what it leads to
abbrev pub pointer_rule : Info → ℕ → ℕ → ℕ → Option ℕ
pointer_rule info place ty attributes =
    lowest (rule_if (is_none (pointer_kind attributes)) wrong_kind ∷ pointee_rule info (target info.records place ty) ∷ [])
