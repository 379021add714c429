-- Which records are types of the set: complete records of LF_POINTER, LF_ARRAY, LF_STRUCTURE, LF_UNION and LF_ENUM, but for the
-- helpers of enums and the unit.
use Rattle.std.specs.Prelude.{ℕ, ◌&&◌, ◌||◌, not, Bool, true, false, nat_eq, bytes_eq, codes, List, count_by, take}
use Rattle.std.specs.List.{starts_with, ends_with}
use Rattle.cv_type_defs.specs.Records.{is_forward_property}
use Rattle.cv_type_records.specs.declared.kinds.TypeKind.{TypeKind}
use Rattle.cv_type_records.specs.declared.kinds.TypeRec.{TypeRec}

-- the name begins as that of an enum does
abbrev pub is_enum_name : List ℕ → Bool
is_enum_name name = starts_with nat_eq name (codes "enum2$<")

-- the name ends as that of an enum does
abbrev pub is_closed : List ℕ → Bool
is_closed name = ends_with nat_eq name (codes ">")

-- the name is that of a helper of an enum: it goes on after the enum's own
abbrev pub is_helper_name : List ℕ → Bool
is_helper_name name = is_enum_name name && not (is_closed name)

-- the name of the unit
abbrev pub is_unit_name : List ℕ → Bool
is_unit_name name = bytes_eq name (codes "tuple$<>")

-- a complete LF_STRUCTURE that is the unit
abbrev pub is_unit : TypeKind → Bool
is_unit (TypeKind.Structure count property fields derived vshape size name unique) = not (is_forward_property property) && is_unit_name name
is_unit _ = false

-- a record that is a type of the set
abbrev pub is_numbered : TypeKind → Bool
is_numbered (TypeKind.Pointer ty attributes) = true
is_numbered (TypeKind.Array elem index size name) = true
is_numbered (TypeKind.Structure count property fields derived vshape size name unique) =
    not (is_forward_property property) && not (is_unit_name name || is_helper_name name)
is_numbered (TypeKind.«Union» count property fields size name unique) = not (is_forward_property property)
is_numbered (TypeKind.Enum count property ty fields name unique) = not (is_forward_property property) && not (is_helper_name name)
is_numbered _ = false

-- how many types of the set have their records before this place
abbrev pub numbered_before : List TypeRec → ℕ → ℕ
numbered_before records place = count_by (λ r. is_numbered r.kind) (take place records)
