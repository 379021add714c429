-- The bytes of the fields of type records, each by the record's name.
use Rattle.std.specs.Prelude.{ℕ, ℤ, List, [], ◌++◌, length, Option, Some, None}
use Rattle.byteorder.specs.Endian.{little_bytes}
use Rattle.rv_bytes.specs.Leaves.{numeric_bytes}
use Rattle.cv_parts.specs.Puts.{name_bytes}
use Rattle.cv_record_writer.specs.Contents.{all_bytes}
use Rattle.cv_type_records.specs.Leaves.{lf_modifier, lf_pointer, lf_procedure, lf_arglist, lf_fieldlist, lf_array, lf_structure, lf_union, lf_enum}
use Rattle.cv_type_records.specs.declared.kinds.Member.{Member}
use Rattle.cv_type_records.specs.declared.kinds.TypeKind.{TypeKind}
use Rattle.cv_type_writer.specs.MemberBytes.{member_bytes}

-- the number of a record's kind
abbrev pub type_number : TypeKind → ℕ
type_number (TypeKind.Modifier ty modifiers) = lf_modifier
type_number (TypeKind.Pointer ty attributes) = lf_pointer
type_number (TypeKind.Procedure returned call options count args) = lf_procedure
type_number (TypeKind.ArgList types) = lf_arglist
type_number (TypeKind.FieldList members) = lf_fieldlist
type_number (TypeKind.Array elem index size name) = lf_array
type_number (TypeKind.Structure count property fields derived vshape size name unique) = lf_structure
type_number (TypeKind.Union count property fields size name unique) = lf_union
type_number (TypeKind.Enum count property ty fields name unique) = lf_enum
type_number (TypeKind.Other kind) = kind

-- LF_MODIFIER
abbrev pub modifier_bytes : ℕ → ℕ → List ℕ
modifier_bytes ty modifiers = little_bytes 4 ty ++ little_bytes 2 modifiers

-- LF_POINTER
abbrev pub pointer_bytes : ℕ → ℕ → List ℕ
pointer_bytes ty attributes = little_bytes 4 ty ++ little_bytes 4 attributes

-- LF_PROCEDURE
abbrev pub procedure_bytes : ℕ → ℕ → ℕ → ℕ → ℕ → List ℕ
procedure_bytes returned call options count args =
    little_bytes 4 returned ++ (little_bytes 1 call ++ (little_bytes 1 options ++ (little_bytes 2 count ++ little_bytes 4 args)))

-- LF_ARGLIST: the count of the types, and the types
abbrev pub arglist_bytes : List ℕ → List ℕ
arglist_bytes types = little_bytes 4 (length types) ++ all_bytes (little_bytes 4) types

-- LF_FIELDLIST: the members, each with its pad
abbrev pub fieldlist_bytes : List Member → List ℕ
fieldlist_bytes members = all_bytes member_bytes members

-- LF_ARRAY
abbrev pub array_bytes : ℕ → ℕ → ℤ → List ℕ → List ℕ
array_bytes elem index size name = little_bytes 4 elem ++ (little_bytes 4 index ++ (numeric_bytes size ++ name_bytes name))

-- a unique name, where there is one
abbrev pub unique_bytes : Option (List ℕ) → List ℕ
unique_bytes None = []
unique_bytes (Some name) = name_bytes name

-- LF_STRUCTURE
abbrev pub structure_bytes : ℕ → ℕ → ℕ → ℕ → ℕ → ℤ → List ℕ → Option (List ℕ) → List ℕ
structure_bytes count property fields derived vshape size name unique =
    little_bytes 2 count ++ (little_bytes 2 property ++ (little_bytes 4 fields ++ (little_bytes 4 derived ++ (little_bytes 4 vshape
    ++ (numeric_bytes size ++ (name_bytes name ++ unique_bytes unique))))))

-- LF_UNION
abbrev pub union_bytes : ℕ → ℕ → ℕ → ℤ → List ℕ → Option (List ℕ) → List ℕ
union_bytes count property fields size name unique =
    little_bytes 2 count ++ (little_bytes 2 property ++ (little_bytes 4 fields ++ (numeric_bytes size ++ (name_bytes name ++ unique_bytes unique))))

-- LF_ENUM
abbrev pub enum_bytes : ℕ → ℕ → ℕ → ℕ → List ℕ → Option (List ℕ) → List ℕ
enum_bytes count property ty fields name unique =
    little_bytes 2 count ++ (little_bytes 2 property ++ (little_bytes 4 ty ++ (little_bytes 4 fields ++ (name_bytes name ++ unique_bytes unique))))

-- the fields of a record by its kind; those of other kinds aren't known
abbrev pub fields_bytes : TypeKind → List ℕ
fields_bytes (TypeKind.Modifier ty modifiers) = modifier_bytes ty modifiers
fields_bytes (TypeKind.Pointer ty attributes) = pointer_bytes ty attributes
fields_bytes (TypeKind.Procedure returned call options count args) = procedure_bytes returned call options count args
fields_bytes (TypeKind.ArgList types) = arglist_bytes types
fields_bytes (TypeKind.FieldList members) = fieldlist_bytes members
fields_bytes (TypeKind.Array elem index size name) = array_bytes elem index size name
fields_bytes (TypeKind.Structure count property fields derived vshape size name unique) = structure_bytes count property fields derived vshape size name unique
fields_bytes (TypeKind.Union count property fields size name unique) = union_bytes count property fields size name unique
fields_bytes (TypeKind.Enum count property ty fields name unique) = enum_bytes count property ty fields name unique
fields_bytes (TypeKind.Other kind) = []
