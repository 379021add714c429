-- The steps of the definition of sizes, and tables of sizes by the places of records.
use Rattle.std.specs.Prelude.{◌≡◌, ℕ, ◌==◌, Bool, if◌then◌else◌, List, length, slice_get, ℤ, is_some, Option, Some, None}
use Rattle.cv_type_records.specs.declared.kinds.TypeKind.{TypeKind}
use Rattle.layout_set.specs.Primitives.{prim_bytes}
use Rattle.layout_set.specs.declared.primitive.Primitive.{Primitive}
use Rattle.cv_type_defs.specs.Arrays.{size_below}
use Rattle.cv_type_defs.specs.Enumerations.{enumeration_primitive}
use Rattle.cv_type_defs.specs.FatPointers.{fat_pointer}
use Rattle.cv_type_defs.specs.FieldLists.{members_of}
use Rattle.cv_type_defs.specs.Fields.{u32_of, u32_or_0}
use Rattle.cv_type_defs.specs.Links.{Target, meant}
use Rattle.cv_type_defs.specs.Numbering.{is_unit_name}
use Rattle.cv_type_defs.specs.Records.{kind_at}
use Rattle.cv_type_defs.specs.SimpleTypes.{primitive_at, pointed_at}
use Rattle.cv_type_defs.specs.TypeRefs.{Info}

abbrev simple_by : Option Primitive → Option Primitive → ℕ
simple_by (Some prim) pointed = prim_bytes 8 prim
simple_by None (Some prim) = 8
simple_by None None = 0

-- the size of a simple type
abbrev pub simple_size : ℕ → ℕ
simple_size index = simple_by (primitive_at index) (pointed_at index)

abbrev pub fat_or_own : Bool → Option ℕ → ℕ
fat_or_own fat None = 0
fat_or_own fat (Some size) = if fat then 16 else size

abbrev pub structure_size : Info → ℕ → ℕ → ℤ → List ℕ → ℕ
structure_size info place fields size name =
    if is_unit_name name then 0
    else fat_or_own (is_some (fat_pointer info.records name (members_of info.records place fields))) (u32_of size)

-- the size of a record that is neither an LF_MODIFIER nor an LF_ARRAY
abbrev pub own_size : Info → ℕ → Option TypeKind → ℕ
own_size info place (Some (TypeKind.Pointer ty attributes)) = 8
own_size info place (Some (TypeKind.Structure count property fields derived vshape size name unique)) = structure_size info place fields size name
own_size info place (Some (TypeKind.«Union» count property fields size name unique)) = u32_or_0 size
own_size info place (Some (TypeKind.Enum count property ty fields name unique)) = prim_bytes 8 (enumeration_primitive info place ty)
own_size info place _ = 0

abbrev pub target_size : Info → Target → ℕ
target_size info (Target.Record place) = own_size info place (kind_at info.records place)
target_size info _ = 0

abbrev pub array_size : ℕ → ℤ → ℕ
array_size element size = if element == 0 then 0 else u32_or_0 size

abbrev pub size_here : Info → (ℕ → ℕ) → ℕ → Option TypeKind → ℕ
size_here info next place (Some (TypeKind.Modifier ty modifiers)) = next ty
size_here info next place (Some (TypeKind.Array elem index size name)) = array_size (next elem) size
size_here info next place _ = target_size info (meant info.records place)

-- the size of the record at a place, from any record after it
abbrev pub size_at : Info → ℕ → ℕ
size_at info place = size_here info (size_below info place) place (kind_at info.records place)

-- these are the sizes of the first records, LF_MODIFIERs and LF_ARRAYs aside
pub record AreOwn (info : Info) (own : List ℕ) : Type 0 where
  pub each : (place n : ℕ) → slice_get own place ≡ Some n → n ≡ own_size info place (kind_at info.records place)

-- these are the sizes of the first records
pub record AreSizes (info : Info) (sizes : List ℕ) : Type 0 where
  pub each : (place n : ℕ) → slice_get sizes place ≡ Some n → n ≡ size_at info place

-- the same of all records
pub record AreAllSizes (info : Info) (sizes : List ℕ) : Type 0 where
  pub are : AreSizes info sizes
  pub all : length sizes ≡ length info.records

pub record AreAllOwn (info : Info) (own : List ℕ) : Type 0 where
  pub are : AreOwn info own
  pub all : length own ≡ length info.records
