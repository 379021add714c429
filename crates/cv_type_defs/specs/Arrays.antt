-- LF_ARRAY: its count is its size divided by that of its element. Sizes are in bytes.
use Rattle.std.specs.Prelude.{ℕ, zero, suc, ◌+◌, ◌/◌, ◌%◌, ◌==◌, ◌&&◌, not, Bool, if◌then◌else◌, List, [], ◌∷◌, ℤ, pos, negsuc, is_some, Option, Some, None}
use Rattle.layout_set.specs.Primitives.{prim_bytes}
use Rattle.layout_set.specs.declared.primitive.Primitive.{Primitive}
use Rattle.layout_set.specs.declared.set.TypeDef.{TypeDef}
use Rattle.cv_type_records.specs.declared.kinds.TypeKind.{TypeKind}
use Rattle.cv_type_defs.specs.Enumerations.{enumeration_primitive}
use Rattle.cv_type_defs.specs.FatPointers.{fat_pointer}
use Rattle.cv_type_defs.specs.FieldLists.{members_of}
use Rattle.cv_type_defs.specs.Fields.{u32_of, u32_or_0}
use Rattle.cv_type_defs.specs.Items.{lowest, rule_if}
use Rattle.cv_type_defs.specs.Links.{Target, meant, target}
use Rattle.cv_type_defs.specs.Numbering.{is_unit_name}
use Rattle.cv_type_defs.specs.Records.{kind_at}
use Rattle.cv_type_defs.specs.Rules.{array_shape, no_fit}
use Rattle.cv_type_defs.specs.SimpleTypes.{first_index, primitive_at, pointed_at}
use Rattle.cv_type_defs.specs.TypeRefs.{Info, or_unit, type_of, type_rule}

abbrev simple_by : Option Primitive → Option Primitive → ℕ
simple_by (Some prim) pointed = prim_bytes 8 prim
simple_by None (Some prim) = 8
simple_by None None = 0

abbrev simple_size : ℕ → ℕ
simple_size index = simple_by (primitive_at index) (pointed_at index)

-- a fat pointer has two words
abbrev fat_or_own : Bool → Option ℕ → ℕ
fat_or_own fat None = 0
fat_or_own fat (Some size) = if fat then 16 else size

abbrev structure_size : Info → ℕ → ℕ → ℤ → List ℕ → ℕ
structure_size info place fields size name =
    if is_unit_name name then 0
    else fat_or_own (is_some (fat_pointer info.records name (members_of info.records place fields))) (u32_of size)

-- the size of a record that is neither an LF_MODIFIER nor an LF_ARRAY; 0 where it is no u32, which breaks a rule there
abbrev own_size : Info → ℕ → Option TypeKind → ℕ
own_size info place (Some (TypeKind.Pointer ty attributes)) = 8
own_size info place (Some (TypeKind.Structure count property fields derived vshape size name unique)) = structure_size info place fields size name
own_size info place (Some (TypeKind.«Union» count property fields size name unique)) = u32_or_0 size
own_size info place (Some (TypeKind.Enum count property ty fields name unique)) = prim_bytes 8 (enumeration_primitive info place ty)
own_size info place _ = 0

abbrev target_size : Info → Target → ℕ
target_size info (Target.Record place) = own_size info place (kind_at info.records place)
target_size info _ = 0

abbrev array_size : ℕ → ℤ → ℕ
array_size element size = if element == 0 then 0 else u32_or_0 size

abbrev size_here : Info → (ℕ → ℕ) → ℕ → Option TypeKind → ℕ
size_here info next place (Some (TypeKind.Modifier ty modifiers)) = next ty
size_here info next place (Some (TypeKind.Array elem index size name)) = array_size (next elem) size
size_here info next place _ = target_size info (meant info.records place)

-- the size of the type where an index leads that must be below that of the record at this place; that of an array is 0 where its
-- element has none
unfoldable pub size_below : Info → ℕ → ℕ → ℕ
size_below info zero index = simple_size index
size_below info (suc place) index =
    if index == first_index + place
    then size_here info (size_below info place) place (kind_at info.records place)
    else size_below info place index

-- how many elements of this size there are in so many bytes
abbrev pub count_by_size : ℕ → ℤ → ℕ
count_by_size element (pos size) = if element == 0 then 0 else size / element
count_by_size element (negsuc size) = 0

-- the rule that the size of an array breaks: it is negative, or no multiple of that of its element
abbrev pub array_size_rule : ℕ → ℤ → Option ℕ
array_size_rule element (pos size) = rule_if (not (element == 0) && not (size % element == 0)) array_shape
array_size_rule element (negsuc size) = Some no_fit

abbrev pub array_def : Info → ℕ → ℕ → ℤ → TypeDef
array_def info place elem size =
    TypeDef.Array (or_unit (type_of info (target info.records place elem))) (count_by_size (size_below info place elem) size)

abbrev pub array_rule : Info → ℕ → ℕ → ℤ → Option ℕ
array_rule info place elem size =
    lowest (array_size_rule (size_below info place elem) size ∷ type_rule info (target info.records place elem) ∷ [])
