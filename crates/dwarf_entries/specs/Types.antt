-- The types that entries are: DWARF 5, 5.3 to 5.7.
use Rattle.std.specs.Prelude.{ℕ, Bool, true, false, List, [], ◌∷◌, map, Option, Some, None, unwrap_or}
use Rattle.dwarf_abbrev.specs.Values.{Val}
use Rattle.layout_set.specs.Primitives.{prim_bytes}
use Rattle.layout_set.specs.declared.primitive.Primitive.{Primitive}
use Rattle.layout_set.specs.declared.set.Case.{Case}
use Rattle.layout_set.specs.declared.set.TypeDef.{TypeDef}
use Rattle.dwarf_entries.specs.Codes.{at_alignment, at_byte_size, at_const_value, at_count}
use Rattle.dwarf_entries.specs.Dies.{Die, Info, what}
use Rattle.dwarf_entries.specs.Discriminants.{case_number}
use Rattle.dwarf_entries.specs.Enums.{part_of, primitive_in, tag_in, variants_in, variant_of}
use Rattle.dwarf_entries.specs.Lookups.{number_of, value_of}
use Rattle.dwarf_entries.specs.Names.{name_of}
use Rattle.dwarf_entries.specs.Pointers.{fat_pointer, pointer_def}
use Rattle.dwarf_entries.specs.Structures.{children_with, fields_of, params_of}
use Rattle.dwarf_entries.specs.Texts.{own_text}
use Rattle.dwarf_entries.specs.TypeLinks.{or_unit, type_of}
use Rattle.dwarf_entries.specs.declared.tag.Tag.{Tag}

abbrev pub size_of : Die → ℕ
size_of d = unwrap_or (number_of at_byte_size d.entry) 0

-- 0 says that none is given
abbrev pub alignment_of : Die → ℕ
alignment_of d = unwrap_or (number_of at_alignment d.entry) 0

-- a structure with a variant part
abbrev pub enum_def : Info → Die → Die → TypeDef
enum_def info d part =
    TypeDef.Enum (name_of info d) (size_of d) (alignment_of d) (params_of info d) (tag_in info part) (map (variant_of info part) (variants_in info part))

abbrev struct_def : Info → Die → TypeDef
struct_def info d = TypeDef.Struct (name_of info d) (size_of d) (alignment_of d) (params_of info d) (fields_of info d)

abbrev structure_by : Info → Die → Option Die → Option TypeDef → TypeDef
structure_by info d (Some part) fat = enum_def info d part
structure_by info d None (Some fat) = fat
structure_by info d None None = struct_def info d

-- a structure: an enum where it has a variant part, a fat pointer where it is one, and else a struct
abbrev pub structure_def : Info → Die → TypeDef
structure_def info d = structure_by info d (part_of info d) (fat_pointer info d)

abbrev pub is_subrange : Tag → Bool
is_subrange Tag.SubrangeType = true
is_subrange _ = false

abbrev pub is_enumerator : Tag → Bool
is_enumerator Tag.Enumerator = true
is_enumerator _ = false

-- the count of the one subrange of an array; None where that is missing, or there are more
abbrev pub one_count : List Die → Option ℕ
one_count (r ∷ []) = number_of at_count r.entry
one_count _ = None

abbrev pub count_of : Info → Die → Option ℕ
count_of info d = one_count (children_with is_subrange info d)

-- the primitive of an enumeration; a unit stands for one that breaks a rule
abbrev pub enumeration_primitive : Info → Die → Primitive
enumeration_primitive info d = unwrap_or (primitive_in (type_of info d)) Primitive.«Unit»

-- a case: its number is modulo the size of its type
abbrev pub case_of : Info → Primitive → Die → Case
case_of info prim c = record {
  name = own_text info c;
  number = case_number (prim_bytes 8 prim) (unwrap_or (value_of at_const_value c.entry) (Val.Unsigned 0));
}

abbrev pub enumeration_def : Info → Die → TypeDef
enumeration_def info d =
    TypeDef.CLike (name_of info d) (enumeration_primitive info d) (map (case_of info (enumeration_primitive info d)) (children_with is_enumerator info d))

abbrev def_by : Info → Die → Option Tag → TypeDef
def_by info d (Some Tag.StructureType) = structure_def info d
def_by info d (Some Tag.PointerType) = pointer_def info d
def_by info d (Some Tag.ArrayType) = TypeDef.Array (or_unit (type_of info d)) (unwrap_or (count_of info d) 0)
def_by info d (Some Tag.EnumerationType) = enumeration_def info d
def_by info d _ = TypeDef.Bytes (name_of info d) (size_of d) (alignment_of d)

-- the type that an entry is
abbrev pub type_def : Info → Die → TypeDef
type_def info d = def_by info d (what d)
