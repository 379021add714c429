-- Which simple pointers are types of the set: those that a variable, a pointer, an array or a field names.
use Rattle.std.specs.Prelude.{ℕ, ◌==◌, Bool, false, if◌then◌else◌, List, [], ◌∷◌, ◌++◌, length, map, filter, filter_map, flat_map, zip, Option, Some, None}
use Rattle.std.specs.List.{list_any, range_with_len}
use Rattle.layout_set.specs.declared.shapes.FatContent.{FatContent}
use Rattle.cv_symbol_records.specs.declared.kinds.SymRec.{SymRec}
use Rattle.cv_type_records.specs.declared.kinds.TypeKind.{TypeKind}
use Rattle.cv_type_records.specs.declared.kinds.TypeRec.{TypeRec}
use Rattle.cv_type_defs.specs.FatPointers.{Fat, fat_pointer}
use Rattle.cv_type_defs.specs.FieldLists.{Members, members_of}
use Rattle.cv_type_defs.specs.Fields.{CvField, field_target, fields_in}
use Rattle.cv_type_defs.specs.Helpers.{helper_of, variant_members}
use Rattle.cv_type_defs.specs.Links.{Target, target}
use Rattle.cv_type_defs.specs.Numbering.{is_enum_name, is_numbered}
use Rattle.cv_type_defs.specs.SimpleTypes.{primitives, simple_pointer}
use Rattle.cv_type_defs.specs.Symbols.{variable_type}
use Rattle.cv_type_defs.specs.Unions.{variant_fields}

abbrev pub field_targets : List TypeRec → Members → List Target
field_targets records members = map (field_target records) (fields_in members)

-- the fields of a fat pointer that are pointers: the first, and of two pointers the second
abbrev fat_fields : FatContent → CvField → CvField → List CvField
fat_fields FatContent.OfDyn a b = a ∷ b ∷ []
fat_fields _ a b = a ∷ []

abbrev structure_uses : List TypeRec → Members → Option Fat → List Target
structure_uses records members None = field_targets records members
structure_uses records members (Some fat) = map (field_target records) (fat_fields fat.content fat.first fat.second)

-- the fields of the variants of the enum that has this name
abbrev enum_uses : List TypeRec → List ℕ → Members → List Target
enum_uses records name members =
    flat_map (λ v. field_targets records (variant_members records (helper_of records name v))) (variant_fields members)

-- where the links of a numbered record lead that may be simple pointers; the type of a tag, of an enumeration and of a length
-- isn't among them, and the members of a plain LF_UNION aren't looked at
abbrev pub kind_uses : List TypeRec → ℕ → TypeKind → List Target
kind_uses records place (TypeKind.Pointer ty attributes) = target records place ty ∷ []
kind_uses records place (TypeKind.Array elem index size name) = target records place elem ∷ []
kind_uses records place (TypeKind.Structure count property fields derived vshape size name unique) =
    structure_uses records (members_of records place fields) (fat_pointer records name (members_of records place fields))
kind_uses records place (TypeKind.«Union» count property fields size name unique) =
    if is_enum_name name then enum_uses records name (members_of records place fields) else []
kind_uses records place _ = []

abbrev record_uses : List TypeRec → ℕ × TypeRec → List Target
record_uses records p = if is_numbered p.1.kind then kind_uses records p.0 p.1.kind else []

-- the records, each with its place
abbrev pub with_places : List TypeRec → List (ℕ × TypeRec)
with_places records = zip (range_with_len 0 (length records)) records

-- where the types of variables lead, to any record
abbrev variable_uses : List TypeRec → List SymRec → List Target
variable_uses records symbols = map (target records (length records)) (filter_map (λ s. variable_type s.kind) symbols)

abbrev is_pointer_to : ℕ → Target → Bool
is_pointer_to t (Target.Simple index) = index == simple_pointer t
is_pointer_to t _ = false

-- the simple types to which simple pointers that are used lead, rising; these symbols are outside inline sites
abbrev pub used_pointers : List TypeRec → List SymRec → List ℕ
used_pointers records symbols =
    filter (λ t. list_any (is_pointer_to t) (flat_map (record_uses records) (with_places records) ++ variable_uses records symbols)) primitives
