-- LF_STRUCTUREs that are fat pointers, by their names and their two members.
use Rattle.std.specs.Prelude.{ℕ, ◌-◌, ◌==◌, ◌&&◌, Bool, true, false, if◌then◌else◌, List, [], ◌∷◌, ℤ, pos, negsuc, codes, is_some, Option, Some, None}
use Rattle.layout_set.specs.NameShapes.{fat_of}
use Rattle.layout_set.specs.declared.shapes.FatContent.{FatContent}
use Rattle.names.specs.declared.name.PtrKind.{PtrKind}
use Rattle.cv_type_defs.specs.FieldLists.{Placed, Members}
use Rattle.cv_type_defs.specs.Fields.{CvField, field_target, fields_in, is_named}
use Rattle.cv_type_defs.specs.Links.{Target, target}
use Rattle.cv_type_defs.specs.Records.{kind_at}
use Rattle.cv_type_defs.specs.SimpleTypes.{pointed_at}
use Rattle.cv_type_defs.specs.Texts.{name_of_text}
use Rattle.cv_type_records.specs.declared.kinds.TypeKind.{TypeKind}
use Rattle.cv_type_records.specs.declared.kinds.TypeRec.{TypeRec}

abbrev pub is_procedure : Option TypeKind → Bool
is_procedure (Some (TypeKind.Procedure returned call options count args)) = true
is_procedure _ = false

-- an LF_PROCEDURE
abbrev pub leads_to_function : List TypeRec → Target → Bool
leads_to_function records (Target.Record place) = is_procedure (kind_at records place)
leads_to_function records _ = false

abbrev unless_function : List TypeRec → Target → Option Target
unless_function records to = if leads_to_function records to then None else Some to

abbrev pointee_of : List TypeRec → ℕ → Option TypeKind → Option Target
pointee_of records place (Some (TypeKind.Pointer ty attributes)) = unless_function records (target records place ty)
pointee_of records place _ = None

-- where the thin pointer leads to which a link leads; None where it leads to none
abbrev pub pointee : List TypeRec → Target → Option Target
pointee records (Target.Simple index) = if is_some (pointed_at index) then Some (Target.Simple (index - 0x600)) else None
pointee records (Target.Record place) = pointee_of records place (kind_at records place)
pointee records (Target.Broken rule) = None

abbrev is_simple : ℕ → Option Target → Bool
is_simple t (Some (Target.Simple index)) = index == t
is_simple t _ = false

abbrev is_at : ℕ → ℤ → Bool
is_at offset (pos n) = n == offset
is_at offset (negsuc n) = false

-- the field has this name, and lies there
abbrev is_placed : List ℕ → ℕ → CvField → Bool
is_placed name offset f = is_named name f && is_at offset f.offset

abbrev pub is_thin : List TypeRec → CvField → Bool
is_thin records f = is_some (pointee records (field_target records f))

-- the two fields are those of a fat pointer to this; the type of a length isn't looked at
abbrev pub is_fat_pair : List TypeRec → FatContent → CvField → CvField → Bool
is_fat_pair records FatContent.OfSlice a b =
    is_placed (codes "data_ptr") 0 a && (is_placed (codes "length") 8 b && is_thin records a)
is_fat_pair records FatContent.OfStr a b =
    is_placed (codes "data_ptr") 0 a && (is_placed (codes "length") 8 b && is_simple 0x20 (pointee records (field_target records a)))
is_fat_pair records FatContent.OfDyn a b =
    is_placed (codes "pointer") 0 a && (is_placed (codes "vtable") 8 b && (is_thin records a && is_thin records b))

-- a fat pointer: its kind, what it leads to, and its two fields
pub record Fat : Type 0 where
  pub kind : PtrKind
  pub content : FatContent
  pub first : CvField
  pub second : CvField

abbrev has_two : List Placed → Bool
has_two (a ∷ b ∷ []) = true
has_two _ = false

abbrev fat_with : List TypeRec → Option (PtrKind × FatContent) → List CvField → Option Fat
fat_with records (Some fat) (a ∷ b ∷ []) =
    if is_fat_pair records fat.1 a b then Some (record { kind = fat.0; content = fat.1; first = a; second = b }) else None
fat_with records _ _ = None

-- The fat pointer that an LF_STRUCTURE of this name is: a fat name, and one LF_FIELDLIST with just the two members of that name.
abbrev pub fat_pointer : List TypeRec → List ℕ → Members → Option Fat
fat_pointer records name members =
    if has_two members.items then fat_with records (fat_of (name_of_text name)) (fields_in members) else None
