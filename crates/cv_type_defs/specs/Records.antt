-- Records that have a name: LF_STRUCTURE, LF_UNION and LF_ENUM, which are complete or stand for a complete one.
use Rattle.std.specs.Prelude.{ℕ, ◌==◌, ◌&&◌, not, Bool, true, false, bit_and, bytes_eq, List, position, slice_get, Option, Some, None}
use Rattle.std.specs.Option.{option_map}
use Rattle.cv_type_records.specs.declared.kinds.TypeKind.{TypeKind}
use Rattle.cv_type_records.specs.declared.kinds.TypeRec.{TypeRec}

-- the leaves of records that may be forward references
pub data Leaf : Type 0 where
  Structure : Leaf
  Union : Leaf
  Enum : Leaf

-- what such a record has: its leaf, its properties, the index of its field list and its names
pub record Head : Type 0 where
  pub leaf : Leaf
  pub property : ℕ
  pub fields : ℕ
  pub name : List ℕ
  pub unique : Option (List ℕ)

abbrev pub head_of : TypeKind → Option Head
head_of (TypeKind.Structure count property fields derived vshape size name unique) =
    Some (record { leaf = Leaf.Structure; property = property; fields = fields; name = name; unique = unique })
head_of (TypeKind.«Union» count property fields size name unique) =
    Some (record { leaf = Leaf.Union; property = property; fields = fields; name = name; unique = unique })
head_of (TypeKind.Enum count property ty fields name unique) =
    Some (record { leaf = Leaf.Enum; property = property; fields = fields; name = name; unique = unique })
head_of _ = None

-- property 80: the record stands for a complete one
abbrev pub is_forward_property : ℕ → Bool
is_forward_property property = not (bit_and property 0x80 == 0)

abbrev pub is_forward : Head → Bool
is_forward h = is_forward_property h.property

abbrev pub is_same_leaf : Leaf → Leaf → Bool
is_same_leaf Leaf.Structure Leaf.Structure = true
is_same_leaf Leaf.Union Leaf.Union = true
is_same_leaf Leaf.Enum Leaf.Enum = true
is_same_leaf _ _ = false

abbrev pub is_text : List ℕ → Option (List ℕ) → Bool
is_text text None = false
is_text text (Some other) = bytes_eq text other

-- the record has the unique name of a forward reference, or its name where that has no unique name
abbrev pub has_name_of : Option (List ℕ) → List ℕ → Head → Bool
has_name_of (Some unique) name c = is_text unique c.unique
has_name_of None name c = bytes_eq name c.name

abbrev completes : Head → Option Head → Bool
completes forward None = false
completes forward (Some c) = not (is_forward c) && (is_same_leaf forward.leaf c.leaf && has_name_of forward.unique forward.name c)

-- the first complete record for which a forward reference stands
abbrev pub complete_place : List TypeRec → Head → Option ℕ
complete_place records forward = position (λ r. completes forward (head_of r.kind)) records

-- what the record at a place says
abbrev pub kind_at : List TypeRec → ℕ → Option TypeKind
kind_at records place = option_map (λ r. r.kind) (slice_get records place)
