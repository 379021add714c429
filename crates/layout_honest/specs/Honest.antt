-- Honest sets: each span of numbers is that of a leaf in its variant, all of whose numbers it holds.
use Rattle.std.specs.Prelude.{◌≡◌, ℕ, ◌+◌, ◌-◌, ◌*◌, ◌^◌, ◌<◌, ◌≤◌, ◌⊎◌, nat_le, Bool, true, false, ◌&&◌, if◌then◌else◌, List, [], ◌∷◌, Option, Some, None, slice_get, IsSomeAnd, IsTrue}
use Rattle.std.specs.List.{All, Contains}
use Rattle.names.specs.Pointers.{is_non_null}
use Rattle.layout_set.specs.declared.primitive.Primitive.{Primitive}
use Rattle.layout_set.specs.declared.primitive.Primitive.TheVariants.{Bool as BoolPrim, Char}
use Rattle.layout_set.specs.declared.set.Set.{Set}
use Rattle.layout_set.specs.declared.set.Field.{Field}
use Rattle.layout_set.specs.declared.set.Tag.{Tag}
use Rattle.layout_set.specs.declared.set.Variant.{Variant}
use Rattle.layout_set.specs.declared.set.Selector.{Selector}
use Rattle.layout_set.specs.declared.set.Selector.TheVariants.{Span}
use Rattle.layout_set.specs.declared.set.TypeRef.{TypeRef}
use Rattle.layout_set.specs.declared.set.TypeRef.TheVariants.{Prim, User}
use Rattle.layout_set.specs.declared.set.TypeDef.{TypeDef}
use Rattle.layout_set.specs.declared.set.TypeDef.TheVariants.{Struct, Thin, Slice, Str, Dyn, FnPtr, CLike, Enum}
use Rattle.layout_set.specs.Law8.{case_numbers, exact_numbers}
use Rattle.layout_set.specs.Primitives.{prim_bytes}
use Rattle.layout_set.specs.Sizes.{size}

-- the number lies in the span, which goes on from 0 where its first number is above its last
abbrev pub InSpan : ℕ → ℕ → ℕ → Type 0
InSpan first last number = ((first ≤ number) × (number ≤ last)) ⊎ ((last < first) × ((first ≤ number) ⊎ (number ≤ last)))

-- whether the field has all of the `width` bytes at `off`
abbrev pub holds_bytes : ℕ → List TypeDef → ℕ → ℕ → Field → Bool
holds_bytes ptr types width off field = nat_le field.off off && nat_le (off + width) (field.off + size ptr types field.ty)

-- the field that has all of these bytes; in a lawful set there is no second
abbrev pub holder : ℕ → List TypeDef → ℕ → ℕ → List Field → Option Field
holder ptr types width off [] = None
holder ptr types width off (field ∷ fields) = if holds_bytes ptr types width off field then Some field else holder ptr types width off fields

abbrev pub struct_fields : TypeDef → List Field
struct_fields (Struct name size align params fields) = fields
struct_fields _ = []

abbrev pub variants_of : TypeDef → List Variant
variants_of (Enum name size align params tag variants) = variants
variants_of _ = []

-- `width` bytes at `off` are all bytes of the primitive, which has numbers
abbrev pub IsPrimLeaf : ℕ → ℕ → Primitive → Type 0
IsPrimLeaf width off BoolPrim = (off ≡ 0) × (width ≡ 1)
IsPrimLeaf width off Char = (off ≡ 0) × (width ≡ 4)
IsPrimLeaf width off _ = ⊥

-- They are a pointer that is never 0, the number of a C-like enum or the tag of an enum. An enum without a tag, also one
-- without variants, and an array have no number there, and no tag may lie on them.
abbrev pub IsTypeLeaf : ℕ → ℕ → ℕ → TypeDef → Type 0
IsTypeLeaf ptr width off (Thin kind to) = IsTrue (is_non_null kind) × ((off ≡ 0) × (width ≡ ptr))
IsTypeLeaf ptr width off FnPtr = (off ≡ 0) × (width ≡ ptr)
IsTypeLeaf ptr width off (Slice name kind first) = IsTrue (is_non_null kind) × ((off ≡ 0) × (width ≡ ptr))
IsTypeLeaf ptr width off (Str name kind first) = IsTrue (is_non_null kind) × ((off ≡ 0) × (width ≡ ptr))
IsTypeLeaf ptr width off (Dyn name kind first vtable) = IsTrue (is_non_null kind) × (((off ≡ 0) ⊎ (off ≡ ptr)) × (width ≡ ptr))
IsTypeLeaf ptr width off (CLike name tag cases) = (off ≡ 0) × (width ≡ prim_bytes ptr tag)
IsTypeLeaf ptr width off (Enum name size align params (Some tag) variants) = (off ≡ tag.off) × (width ≡ prim_bytes ptr tag.prim)
IsTypeLeaf ptr width off _ = ⊥

-- in a value of the type the bytes lie on a leaf: going into structs, by the field that has the
-- bytes, leads to one
pub data HasLeaf (ptr : ℕ) (types : List TypeDef) (width : ℕ) : TypeRef → ℕ → Type 0 where
  of_prim : (prim : Primitive) (off : ℕ) → IsPrimLeaf width off prim → HasLeaf ptr types width (Prim prim) off
  of_type : (i off : ℕ) (t : TypeDef) → slice_get types i ≡ Some t → IsTypeLeaf ptr width off t → HasLeaf ptr types width (User i) off
  in_struct : (i off : ℕ) (t : TypeDef) (field : Field) → slice_get types i ≡ Some t → holder ptr types width off (struct_fields t) ≡ Some field → HasLeaf ptr types width field.ty (off - field.off) → HasLeaf ptr types width (User i) off

abbrev pub IsPrimNumber : ℕ → Primitive → Type 0
IsPrimNumber number BoolPrim = number ≤ 1
IsPrimNumber number Char = number ≤ 0x10ffff
IsPrimNumber number _ = ⊥

abbrev pub IsAddress : ℕ → ℕ → Type 0
IsAddress ptr number = (1 ≤ number) × (number ≤ 2 ^ (8 * ptr) - 1)

-- a pointer's number is an address other than 0; others are those of cases and exact variants
abbrev pub IsTypeNumber : ℕ → ℕ → TypeDef → Type 0
IsTypeNumber ptr number (Thin kind to) = IsAddress ptr number
IsTypeNumber ptr number FnPtr = IsAddress ptr number
IsTypeNumber ptr number (Slice name kind first) = IsAddress ptr number
IsTypeNumber ptr number (Str name kind first) = IsAddress ptr number
IsTypeNumber ptr number (Dyn name kind first vtable) = IsAddress ptr number
IsTypeNumber ptr number (CLike name tag cases) = Contains (case_numbers cases) number
IsTypeNumber ptr number (Enum name size align params tag variants) = Contains (exact_numbers variants) number
IsTypeNumber ptr number _ = ⊥

-- the numbers of the leaf at `off`; of an enum with a span also those of that variant's leaf that
-- lie in the span
pub data HasNumber (ptr : ℕ) (types : List TypeDef) (width : ℕ) : TypeRef → ℕ → ℕ → Type 0 where
  of_prim_number : (prim : Primitive) (off number : ℕ) → IsPrimNumber number prim → HasNumber ptr types width (Prim prim) off number
  of_type_number : (i off number : ℕ) (t : TypeDef) → slice_get types i ≡ Some t → IsTypeNumber ptr number t → HasNumber ptr types width (User i) off number
  in_struct_number : (i off number : ℕ) (t : TypeDef) (field : Field) → slice_get types i ≡ Some t → holder ptr types width off (struct_fields t) ≡ Some field → HasNumber ptr types width field.ty (off - field.off) number → HasNumber ptr types width (User i) off number
  in_span_number : (i off number : ℕ) (t : TypeDef) (v : Variant) (first last : ℕ) (field : Field) → slice_get types i ≡ Some t → Contains (variants_of t) v → v.sel ≡ Span first last → InSpan first last number → holder ptr types width off v.fields ≡ Some field → HasNumber ptr types width field.ty (off - field.off) number → HasNumber ptr types width (User i) off number

-- the bytes lie on a leaf whose numbers all lie in the span
pub record LiesOnLeaf (ptr : ℕ) (types : List TypeDef) (width : ℕ) (ty : TypeRef) (off first last : ℕ) : Type 0 where
  pub leaf : HasLeaf ptr types width ty off
  pub numbers : (number : ℕ) → HasNumber ptr types width ty off number → InSpan first last number

-- the tag of a variant that a span chooses lies on such a leaf of its fields
abbrev pub IsHonestVariant : ℕ → List TypeDef → Tag → Selector → List Field → Type 0
IsHonestVariant ptr types tag (Span first last) fields =
    IsSomeAnd (holder ptr types (prim_bytes ptr tag.prim) tag.off fields) (λ f. LiesOnLeaf ptr types (prim_bytes ptr tag.prim) f.ty (tag.off - f.off) first last)
IsHonestVariant ptr types tag _ fields = Unit {0}

abbrev pub AreHonestVariants : ℕ → List TypeDef → Option Tag → List Variant → Type 0
AreHonestVariants ptr types None variants = Unit {0}
AreHonestVariants ptr types (Some tag) variants = All (λ v. IsHonestVariant ptr types tag v.sel v.fields) variants

unfoldable pub IsHonestType : ℕ → List TypeDef → TypeDef → Type 0
IsHonestType ptr types (Enum name size align params tag variants) = AreHonestVariants ptr types tag variants
IsHonestType ptr types _ = Unit {0}

-- every type is honest
unfoldable pub IsHonest : Set → Type 0
IsHonest set = All (IsHonestType set.target.ptr set.types) set.types
