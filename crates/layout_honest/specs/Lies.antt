-- Whether a tag lies on a leaf whose numbers a span holds, by levels. Private: `Honest` says what it means.
use Rattle.std.specs.Prelude.{ℕ, zero, suc, ◌+◌, ◌-◌, ◌*◌, ◌^◌, ◌==◌, nat_le, Bool, true, false, ◌&&◌, ◌||◌, not, if◌then◌else◌, List, [], ◌∷◌, Option, Some, None, slice_get}
use Rattle.std.specs.List.{list_all}
use Rattle.names.specs.Pointers.{is_non_null}
use Rattle.layout_set.specs.declared.primitive.Primitive.{Primitive}
use Rattle.layout_set.specs.declared.primitive.Primitive.TheVariants.{Bool as BoolPrim, Char}
use Rattle.layout_set.specs.declared.set.Field.{Field}
use Rattle.layout_set.specs.declared.set.Tag.{Tag}
use Rattle.layout_set.specs.declared.set.Variant.{Variant}
use Rattle.layout_set.specs.declared.set.Selector.{Selector}
use Rattle.layout_set.specs.declared.set.Selector.TheVariants.{Exact, Span, Only}
use Rattle.layout_set.specs.declared.set.TypeRef.{TypeRef}
use Rattle.layout_set.specs.declared.set.TypeRef.TheVariants.{Prim, User}
use Rattle.layout_set.specs.declared.set.TypeDef.{TypeDef}
use Rattle.layout_set.specs.declared.set.TypeDef.TheVariants.{Struct, Array, Thin, Slice, Str, Dyn, FnPtr, CLike, Enum}
use Rattle.layout_honest.specs.declared.honesty.Niche.{Niche}
use Rattle.layout_honest.specs.Honest.{holds_bytes, holder}
use Rattle.layout_set.specs.Primitives.{prim_bytes}

abbrev pub in_span : Niche → ℕ → Bool
in_span niche number = if nat_le niche.first niche.last then nat_le niche.first number && nat_le number niche.last else nat_le niche.first number || nat_le number niche.last

-- whether the span holds all numbers from low to high
abbrev pub range_lies : Niche → ℕ → ℕ → Bool
range_lies niche low high = if nat_le niche.first niche.last then nat_le niche.first low && nat_le high niche.last else nat_le niche.first low || (nat_le high niche.last || niche.first == niche.last + 1)

abbrev pub prim_lies : Niche → Primitive → ℕ → Bool
prim_lies niche BoolPrim off = off == 0 && (niche.width == 1 && range_lies niche 0 1)
prim_lies niche Char off = off == 0 && (niche.width == 4 && range_lies niche 0 0x10ffff)
prim_lies niche _ off = false

abbrev pub pointer_lies : ℕ → Niche → ℕ → Bool
pointer_lies ptr niche off = off == 0 && (niche.width == ptr && range_lies niche 1 (2 ^ (8 * ptr) - 1))

abbrev pub is_array_at : Option TypeDef → Bool
is_array_at (Some (Array elem count)) = true
is_array_at _ = false

-- the reference is to an array
abbrev pub is_array : List TypeDef → TypeRef → Bool
is_array types (Prim prim) = false
is_array types (User i) = is_array_at (slice_get types i)

-- the first field that is no array and has all of these bytes
abbrev pub plain_holder : ℕ → List TypeDef → ℕ → ℕ → List Field → Option Field
plain_holder ptr types width off [] = None
plain_holder ptr types width off (field ∷ fields) = if not (is_array types field.ty) && holds_bytes ptr types width off field then Some field else plain_holder ptr types width off fields

abbrev pub field_lies : (TypeRef → ℕ → Bool) → ℕ → Option Field → Bool
field_lies rest off None = false
field_lies rest off (Some field) = rest field.ty (off - field.off)

abbrev pub selector_lies : ℕ → (TypeRef → ℕ → Bool) → List TypeDef → Niche → ℕ → Selector → List Field → Bool
selector_lies ptr rest types niche off (Exact number) fields = in_span niche number
selector_lies ptr rest types niche off (Span first last) fields = field_lies rest off (holder ptr types niche.width off fields)
selector_lies ptr rest types niche off Only fields = true

abbrev pub enum_lies : ℕ → (TypeRef → ℕ → Bool) → List TypeDef → Niche → ℕ → Option Tag → List Variant → Bool
enum_lies ptr rest types niche off None variants = false
enum_lies ptr rest types niche off (Some tag) variants = off == tag.off && (niche.width == prim_bytes ptr tag.prim && list_all (λ v. selector_lies ptr rest types niche off v.sel v.fields) variants)

abbrev pub def_lies : ℕ → (TypeRef → ℕ → Bool) → List TypeDef → Niche → ℕ → TypeDef → Bool
def_lies ptr rest types niche off (Struct name size align params fields) = field_lies rest off (holder ptr types niche.width off fields)
def_lies ptr rest types niche off (Thin kind to) = is_non_null kind && pointer_lies ptr niche off
def_lies ptr rest types niche off FnPtr = pointer_lies ptr niche off
def_lies ptr rest types niche off (Slice name kind first) = is_non_null kind && pointer_lies ptr niche off
def_lies ptr rest types niche off (Str name kind first) = is_non_null kind && pointer_lies ptr niche off
def_lies ptr rest types niche off (Dyn name kind first vtable) = is_non_null kind && (pointer_lies ptr niche off || (off == ptr && pointer_lies ptr niche 0))
def_lies ptr rest types niche off (CLike name tag cases) = off == 0 && (niche.width == prim_bytes ptr tag && list_all (λ c. in_span niche c.number) cases)
def_lies ptr rest types niche off (Enum name size align params tag variants) = enum_lies ptr rest types niche off tag variants
def_lies ptr rest types niche off _ = false

abbrev pub def_lies_at : ℕ → (TypeRef → ℕ → Bool) → List TypeDef → Niche → ℕ → Option TypeDef → Bool
def_lies_at ptr rest types niche off None = false
def_lies_at ptr rest types niche off (Some t) = def_lies ptr rest types niche off t

-- through at most so many types in one another
unfoldable pub lies : ℕ → ℕ → List TypeDef → Niche → TypeRef → ℕ → Bool
lies ptr zero types niche ty off = false
lies ptr (suc most) types niche (Prim prim) off = prim_lies niche prim off
lies ptr (suc most) types niche (User i) off = def_lies_at ptr (lies ptr most types niche) types niche off (slice_get types i)

abbrev pub honest_selector : ℕ → List TypeDef → Tag → Selector → List Field → Bool
honest_selector ptr types tag (Span first last) fields = field_lies (lies ptr 257 types (record { width = prim_bytes ptr tag.prim; first = first; last = last })) tag.off (holder ptr types (prim_bytes ptr tag.prim) tag.off fields)
honest_selector ptr types tag _ fields = true

abbrev pub honest_variants : ℕ → List TypeDef → Option Tag → List Variant → Bool
honest_variants ptr types None variants = true
honest_variants ptr types (Some tag) variants = list_all (λ v. honest_selector ptr types tag v.sel v.fields) variants

abbrev pub honest_type : ℕ → List TypeDef → TypeDef → Bool
honest_type ptr types (Enum name size align params tag variants) = honest_variants ptr types tag variants
honest_type ptr types _ = true
