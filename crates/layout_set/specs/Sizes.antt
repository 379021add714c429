-- The sizes of types, in bytes, where a pointer has `ptr`.
use Rattle.std.specs.Prelude.{ℕ, zero, suc, ◌*◌, ◌^◌, ◌<◌, ◌≡◌, List, Option, Some, None, slice_get, IsSomeAnd}
use Rattle.layout_set.specs.declared.set.TypeRef.{TypeRef}
use Rattle.layout_set.specs.declared.set.TypeRef.TheVariants.{Prim, User}
use Rattle.layout_set.specs.declared.set.TypeDef.{TypeDef}
use Rattle.layout_set.specs.declared.set.TypeDef.TheVariants.{Struct, Array, Thin, Slice, Str, Dyn, FnPtr, CLike, Enum, Bytes}
use Rattle.layout_set.specs.Primitives.{prim_bytes}

-- the size of a type, where the sizes of elements are known
abbrev pub def_size : ℕ → (TypeRef → ℕ) → TypeDef → ℕ
def_size ptr element_size (Struct name size align params fields) = size
def_size ptr element_size (Array elem count) = element_size elem * count
def_size ptr element_size (Thin kind to) = ptr
def_size ptr element_size (Slice name kind first) = 2 * ptr
def_size ptr element_size (Str name kind first) = 2 * ptr
def_size ptr element_size (Dyn name kind first vtable) = 2 * ptr
def_size ptr element_size FnPtr = ptr
def_size ptr element_size (CLike name tag cases) = prim_bytes ptr tag
def_size ptr element_size (Enum name size align params tag variants) = size
def_size ptr element_size (Bytes name size align) = size

abbrev pub size_at : ℕ → (TypeRef → ℕ) → Option TypeDef → ℕ
size_at ptr element_size None = 0
size_at ptr element_size (Some t) = def_size ptr element_size t

-- the size of a type, through at most so many types in one another
unfoldable pub size_by : ℕ → ℕ → List TypeDef → TypeRef → ℕ
size_by ptr zero types ty = 0
size_by ptr (suc most) types (Prim prim) = prim_bytes ptr prim
size_by ptr (suc most) types (User i) = size_at ptr (size_by ptr most types) (slice_get types i)

-- the size of a type: 256 types in one another are the most that a sound set has
unfoldable pub size : ℕ → List TypeDef → TypeRef → ℕ
size ptr types ty = size_by ptr 257 types ty

-- every size is below 2^31
unfoldable pub AreSmall : ℕ → List TypeDef → Type 0
AreSmall ptr types = (ty : TypeRef) → size ptr types ty < 2 ^ 31

-- a size: that of a pointer for a thin one, twice that for a fat one, count times the element's for an array
abbrev pub IsSizeOf : ℕ → List TypeDef → TypeRef → ℕ → Type 0
IsSizeOf ptr types (Prim prim) bytes = bytes ≡ prim_bytes ptr prim
IsSizeOf ptr types (User i) bytes = IsSomeAnd (slice_get types i) (λ t. bytes ≡ def_size ptr (size ptr types) t)
