-- Names of types that have none of their own, derived from the names of what they lead to.
use Rattle.std.specs.Prelude.{◌≡◌, ℕ, ◌≤◌, List, [], ◌∷◌, length, Option, Some, None, slice_get, codes}
use Rattle.names.specs.declared.name.Name.{Name}
use Rattle.names.specs.declared.name.Name.TheVariants.{Path, Pointer, Array as ArrayName, Tuple, Fn}
use Rattle.names.specs.declared.name.Seg.{Seg}
use Rattle.names.specs.declared.name.PtrKind.{PtrKind}
use Rattle.names.specs.declared.name.PtrKind.TheVariants.{Boxed}
use Rattle.type_names.specs.RustText.{rust_text}
use Rattle.type_names.specs.CvText.{cv_text}
use Rattle.layout_set.specs.declared.primitive.Primitive.{Primitive}
use Rattle.layout_set.specs.declared.primitive.Primitive.TheVariants.{«Unit» as UnitPrim, Bool as BoolPrim, Char, I8, I16, I32, I64, I128, Isize, U8, U16, U32, U64, U128, Usize, F32, F64}
use Rattle.layout_set.specs.declared.set.TypeRef.{TypeRef}
use Rattle.layout_set.specs.declared.set.TypeRef.TheVariants.{Prim, User}
use Rattle.layout_set.specs.declared.set.TypeDef.{TypeDef}
use Rattle.layout_set.specs.declared.set.TypeDef.TheVariants.{Struct, Array, Thin, Slice, Str, Dyn, FnPtr, CLike, Enum, Bytes}

abbrev pub segment : List ℕ → List Name → Seg
segment word args = record { word = word; number = None; args = args }

abbrev pub word_name : List ℕ → Name
word_name word = Path (segment word [] ∷ [])

-- the name of a primitive: the empty tuple, or its word
abbrev pub prim_name : Primitive → Name
prim_name UnitPrim = Tuple []
prim_name BoolPrim = word_name (codes "bool")
prim_name Char = word_name (codes "char")
prim_name I8 = word_name (codes "i8")
prim_name I16 = word_name (codes "i16")
prim_name I32 = word_name (codes "i32")
prim_name I64 = word_name (codes "i64")
prim_name I128 = word_name (codes "i128")
prim_name Isize = word_name (codes "isize")
prim_name U8 = word_name (codes "u8")
prim_name U16 = word_name (codes "u16")
prim_name U32 = word_name (codes "u32")
prim_name U64 = word_name (codes "u64")
prim_name U128 = word_name (codes "u128")
prim_name Usize = word_name (codes "usize")
prim_name F32 = word_name (codes "f32")
prim_name F64 = word_name (codes "f64")

-- the name that a type is given
abbrev pub name_of : TypeDef → Option Name
name_of (Struct name size align params fields) = Some name
name_of (Array elem count) = None
name_of (Thin kind to) = None
name_of (Slice name kind ptr) = Some name
name_of (Str name kind ptr) = Some name
name_of (Dyn name kind ptr vtable) = Some name
name_of FnPtr = None
name_of (CLike name tag cases) = Some name
name_of (Enum name size align params tag variants) = Some name
name_of (Bytes name size align) = Some name

-- `fn()`
abbrev pub function_name : Name
function_name = Fn [] (Tuple [])

-- the name that a type is given, or that of all pointers to functions
abbrev pub own_name : TypeDef → Option Name
own_name FnPtr = Some function_name
own_name t = name_of t

abbrev pub global_name : Name
global_name = Path (segment (codes "alloc") [] ∷ segment (codes "alloc") [] ∷ segment (codes "Global") [] ∷ [])

-- the name of a pointer of this kind to something of this name
abbrev pub pointer_name : PtrKind → Name → Name
pointer_name Boxed to = Path (segment (codes "alloc") [] ∷ segment (codes "boxed") [] ∷ segment (codes "Box") (to ∷ global_name ∷ []) ∷ [])
pointer_name kind to = Pointer kind to

-- a type whose name is made over that of another
pub record Link : Type 0 where
  pub to : TypeRef
  pub over : Name → Name

abbrev pub link : TypeDef → Option Link
link (Thin kind to) = Some (record { to = to; over = pointer_name kind })
link (Array elem count) = Some (record { to = elem; over = λ name. ArrayName name count })
link _ = None

-- the derived name of what is referred to: a primitive's, a type's own, or one over another
pub data Derived (types : List TypeDef) : TypeRef → Name → Type 0 where
  of_prim : (prim : Primitive) → Derived types (Prim prim) (prim_name prim)
  of_type : (i : ℕ) (t : TypeDef) (name : Name) → slice_get types i ≡ Some t → own_name t ≡ Some name → Derived types (User i) name
  of_link : (i : ℕ) (t : TypeDef) (l : Link) (name : Name) → slice_get types i ≡ Some t → link t ≡ Some l → Derived types l.to name → Derived types (User i) (l.over name)

-- at most 1,000 bytes in either spelling
pub record IsShort (name : Name) : Type 0 where
  pub rust : length (rust_text name) ≤ 1000
  pub cv : length (cv_text name) ≤ 1000

-- a derived name ends
abbrev pub Ends : List TypeDef → ℕ → Type 0
Ends types i = (name : Name) × Derived types (User i) name

-- a derived name ends, and is short
abbrev pub EndsShort : List TypeDef → ℕ → Type 0
EndsShort types i = (name : Name) × (Derived types (User i) name × IsShort name)

-- A pointer has a short derived name, and an array one that ends.
abbrev pub OwnDerivedName : List TypeDef → ℕ → TypeDef → Type 0
OwnDerivedName types i (Thin kind to) = EndsShort types i
OwnDerivedName types i (Array elem count) = Ends types i
OwnDerivedName types i _ = Unit {0}
