-- The Rust text of a derived name, and what stands before and after the text that it is made over.
use Rattle.std.specs.Prelude.{◌≡◌, ℕ, ◌<◌, List, [], ◌++◌, length, Option, Some, None, slice_get, codes}
use Rattle.std.specs.Fmt.{decimal}
use Rattle.std.specs.List.{HoldsAt}
use Rattle.names.specs.declared.name.Name.{Name}
use Rattle.names.specs.declared.name.PtrKind.{PtrKind}
use Rattle.names.specs.declared.name.PtrKind.TheVariants.{Ref, RefMut, Const, Mut, Boxed}
use Rattle.type_names.specs.RustText.{rust_text}
use Rattle.layout_set.specs.declared.primitive.Primitive.{Primitive}
use Rattle.layout_set.specs.declared.primitive.Primitive.TheVariants.{«Unit» as UnitPrim, Bool as BoolPrim, Char, I8, I16, I32, I64, I128, Isize, U8, U16, U32, U64, U128, Usize, F32, F64}
use Rattle.layout_set.specs.declared.set.TypeDef.{TypeDef}
use Rattle.layout_set.specs.declared.set.TypeDef.TheVariants.{Thin, Array}
use Rattle.layout_set.specs.declared.set.TypeRef.{TypeRef}
use Rattle.layout_set.specs.declared.set.TypeRef.TheVariants.{Prim, User}
use Rattle.layout_set.specs.DerivedNames.{Derived}
use Rattle.layout_set.specs.Law11.{StandsAfterNameless}
use Rattle.layout_derived.specs.declared.step.Around.{Around}
use Rattle.layout_derived.specs.declared.step.Around.TheVariants.{Pointer, Array as AroundItem}
use Rattle.layout_derived.specs.declared.step.Step.{Step}

-- what is referred to has a derived name
abbrev pub HasDerived : List TypeDef → TypeRef → Type 0
HasDerived types ty = (name : Name) × Derived types ty name

-- the Rust text of the derived name of what is referred to is appended
pub record AppendsDerived (types : List TypeDef) (ty : TypeRef) (old new : List ℕ) : Type 0 where
  pub name : Name
  pub derived : Derived types ty name
  pub appended : new ≡ old ++ rust_text name

-- each type stands after the types without a name to which it refers
abbrev pub StandInOrder : List TypeDef → Type 0
StandInOrder types = (i : ℕ) → i < length types → HoldsAt (StandsAfterNameless types i) types i

-- the word of a primitive, or the empty tuple
abbrev pub prim_word : Primitive → List ℕ
prim_word UnitPrim = codes "()"
prim_word BoolPrim = codes "bool"
prim_word Char = codes "char"
prim_word I8 = codes "i8"
prim_word I16 = codes "i16"
prim_word I32 = codes "i32"
prim_word I64 = codes "i64"
prim_word I128 = codes "i128"
prim_word Isize = codes "isize"
prim_word U8 = codes "u8"
prim_word U16 = codes "u16"
prim_word U32 = codes "u32"
prim_word U64 = codes "u64"
prim_word U128 = codes "u128"
prim_word Usize = codes "usize"
prim_word F32 = codes "f32"
prim_word F64 = codes "f64"

-- a pointer of this kind up to what it leads to, and after it
abbrev pub opening : PtrKind → List ℕ
opening Ref = codes "&"
opening RefMut = codes "&mut "
opening Const = codes "*const "
opening Mut = codes "*mut "
opening Boxed = codes "alloc::boxed::Box<"

abbrev pub closing : PtrKind → List ℕ
closing Boxed = codes ", alloc::alloc::Global>"
closing kind = []

-- an array after its element
abbrev pub count_text : ℕ → List ℕ
count_text count = codes "; " ++ decimal count ++ codes "]"

-- what stands before a name, and after it
abbrev pub before : Around → List ℕ
before (Pointer kind) = opening kind
before (AroundItem count) = codes "["

abbrev pub after : Around → List ℕ
after (Pointer kind) = closing kind
after (AroundItem count) = count_text count

-- what a type leads to, and what its name has around the name of that
abbrev pub step_of_def : TypeDef → Option Step
step_of_def (Thin kind to) = Some (record { to = to; around = Pointer kind })
step_of_def (Array elem count) = Some (record { to = elem; around = AroundItem count })
step_of_def t = None

abbrev pub step_at : Option TypeDef → Option Step
step_at None = None
step_at (Some t) = step_of_def t

abbrev pub step_of : List TypeDef → TypeRef → Option Step
step_of types (Prim prim) = None
step_of types (User i) = step_at (slice_get types i)
