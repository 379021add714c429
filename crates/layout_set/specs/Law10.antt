-- Law 10: names are Rust's, short, shaped by the kinds of their types, and no two types share one.
use Rattle.std.specs.Prelude.{◌≡◌, ◌≢◌, ℕ, ◌<◌, false, IsTrue, List, Option, Some, None, IfSome, slice_index_or}
use Rattle.std.specs.List.{All, HoldsAt}
use Rattle.names.specs.declared.name.Name.{Name}
use Rattle.layout_set.specs.declared.breach.Item.TheVariants.{Whole, Def, Static, Func as OfFunc}
use Rattle.layout_set.specs.declared.shapes.FatContent.TheVariants.{OfSlice, OfStr, OfDyn}
use Rattle.layout_set.specs.declared.func.Func.{Func}
use Rattle.layout_set.specs.declared.set.Set.{Set}
use Rattle.layout_set.specs.declared.set.Static.{Static as FixedValue}
use Rattle.layout_set.specs.declared.set.TypeDef.{TypeDef}
use Rattle.layout_set.specs.declared.set.TypeDef.TheVariants.{Struct, Slice, Str, Dyn, CLike, Enum, Bytes}
use Rattle.layout_set.specs.FirstBreach.{Law}
use Rattle.layout_set.specs.NameShapes.{is_raw, is_path, is_struct_name, fat_of}
use Rattle.layout_set.specs.DerivedNames.{name_of, IsShort, OwnDerivedName}

-- the name is no raw text, and has at most 1,000 bytes in either spelling
pub record IsGoodName (name : Name) : Type 0 where
  pub spoken : is_raw name ≡ false
  pub short : IsShort name

-- A struct's name is a path, a tuple of at least one part or a `Dyn`, and no fat name; that of a fat
-- pointer is a fat name of its kind and content; other names are paths.
unfoldable pub HasOwnShape : TypeDef → Type 0
HasOwnShape (Struct name size align params fields) = IsTrue (is_struct_name name) × (fat_of name ≡ None)
HasOwnShape (Slice name kind ptr) = fat_of name ≡ Some (kind, OfSlice)
HasOwnShape (Str name kind ptr) = fat_of name ≡ Some (kind, OfStr)
HasOwnShape (Dyn name kind ptr vtable) = fat_of name ≡ Some (kind, OfDyn)
HasOwnShape (CLike name tag cases) = IsTrue (is_path name)
HasOwnShape (Enum name size align params tag variants) = IsTrue (is_path name)
HasOwnShape (Bytes name size align) = IsTrue (is_path name)
HasOwnShape _ = Unit {0}

unfoldable pub HasGoodName : TypeDef → Type 0
HasGoodName t = IfSome (name_of t) IsGoodName × HasOwnShape t

-- the two aren't one name
abbrev pub NamedApart : Option Name → Option Name → Type 0
NamedApart None b = Unit {0}
NamedApart (Some a) None = Unit {0}
NamedApart (Some a) (Some b) = a ≢ b

-- no earlier type has the name of the type at i
unfoldable pub IsNewName : List TypeDef → ℕ → Type 0
IsNewName types i = (j : ℕ) (a b : TypeDef) → j < i → NamedApart (name_of (slice_index_or types j a)) (name_of (slice_index_or types i b))

-- the derived name of the type at i is as its kind asks
unfoldable pub HasDerivedName : List TypeDef → ℕ → Type 0
HasDerivedName types i = HoldsAt (OwnDerivedName types i) types i

abbrev pub HasPathName : FixedValue → Type 0
HasPathName s = IsGoodName s.name × IsTrue (is_path s.name)

abbrev pub IsNamedByPath : Func → Type 0
IsNamedByPath f = IsGoodName f.name × IsTrue (is_path f.name)

abbrev pub Law10 : Set → Law
Law10 set Whole = Unit {0}
Law10 set (Def i) = (HoldsAt HasGoodName set.types i × IsNewName set.types i) × HasDerivedName set.types i
Law10 set (Static i) = HoldsAt HasPathName set.statics i
Law10 set (OfFunc i) = HoldsAt IsNamedByPath set.funcs i
