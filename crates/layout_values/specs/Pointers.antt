-- What the numbers of pointers may be, and how far pointers are followed.
use Rattle.std.specs.Prelude.{ℕ, ◌-◌, ◌*◌, ◌^◌, nat_lt, ◌&&◌, if◌then◌else◌, Bool, true, false, List, Option, Some, None, slice_get}
use Rattle.names.specs.declared.name.PtrKind.{PtrKind}
use Rattle.names.specs.Pointers.{is_non_null}
use Rattle.layout_set.specs.declared.set.TypeRef.{TypeRef}
use Rattle.layout_set.specs.declared.set.TypeRef.TheVariants.{Prim, User}
use Rattle.layout_set.specs.declared.set.TypeDef.{TypeDef}
use Rattle.layout_set.specs.declared.set.TypeDef.TheVariants as defs

-- a pointer of this kind may have this number
abbrev pub may_point : PtrKind → ℕ → Bool
may_point kind n = if is_non_null kind then nat_lt 0 n else true

-- a pointer of this kind to so many elements of this size may have this number
abbrev pub may_span : ℕ → PtrKind → ℕ → ℕ → ℕ → Bool
may_span ptr kind size n len = if is_non_null kind then nat_lt 0 n && nat_lt (len * size) (2 ^ (8 * ptr - 1)) else true

-- the depth that is left for what a pointer leads to, where it is followed
abbrev pub below : PtrKind → ℕ → Option ℕ
below kind depth = if is_non_null kind && nat_lt 0 depth then Some (depth - 1) else None

-- what a thin pointer leads to
abbrev pub target_of : Option TypeDef → Option TypeRef
target_of (Some (defs.Thin kind to)) = Some to
target_of _ = None

-- what the type leads to, where it is a thin pointer
abbrev pub pointee : List TypeDef → TypeRef → Option TypeRef
pointee types (Prim prim) = None
pointee types (User i) = target_of (slice_get types i)
