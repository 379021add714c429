-- Law 1: each reference to a type of the set is below the number of its types.
use Rattle.std.specs.Prelude.{ℕ, ◌<◌, length}
use Rattle.std.specs.List.{All, HoldsAt}
use Rattle.layout_set.specs.declared.breach.Item.TheVariants.{Whole, Def, Static, Func as OfFunc}
use Rattle.layout_set.specs.declared.func.Func.{Func}
use Rattle.layout_set.specs.declared.func.Scope.{Scope}
use Rattle.layout_set.specs.declared.func.Var.{Var}
use Rattle.layout_set.specs.declared.set.Set.{Set}
use Rattle.layout_set.specs.declared.set.Static.{Static as FixedValue}
use Rattle.layout_set.specs.declared.set.TypeRef.{TypeRef}
use Rattle.layout_set.specs.declared.set.TypeRef.TheVariants.{Prim, User}
use Rattle.layout_set.specs.declared.set.TypeDef.{TypeDef}
use Rattle.layout_set.specs.FirstBreach.{Law}
use Rattle.layout_set.specs.References.{references}

-- the reference is a primitive, or one of so many types
abbrev pub IsWithin : ℕ → TypeRef → Type 0
IsWithin count (Prim prim) = Unit {0}
IsWithin count (User i) = i < count

abbrev pub RefersWithin : ℕ → TypeDef → Type 0
RefersWithin count t = All (IsWithin count) (references t)

abbrev pub HasTypeWithin : ℕ → FixedValue → Type 0
HasTypeWithin count s = IsWithin count s.ty

abbrev pub VarWithin : ℕ → Var → Type 0
VarWithin count v = IsWithin count v.ty

abbrev pub VarsWithin : ℕ → Scope → Type 0
VarsWithin count s = All (VarWithin count) s.vars

-- the types of all its variables are within
abbrev pub HasVarsWithin : ℕ → Func → Type 0
HasVarsWithin count f = All (VarsWithin count) f.scopes

abbrev pub Law1 : Set → Law
Law1 set Whole = Unit {0}
Law1 set (Def i) = HoldsAt (RefersWithin (length set.types)) set.types i
Law1 set (Static i) = HoldsAt (HasTypeWithin (length set.types)) set.statics i
Law1 set (OfFunc i) = HoldsAt (HasVarsWithin (length set.types)) set.funcs i
