-- Law 11: a type stands after the types without a name to which it refers.
use Rattle.std.specs.Prelude.{ℕ, ◌<◌, List, slice_get, IsSomeAnd}
use Rattle.std.specs.List.{All, HoldsAt}
use Rattle.layout_set.specs.declared.breach.Item.TheVariants.{Whole, Def, Static, Func as OfFunc}
use Rattle.layout_set.specs.declared.set.Set.{Set}
use Rattle.layout_set.specs.declared.set.TypeRef.{TypeRef}
use Rattle.layout_set.specs.declared.set.TypeRef.TheVariants.{Prim, User}
use Rattle.layout_set.specs.declared.set.TypeDef.{TypeDef}
use Rattle.layout_set.specs.declared.set.TypeDef.TheVariants.{Array, Thin, FnPtr}
use Rattle.layout_set.specs.FirstBreach.{Law}
use Rattle.layout_set.specs.References.{references}

-- the type is a thin pointer, an array or a pointer to a function, which have no name
abbrev pub IsNameless : TypeDef → Type 0
IsNameless (Thin kind to) = Unit {0}
IsNameless (Array elem count) = Unit {0}
IsNameless FnPtr = Unit {0}
IsNameless _ = ⊥

-- what the reference leads to stands before i, if it has no name
abbrev pub StandsBefore : List TypeDef → ℕ → TypeRef → Type 0
StandsBefore types i (Prim prim) = Unit {0}
StandsBefore types i (User j) = IsSomeAnd (slice_get types j) IsNameless → j < i

abbrev pub StandsAfterNameless : List TypeDef → ℕ → TypeDef → Type 0
StandsAfterNameless types i t = All (StandsBefore types i) (references t)

abbrev pub Law11 : Set → Law
Law11 set Whole = Unit {0}
Law11 set (Def i) = HoldsAt (StandsAfterNameless set.types i) set.types i
Law11 set (Static i) = Unit {0}
Law11 set (OfFunc i) = Unit {0}
