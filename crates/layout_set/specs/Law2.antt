-- Law 2: no type begins a chain of more than 256 types in which each contains the next by value.
use Rattle.std.specs.Prelude.{ℕ, ◌<◌, ◌≤◌, List, [], ◌∷◌, length}
use Rattle.std.specs.List.{Contains, HoldsAt}
use Rattle.layout_set.specs.declared.breach.Item.TheVariants.{Whole, Def, Static, Func as OfFunc}
use Rattle.layout_set.specs.declared.set.Set.{Set}
use Rattle.layout_set.specs.declared.set.TypeRef.TheVariants.{User}
use Rattle.layout_set.specs.declared.set.TypeDef.{TypeDef}
use Rattle.layout_set.specs.FirstBreach.{Law}
use Rattle.layout_set.specs.References.{contents}

-- the type at i contains the first of the rest by value
abbrev pub Leads : List TypeDef → ℕ → List ℕ → Type 0
Leads types i [] = Unit {0}
Leads types i (j ∷ rest) = HoldsAt (λ t. Contains (contents t) (User j)) types i

-- these are types of the set, each of which contains the next by value
abbrev pub IsChain : List TypeDef → List ℕ → Type 0
IsChain types [] = Unit {0}
IsChain types (i ∷ rest) = (i < length types) × (Leads types i rest × IsChain types rest)

-- no chain of more than 256 types begins at i; one that comes back to a type would go on for ever
unfoldable pub IsShallow : List TypeDef → ℕ → Type 0
IsShallow types i = (rest : List ℕ) → IsChain types (i ∷ rest) → length (i ∷ rest) ≤ 256

abbrev pub Law2 : Set → Law
Law2 set Whole = Unit {0}
Law2 set (Def i) = IsShallow set.types i
Law2 set (Static i) = Unit {0}
Law2 set (OfFunc i) = Unit {0}
