-- One step of a size.
use Rattle.std.proofs.Common.{◌≡◌, ℕ, ◌^◌, ◌<◌, inl, inr, List, length, get_or, Some, ap, ◌∙◌, sym, subst, arith}
use Rattle.std.proofs.lemmas.Option.{slice_get-get_or, slice_get_past}
use Rattle.std.proofs.lemmas.Bool.{cases_lt}
use Rattle.layout_set.specs.declared.breach.Item.TheVariants.{Whole, Def}
use Rattle.layout_set.specs.declared.primitive.Primitive.{Primitive}
use Rattle.layout_set.specs.declared.primitive.Primitive.TheVariants.{«Unit» as UnitPrim}
use Rattle.layout_set.specs.declared.set.Set.{Set}
use Rattle.layout_set.specs.declared.set.TypeRef.{TypeRef}
use Rattle.layout_set.specs.declared.set.TypeRef.TheVariants.{Prim, User}
use Rattle.layout_set.specs.declared.set.TypeDef.{TypeDef}
use Rattle.layout_set.specs.FirstBreach.{Holds}
use Rattle.layout_set.specs.Law3.{Law3}
use Rattle.layout_set.specs.Primitives.{prim_bytes}
use Rattle.layout_set.specs.Sizes.{def_size, size_at, size_by, size, AreSmall}

-- the size of the type at a place
pub size_of_user : (ptr : ℕ) (types : List TypeDef) (i : ℕ) (t : TypeDef) → i < length types → t ≡ get_or types i t → size ptr types (User i) ≡ def_size ptr (size_by ptr 256 types) t
unfolding size size_by
size_of_user ptr types i t h e = ap (size_at ptr (size_by ptr 256 types)) (slice_get-get_or types i t h ∙ ap Some (sym e))

pub small_size : (ptr : ℕ) (types : List TypeDef) (ty : TypeRef) → AreSmall ptr types → size ptr types ty < 2 ^ 31
unfolding AreSmall
small_size ptr types ty small = small ty

prim_is_small : (ptr : ℕ) → ptr ≡ 8 → (prim : Primitive) → prim_bytes ptr prim < 2 ^ 31
prim_is_small ptr is prim = elim prim as (λ k. prim_bytes ptr k < 2 ^ 31) [
  | UnitPrim ↦ omega arith
  | _ ↦ omega (arith, is)
]

-- Law 3 says so of each type of the set; another reference has size 0.
pub are_small : (set : Set) → Holds set (Law3 set) → AreSmall set.target.ptr set.types
unfolding AreSmall size size_by
are_small set h (Prim prim) = prim_is_small set.target.ptr (h Whole tt) prim
are_small set h (User i) = elim (cases_lt i (length set.types)) as (λ _. size set.target.ptr set.types (User i) < 2 ^ 31) [
  | inl l ↦ h (Def i) l
  | inr g ↦ subst (λ o. size_at set.target.ptr (size_by set.target.ptr 256 set.types) o < 2 ^ 31) (sym (slice_get_past set.types i g)) (omega arith)
]

-- the size of a pointer, by law 3
pub pointer_size : (set : Set) → Holds set (Law3 set) → set.target.ptr ≡ 8
pointer_size set h = h Whole tt
