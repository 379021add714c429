-- Law 6: the pointers in a fat pointer are thin pointers of the set, and that of a text leads to its bytes.
use Rattle.std.specs.Prelude.{◌≡◌, List, slice_get, IsSomeAnd}
use Rattle.std.specs.List.{HoldsAt}
use Rattle.layout_set.specs.declared.breach.Item.TheVariants.{Whole, Def, Static, Func as OfFunc}
use Rattle.layout_set.specs.declared.set.Set.{Set}
use Rattle.layout_set.specs.declared.primitive.Primitive.TheVariants.{U8}
use Rattle.layout_set.specs.declared.set.TypeRef.{TypeRef}
use Rattle.layout_set.specs.declared.set.TypeRef.TheVariants.{Prim, User}
use Rattle.layout_set.specs.declared.set.TypeDef.{TypeDef}
use Rattle.layout_set.specs.declared.set.TypeDef.TheVariants.{Thin, Slice, Str, Dyn}
use Rattle.layout_set.specs.FirstBreach.{Law}

-- the type is a thin pointer to something of which P holds
abbrev pub IsThinTo : (TypeRef → Type 0) → TypeDef → Type 0
IsThinTo P (Thin kind to) = P to
IsThinTo P _ = ⊥

-- the reference is to a thin pointer to something of which P holds
abbrev pub RefersToThin : (TypeRef → Type 0) → List TypeDef → TypeRef → Type 0
RefersToThin P types (Prim prim) = ⊥
RefersToThin P types (User i) = IsSomeAnd (slice_get types i) (IsThinTo P)

abbrev pub IsThin : List TypeDef → TypeRef → Type 0
IsThin = RefersToThin (λ to. Unit {0})

abbrev pub IsThinToBytes : List TypeDef → TypeRef → Type 0
IsThinToBytes = RefersToThin (λ to. to ≡ Prim U8)

unfoldable pub HasThinPointers : List TypeDef → TypeDef → Type 0
HasThinPointers types (Slice name kind ptr) = IsThin types ptr
HasThinPointers types (Str name kind ptr) = IsThinToBytes types ptr
HasThinPointers types (Dyn name kind ptr vtable) = IsThin types ptr × IsThin types vtable
HasThinPointers types _ = Unit {0}

abbrev pub Law6 : Set → Law
Law6 set Whole = Unit {0}
Law6 set (Def i) = HoldsAt (HasThinPointers set.types) set.types i
Law6 set (Static i) = Unit {0}
Law6 set (OfFunc i) = Unit {0}
