-- Law 3: pointers have 8 bytes, and every size is below 2^31.
use Rattle.std.specs.Prelude.{◌≡◌, ℕ, ◌^◌, ◌<◌, List}
use Rattle.layout_set.specs.declared.breach.Item.TheVariants.{Whole, Def, Static, Func as OfFunc}
use Rattle.layout_set.specs.declared.set.Set.{Set}
use Rattle.layout_set.specs.declared.set.TypeRef.TheVariants.{User}
use Rattle.layout_set.specs.declared.set.TypeDef.{TypeDef}
use Rattle.layout_set.specs.FirstBreach.{Law}
use Rattle.layout_set.specs.Sizes.{size}

abbrev pub IsSmall : ℕ → List TypeDef → ℕ → Type 0
IsSmall ptr types i = size ptr types (User i) < 2 ^ 31

abbrev pub Law3 : Set → Law
Law3 set Whole = set.target.ptr ≡ 8
Law3 set (Def i) = IsSmall set.target.ptr set.types i
Law3 set (Static i) = Unit {0}
Law3 set (OfFunc i) = Unit {0}
