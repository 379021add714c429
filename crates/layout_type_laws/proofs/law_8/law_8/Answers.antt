use Rattle.std.proofs.Common.{length, sym, subst}
use Rattle.std.specs.List.{All, HoldsAt}
use Rattle.layout_set.specs.Found.{IsFirst}
use Rattle.layout_set.specs.Law5.{HasFitNumbers}
use Rattle.layout_set.specs.Law8.{HasGoodNumbers, Law8}
use Rattle.layout_set.proofs.Firsts.{of_types}
use Rattle.layout_type_laws.proofs.law_8.law_8.Goals as goal

-- law 5 at pointers of 8 bytes, which the set has
pub first_8-requires : goal.first_8-requires
first_8-requires c =
    let set = c.args.set.now in
    rw c.as_slice.ensures (subst (λ ptr. All (HasFitNumbers ptr) set.types) c.requires.pointers c.requires.fit)

-- the first type of which the law is false at pointers of 8 bytes
pub returns : goal.returns
returns c =
    let set = c.args.set.now in
    let first = rw c.as_slice.ensures at c.in_ok-def.ensures in
    let same = subst (λ ptr. IsFirst (HoldsAt (HasGoodNumbers ptr) set.types) (length set.types) c.in_ok-def.def) (sym c.requires.pointers) first in
    rw c.breach.ensures (of_types set 8 (Law8 set) c.in_ok-def.def tt (λ i. tt) (λ i. tt) same)
