use Rattle.std.proofs.Common.{length, sym, subst}
use Rattle.std.specs.List.{HoldsAt}
use Rattle.layout_set.specs.Found.{IsFirst}
use Rattle.layout_set.specs.Law5.{HasFitNumbers, Law5}
use Rattle.layout_set.proofs.Firsts.{of_types}
use Rattle.layout_type_laws.proofs.law_5.law_5.Goals as goal

-- the first type of which the law is false at pointers of 8 bytes, which the set has
pub returns : goal.returns
returns c =
    let set = c.args.set.now in
    let first = rw c.as_slice.ensures at c.first_5.ensures in
    let same = subst (λ ptr. IsFirst (HoldsAt (HasFitNumbers ptr) set.types) (length set.types) c.first_5.result) (sym c.requires) first in
    rw c.breach.ensures (of_types set 5 (Law5 set) c.first_5.result tt (λ i. tt) (λ i. tt) same)
