-- A part has the same outcome with the types that CodeView carries.
use Rattle.std.proofs.Common.{◌≡◌, ℕ, ◌↔◌}
use Rattle.layout_values.specs.declared.outcome.Outcome.{Outcome}
use Rattle.layout_values.specs.declared.outcome.Outcome.TheVariants.{Value, Unavailable, Invalid, TooLarge}
use Rattle.layout_set.specs.declared.set.TypeRef.{TypeRef}
use Rattle.layout_carried.specs.Carried.{carried_ref}
use Rattle.layout_values.specs.Contexts.{Items, Context}
use Rattle.layout_values.specs.Images.{levels}
use Rattle.layout_values.specs.Outcomes.{IsOutcome}
use Rattle.layout_values.specs.Reached.{counting, lacking}
use Rattle.layout_carried.proofs.SameWalks.{over, same_walk}
use Rattle.layout_carried.proofs.SameImages.{same_image}

pub same_outcome : (c : Context) → c.ptr ≡ 8 → (d : ℕ) (ty : TypeRef) (p : Items) (o : Outcome)
    → IsOutcome (over c) d (carried_ref c.ptr ty) p o ↔ IsOutcome c d ty p o
same_outcome c is d ty p TooLarge = rw (same_walk counting c is (levels d) d ty p) (λ h. h, λ h. h)
same_outcome c is d ty p Unavailable = rw (same_walk counting c is (levels d) d ty p, same_walk lacking c is (levels d) d ty p) (λ h. h, λ h. h)
same_outcome c is d ty p (Value x) =
    let i = same_image c is (levels d) d ty p x in
    rw (same_walk counting c is (levels d) d ty p, same_walk lacking c is (levels d) d ty p) (λ h. (h.0, i.0 h.1), λ h. (h.0, i.1 h.1))
same_outcome c is d ty p Invalid =
    rw (same_walk counting c is (levels d) d ty p, same_walk lacking c is (levels d) d ty p) (
      λ h. (h.0, λ x i. h.1 x ((same_image c is (levels d) d ty p x).1 i)),
      λ h. (h.0, λ x i. h.1 x ((same_image c is (levels d) d ty p x).0 i)),
    )
