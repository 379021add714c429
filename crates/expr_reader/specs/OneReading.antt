-- Bytes have at most one reading as a place.
use Rattle.std.specs.Prelude.{◌≡◌, ℕ}
use Rattle.rv_bytes.specs.Places.{Place}
use Rattle.expr_eval.specs.Addresses.{Addresses}
use Rattle.expr_bytes.specs.Runs.{TakesPlace, IsFaultAt}
use Rattle.expr_bytes.specs.declared.place.Frame.{Frame}
use Rattle.expr_bytes.specs.declared.place.Simple.{Simple}

-- from the old place on the bytes say at most one place, have at most one first fault, and never both
pub record HasOneReading (frame : Frame) (addrs : Addresses) (old : Place) : Type 0 where
  pub one_place : (m n : Place) (p q : Simple) → TakesPlace frame addrs old m p → TakesPlace frame addrs old n q → (m ≡ n) × (p ≡ q)
  pub one_fault : (rule other at spot : ℕ) → IsFaultAt frame addrs old rule at → IsFaultAt frame addrs old other spot
      → (rule ≡ other) × (at ≡ spot)
  pub never_both : (new : Place) (place : Simple) (rule at : ℕ) → TakesPlace frame addrs old new place → ¬ IsFaultAt frame addrs old rule at
