-- How many bytes pads have.
use Rattle.std.proofs.Common.{◌≡◌, ℕ, zero, suc, length, refl, arith}
use Rattle.cv_parts.specs.Puts.{pads}

pub pads_long : (k : ℕ) → length (pads k) ≡ k
pads_long zero = refl
pads_long (suc k) = omega (arith, pads_long k)
