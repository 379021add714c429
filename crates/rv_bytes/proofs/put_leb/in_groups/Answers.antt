use Rattle.std.proofs.Common.{◌≡◌, ◌-◌, ◌^◌, ℕ, ℤ, pos, negsuc, ◌<ℤ◌, w64, arith}
use Rattle.std.proofs.lemmas.Int.{ints, to_z-of_z}
use Rattle.rv_bytes.specs.Writers.{without_sign, in_groups}
use Rattle.rv_bytes.proofs.Bits.{shifted}
use Rattle.rv_bytes.proofs.put_leb.in_groups.Goals as goal

-- the groups of a number below 0
below : (z : ℤ) (count : ℕ) → z <ℤ pos 0 → in_groups count z ≡ 128 ^ count - 1 - without_sign z
below (pos n) count h = absurd (omega (arith, ints, h))
below (negsuc n) count h = omega arith

pub overflow_sub-result-then-n-lt0 : goal.overflow_sub-result-then-n-lt0
overflow_sub-result-then-n-lt0 c = omega (arith, shifted c.args.count c.requires.count, c.from.ensures, c.requires.fits)

pub returns-then-n-lt0 : goal.returns-then-n-lt0
returns-then-n-lt0 c =
    let same = to_z-of_z w64 c.args.n c.ranges.n in
    let negative : c.args.n <ℤ pos 0 = omega (arith, ints, c.if-n-lt0.true, same) in
    omega (arith, shifted c.args.count c.requires.count, c.from.ensures, c.requires.bits, below c.args.n c.args.count negative)
