use Rattle.std.proofs.Common.{sym, arith}
use Rattle.image_view.proofs.PlaceNumbers.{missing_at, known_at, bound_at, fits_at}
use Rattle.image_view.proofs.numbers.number_by_places.Goals as goal

pub returns-in_default-clause-number : goal.returns-in_default-clause-number
returns-in_default-clause-number c =
    sym (missing_at c.args.mem.now c.args.source c.args.from c.args.width c.loop-i.i (omega arith) c.loop-i.auto.i (sym c.in_default.ensures))

pub overflow_mul-n : goal.overflow_mul-n
overflow_mul-n c = let h = fits_at c.loop-i.n c.args.width c.loop-i.i (omega arith) c.loop-i.auto.i c.requires.narrow c.loop-i.invariant.bound in omega (arith, h)

pub overflow_add-n : goal.overflow_add-n
overflow_add-n c = let h = fits_at c.loop-i.n c.args.width c.loop-i.i (omega arith) c.loop-i.auto.i c.requires.narrow c.loop-i.invariant.bound in omega (arith, h, c.from.ensures)

pub loop-i-preserved : goal.loop-i-preserved
loop-i-preserved c =
    record {
      number = rw c.from.ensures (known_at c.args.mem.now c.args.source c.args.from c.args.width c.loop-i.i c.in-Some.low c.loop-i.n (omega arith) c.loop-i.auto.i (sym c.in-Some.ensures) c.loop-i.invariant.number);
      bound = rw c.from.ensures (bound_at c.loop-i.n c.args.width c.loop-i.i c.in-Some.low (omega arith) c.loop-i.auto.i c.loop-i.invariant.bound (omega arith));
    }
