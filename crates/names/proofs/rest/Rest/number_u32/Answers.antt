use Rattle.std.proofs.Common.{◌≡◌, subst, arith, true}
use Rattle.names.specs.Reading.{got, number_at}
use Rattle.names.proofs.Scans.{number_fits}
use Rattle.names.proofs.rest.Rest.number_u32.Goals as goal

-- what was read is at most the greatest number of the type
pub overflow_cast-result : goal.overflow_cast-result
overflow_cast-result c =
    let read = subst (λ m. number_at true m c.args.self.now ≡ got c.in_ok-number.number c.number.new.self) c.from.ensures c.in_ok-number.ensures in
    omega (arith, number_fits 4294967295 c.in_ok-number.number c.args.self.now c.number.new.self (omega arith) (omega arith) read)
