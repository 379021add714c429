use Rattle.std.proofs.Common.{arith}
use Rattle.rv_bytes.specs.Numbers.{zero_or}
use Rattle.rv_bytes.proofs.Lebs.{groups_are}
use Rattle.rv_bytes.proofs.Bits.{ten_bytes, unsigned_fits}
use Rattle.rv_bytes.proofs.LebCalls.{uleb_taken, uleb_refused}
use Rattle.rv_bytes.proofs.cut.Cut.long_uleb.Goals as goal

pub low_bits-requires : goal.low_bits-requires
low_bits-requires c = ten_bytes (zero_or 1) _ (groups_are (zero_or 1) _ _ _ _ _ c.in-Ok.ensures.reads)

pub overflow_cast-result : goal.overflow_cast-result
overflow_cast-result c =
    omega (arith, c.low_bits.ensures.value, unsigned_fits _ (groups_are (zero_or 1) _ _ _ _ _ c.in-Ok.ensures.reads))

-- what the reader of groups gives is taken, and what it refuses is refused
pub returns-in-Ok-clause-taken : goal.returns-in-Ok-clause-taken
returns-in-Ok-clause-taken c =
    uleb_taken c.args.self.now c.groups.new.self c.low_bits.result c.in-Ok.bytes.now c.low_bits.ensures.value c.in-Ok.ensures.reads

pub returns-in-Err-clause-refused : goal.returns-in-Err-clause-refused
returns-in-Err-clause-refused c = uleb_refused c.args.self.now c.in-Err.e c.in-Err.ensures.reads
