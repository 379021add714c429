use Rattle.rv_bytes.proofs.LebCalls.{low_uleb_read, low_uleb_taken}
use Rattle.rv_bytes.proofs.cut.Cut.uleb.Goals as goal

-- a byte below 128 is the whole number
pub returns-in-Some-clause-taken : goal.returns-in-Some-clause-taken
returns-in-Some-clause-taken c = low_uleb_taken c.args.self.now c.skip_byte.new.self c.in-Some.b c.from.result c.in-Some.ensures c.from.ensures c.skip_byte.ensures

pub returns-in-Some-clause-reads : goal.returns-in-Some-clause-reads
returns-in-Some-clause-reads c = low_uleb_read c.args.self.now c.skip_byte.new.self c.in-Some.b c.from.result c.in-Some.ensures c.from.ensures c.skip_byte.ensures
