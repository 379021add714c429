use Rattle.std.proofs.Common.{arith}
use Rattle.rv_bytes.proofs.Counts.{fill_rest}
use Rattle.rv_bytes.proofs.put_leb.+fill.Goals as goal

pub returns-else-more-eq0 : goal.returns-else-more-eq0
returns-else-more-eq0 t c = fill_rest c.args.more c.args.n _ c.args.bytes.now c.fill.new.bytes (omega (arith, c.if-more-eq0.false)) c.requires.room c.fill.auto.bytes c.fill.ensures
