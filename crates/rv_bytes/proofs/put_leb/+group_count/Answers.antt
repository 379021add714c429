use Rattle.rv_bytes.proofs.Counts.{count_more}
use Rattle.rv_bytes.proofs.put_leb.+group_count.Goals as goal

pub returns-else-n-lt128 : goal.returns-else-n-lt128
returns-else-n-lt128 t c = count_more c.args.n c.group_count.result c.if-n-lt128.false c.ranges.n.fits c.group_count.ensures
