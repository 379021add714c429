use Rattle.rv_bytes.proofs.LeafBytes.{numeric_spelled}
use Rattle.rv_bytes.proofs.put_leaves.put_numeric.Goals as goal

pub returns-then-n-lt32768-clause-spells : goal.returns-then-n-lt32768-clause-spells
returns-then-n-lt32768-clause-spells c = numeric_spelled c.args.n c.requires.low c.requires.high

pub returns-else-n-ge0-clause-spells : goal.returns-else-n-ge0-clause-spells
returns-else-n-ge0-clause-spells c = numeric_spelled c.args.n c.requires.low c.requires.high
