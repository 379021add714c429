use Rattle.std.proofs.Common.{sym}
use Rattle.snapshot_file.proofs.Parts.{part_there, part_missing}
use Rattle.snapshot_file.proofs.mem.Mem.bytes.Goals as goal

pub returns-then-len-rest : goal.returns-then-len-rest
returns-then-len-rest c = sym (part_there c.args.self.now c.args.at c.args.len c.rest-rest.result.now c.rest-rest.ensures c.if-len-rest.true)

pub returns-else-len-rest : goal.returns-else-len-rest
returns-else-len-rest c = sym (part_missing c.args.self.now c.args.at c.args.len c.rest-rest.result.now c.rest-rest.ensures c.if-len-rest.false)
