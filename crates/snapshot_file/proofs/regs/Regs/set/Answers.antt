use Rattle.std.proofs.Common.{◌≡◌, length, rules}
use Rattle.snapshot_file.proofs.RegisterLists.{set_general, set_vector}
use Rattle.snapshot_file.proofs.regs.Regs.set.Goals as goal

pub returns-then-number-lt16 : goal.returns-then-number-lt16
returns-then-number-lt16 c =
    let size : length c.self.inside.general ≡ 16 = search rules in
    set_general c.self.inside.general c.self.inside.vector c.args.self.now c.args.reg c.args.n c.number-number.result c.to_le_bytes.result size c.self.view_is c.number-number.ensures c.if-number-lt16.true c.to_le_bytes.ensures

pub returns-else-number-lt16 : goal.returns-else-number-lt16
returns-else-number-lt16 c =
    let size : length c.self.inside.general ≡ 16 = search rules in
    set_vector c.self.inside.general c.self.inside.vector c.args.self.now c.args.reg c.args.n c.number-number.result c.to_le_bytes-else-number-lt16.result size c.self.view_is c.number-number.ensures c.if-number-lt16.false c.to_le_bytes-else-number-lt16.ensures
