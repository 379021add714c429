-- A word is read as one.
use Rattle.std.proofs.Common.{refl}
use Rattle.rust_value.proofs.copying.copy_name.Goals as goal

pub unreachable-requires : goal.unreachable-requires
unreachable-requires c =
    let bad = rw c.in-Err-BadName.field-0-is at c.in-Err-BadName.ensures in
    bad.none c.args.name.now (c.requires, refl)
