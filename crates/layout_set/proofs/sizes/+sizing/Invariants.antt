use Rattle.std.proofs.Common.{◌+◌, ◌*◌}
use Rattle.layout_set.proofs.sizes.+sizing.Given as goal

abbrev pub decreases-size_at : goal.decreases-size_at
decreases-size_at l = 2 * l.most

abbrev pub decreases-def_size_at : goal.decreases-def_size_at
decreases-def_size_at l = 2 * l.most + 1
