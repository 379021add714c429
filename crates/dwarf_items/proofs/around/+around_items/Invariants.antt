use Rattle.std.proofs.Common.{length}
use Rattle.dwarf_items.proofs.around.+around_items.Given as goal

abbrev pub decreases-around_items : goal.decreases-around_items
decreases-around_items l = length l.die.now.die.owners
