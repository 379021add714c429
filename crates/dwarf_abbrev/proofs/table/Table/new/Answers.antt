-- Where there are no declarations, the map has no places.
use Rattle.std.proofs.Common.{refl}
use Rattle.dwarf_abbrev.proofs.Codes.{no_declarations}
use Rattle.dwarf_abbrev.proofs.table.Table.new.Goals as goal

pub invariant_of-result : goal.invariant_of-result
invariant_of-result c = rw c.new.ensures (λ code. rw c.new-2.ensures.empty refl, no_declarations)
