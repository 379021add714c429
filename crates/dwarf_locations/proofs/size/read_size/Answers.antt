-- The reader is exact.
use Rattle.dwarf_locations.proofs.Sizes.{size_taken, size_refused}
use Rattle.dwarf_locations.proofs.size.read_size.Goals as goal

pub returns-in-Ok-clause-taken : goal.returns-in-Ok-clause-taken
returns-in-Ok-clause-taken c = size_taken c.args.cut.now c.read_item.new.cut c.in-Ok.size c.in-Ok.ensures

pub returns-in-Err-clause-refused : goal.returns-in-Err-clause-refused
returns-in-Err-clause-refused c = size_refused c.args.cut.now c.read_item.new.cut c.in-Err.e c.in_cut.result c.in-Err.ensures c.in_cut.ensures
