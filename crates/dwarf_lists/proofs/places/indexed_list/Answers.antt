-- Without an offset at the index there is no list.
use Rattle.dwarf_lists.proofs.Indexed.{no_list_offset}
use Rattle.dwarf_lists.proofs.places.indexed_list.Goals as goal

pub returns-in_err-offset-clause-nowhere : goal.returns-in_err-offset-clause-nowhere
returns-in_err-offset-clause-nowhere c = no_list_offset c.from_residual.result c.args.section.now c.args.base c.args.index c.in_err-offset.ensures.nowhere
