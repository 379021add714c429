-- The map has the code where a declaration has it.
use Rattle.std.proofs.Common.{ap, ◌∙◌, is_some}
use Rattle.dwarf_abbrev.proofs.Codes.{has_code}
use Rattle.dwarf_abbrev.proofs.table.Table.has.Goals as goal

pub returns : goal.returns
returns c = rw (c.contains_key.ensures, ← c.self.view_is) (ap is_some ((c.self.invariant).0 c.args.code) ∙ has_code c.self.inside.list c.args.code)
