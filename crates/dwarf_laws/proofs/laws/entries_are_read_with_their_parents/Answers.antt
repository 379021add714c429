use Rattle.dwarf_laws.proofs.Parents.{read_with}
use Rattle.dwarf_laws.proofs.laws.entries_are_read_with_their_parents.Goals as goal

pub returns : goal.returns
returns c info = read_with info
