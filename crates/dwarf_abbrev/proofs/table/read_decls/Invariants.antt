use Rattle.std.proofs.Common.{length}
use Rattle.dwarf_abbrev.specs.TableReaders.{read_decls}
use Rattle.dwarf_abbrev.specs.Tables.{fresh}
use Rattle.dwarf_abbrev.proofs.Loops.{DeclsSoFar}
use Rattle.dwarf_abbrev.proofs.table.read_decls.Given as goal

-- what was read, before what is still to be read, is the whole
abbrev pub invariant-loop-table : goal.invariant-loop-table
invariant-loop-table l = DeclsSoFar (read_decls fresh l.fn.cut.at l.fn.cut.rest) l.table l.cut.at l.cut.rest

abbrev pub decreases-loop-table : goal.decreases-loop-table
decreases-loop-table l = length l.cut.rest
