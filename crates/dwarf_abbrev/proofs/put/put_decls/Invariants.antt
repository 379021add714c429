use Rattle.std.proofs.Common.{take}
use Rattle.rv_bytes.proofs.Puts.{IsPart}
use Rattle.dwarf_abbrev.specs.Tables.{decls, fresh}
use Rattle.dwarf_abbrev.proofs.Loops.{behind, somes}
use Rattle.dwarf_abbrev.proofs.put.put_decls.Given as goal

-- the declarations so far were appended
abbrev pub invariant-loop-declaration : goal.invariant-loop-declaration
invariant-loop-declaration l = IsPart decls fresh (behind (take l.declaration-index l.list)) (somes (take l.declaration-index l.list)) l.fn.out l.out
