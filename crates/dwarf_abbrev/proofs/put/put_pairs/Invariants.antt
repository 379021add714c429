use Rattle.std.proofs.Common.{take, false}
use Rattle.rv_bytes.proofs.Puts.{IsPart}
use Rattle.dwarf_abbrev.specs.Tables.{pairs}
use Rattle.dwarf_abbrev.proofs.put.put_pairs.Given as goal

-- the pairs so far were appended
abbrev pub invariant-loop-spec : goal.invariant-loop-spec
invariant-loop-spec l = IsPart pairs false false (take l.spec-index l.specs) l.fn.out l.out
