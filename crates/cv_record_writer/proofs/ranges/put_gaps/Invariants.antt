-- The gaps so far.
use Rattle.std.proofs.Common.{take}
use Rattle.cv_symbol_records.specs.Ranges.{gap}
use Rattle.cv_record_writer.specs.SymbolBytes.{gap_bytes}
use Rattle.cv_record_writer.proofs.Lists.{Written}
use Rattle.cv_record_writer.proofs.ranges.put_gaps.Given as goal

abbrev pub invariant-loop-gap : goal.invariant-loop-gap
invariant-loop-gap l = Written gap gap_bytes (take l.gap-index l.gaps) l.fn.out l.out
