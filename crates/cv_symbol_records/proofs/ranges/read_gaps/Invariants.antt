use Rattle.std.proofs.Common.{◌≡◌, ◌++◌}
use Rattle.rv_bytes.specs.Readers.{with_value}
use Rattle.cv_parts.specs.RecordReaders.{read_so_many}
use Rattle.cv_symbol_records.specs.RangeReaders.{read_gap}
use Rattle.cv_symbol_records.proofs.ranges.read_gaps.Given as goal

-- what was read, before what is still to be read, is the whole
abbrev pub invariant-loop-left : goal.invariant-loop-left
invariant-loop-left l = with_value (λ vs. l.gaps ++ vs) (read_so_many read_gap l.left l.cut.at l.cut.rest) ≡ read_so_many read_gap l.count l.fn.cut.at l.fn.cut.rest

abbrev pub decreases-loop-left : goal.decreases-loop-left
decreases-loop-left l = l.left
