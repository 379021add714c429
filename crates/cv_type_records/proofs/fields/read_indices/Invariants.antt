use Rattle.std.proofs.Common.{◌≡◌, ◌++◌}
use Rattle.rv_bytes.specs.Readers.{with_value}
use Rattle.rv_bytes.specs.NumberReaders.{read_number}
use Rattle.cv_parts.specs.RecordReaders.{read_so_many}
use Rattle.cv_type_records.proofs.fields.read_indices.Given as goal

-- what was read, before what is still to be read, is the whole
abbrev pub invariant-loop-left : goal.invariant-loop-left
invariant-loop-left l = with_value (λ vs. l.types ++ vs) (read_so_many (read_number 4) l.left l.cut.at l.cut.rest) ≡ read_so_many (read_number 4) l.count l.fn.cut.at l.fn.cut.rest

abbrev pub decreases-loop-left : goal.decreases-loop-left
decreases-loop-left l = l.left
