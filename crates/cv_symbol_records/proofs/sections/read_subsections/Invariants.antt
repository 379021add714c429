use Rattle.std.proofs.Common.{◌≡◌, ◌++◌, length}
use Rattle.rv_bytes.specs.Readers.{with_value}
use Rattle.cv_parts.specs.RecordReaders.{read_all}
use Rattle.cv_parts.specs.Results.{IsPlaceOf}
use Rattle.cv_symbol_records.specs.Subsections.{joined}
use Rattle.cv_symbol_records.specs.SubsectionReaders.{read_subsection}
use Rattle.cv_symbol_records.proofs.sections.read_subsections.Given as goal

-- what was read, before what is still to be read, is the whole
abbrev pub invariant-loop-alloc : goal.invariant-loop-alloc
invariant-loop-alloc l = record {
  whole : with_value (λ vs. l.records ++ joined vs) (read_all read_subsection l.cut.at l.cut.rest) ≡ with_value joined (read_all read_subsection l.fn.cut.at l.fn.cut.rest);
  place : IsPlaceOf l.section l.cut;
}

abbrev pub decreases-loop-alloc : goal.decreases-loop-alloc
decreases-loop-alloc l = length l.cut.rest
