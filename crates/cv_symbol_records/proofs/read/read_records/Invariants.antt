use Rattle.std.proofs.Common.{◌≡◌, ◌++◌, length}
use Rattle.rv_bytes.specs.Readers.{with_value}
use Rattle.cv_parts.specs.RecordReaders.{read_all}
use Rattle.cv_parts.specs.Results.{IsPlaceOf}
use Rattle.cv_symbol_records.specs.SymbolReaders.{read_symbol}
use Rattle.cv_symbol_records.proofs.read.read_records.Given as goal

-- what was read, before what is still to be read, is the whole
abbrev pub invariant-loop-alloc : goal.invariant-loop-alloc
invariant-loop-alloc l = record {
  whole : with_value (λ vs. l.records ++ vs) (read_all (λ _. read_symbol) l.cut.at l.cut.rest) ≡ with_value (λ vs. l.fn.records ++ vs) (read_all (λ _. read_symbol) l.fn.cut.at l.fn.cut.rest);
  place : IsPlaceOf l.bytes l.cut;
}

abbrev pub decreases-loop-alloc : goal.decreases-loop-alloc
decreases-loop-alloc l = length l.cut.rest
