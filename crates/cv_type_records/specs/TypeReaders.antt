-- The readers of type records, for proofs.
use Rattle.std.specs.Prelude.{ℕ, ◌-◌, List}
use Rattle.rv_bytes.specs.Readers.{Reader, and_then}
use Rattle.cv_parts.specs.RecordReaders.{read_a_record, read_signature, read_to_end}
use Rattle.cv_type_records.specs.Leaves.{leaf_of}
use Rattle.cv_type_records.specs.ContentReaders.{read_by_leaf}
use Rattle.cv_type_records.specs.Types.{type_rec}
use Rattle.cv_type_records.specs.declared.kinds.TypeRec.{TypeRec}
use Rattle.cv_type_records.specs.declared.kinds.TypeKind.{TypeKind}

-- the reader of `contents`
abbrev pub read_contents : ℕ → ℕ → Reader ℕ TypeKind
read_contents kind size n s = read_by_leaf (leaf_of kind) kind size n s

-- the reader of `type_record`
abbrev pub read_type_record : Reader ℕ TypeRec
read_type_record n s = read_a_record type_rec read_contents n s

-- the reader of `types`
abbrev pub read_types : ℕ → Reader ℕ (List TypeRec)
read_types size n s = and_then (read_signature n s) (λ _ m k. read_to_end (λ _. read_type_record) (size - 4) m k)
