-- The readers of type records are exact.
use Rattle.std.proofs.Common.{◌≡◌, ℕ, List, []}
use Rattle.rv_bytes.specs.Readers.{got}
use Rattle.rv_bytes.proofs.Exact.{Exact}
use Rattle.cv_parts.specs.Series.{to_end}
use Rattle.cv_parts.specs.RecordReaders.{read_to_end, read_all}
use Rattle.cv_parts.proofs.Fields.{HasByte}
use Rattle.cv_parts.proofs.Series.{AreExact, to_end_exact, all_taken}
use Rattle.cv_parts.proofs.RecordForms.{record_exact, record_byte}
use Rattle.cv_parts.proofs.WholeSections.{signed_exact}
use Rattle.cv_type_records.specs.Contents.{contents}
use Rattle.cv_type_records.specs.Types.{type_rec, type_record, types}
use Rattle.cv_type_records.specs.TypeReaders.{read_contents, read_type_record, read_types}
use Rattle.cv_type_records.proofs.Contents.{contents_exact}
use Rattle.cv_type_records.specs.declared.kinds.TypeRec.{TypeRec}

pub type_exact : Exact type_record read_type_record
type_exact = record_exact type_rec contents read_contents contents_exact

pub type_byte : HasByte type_record
type_byte = record_byte type_rec contents

-- records to the end of so many bytes
pub records_exact : AreExact (to_end (λ _. type_record)) (read_to_end (λ _. read_type_record))
records_exact = to_end_exact (λ _. type_record) (λ _. read_type_record) (λ _. type_byte) (λ _. type_exact)

pub records_taken : (n : ℕ) (s : List ℕ) (vs : List TypeRec) (m : ℕ) (k : List ℕ) → read_all (λ _. read_type_record) n s ≡ got vs m k → k ≡ []
records_taken = all_taken (λ _. type_record) (λ _. read_type_record) (λ _. type_byte) (λ _. type_exact)

pub types_exact : (size : ℕ) → Exact (types size) (read_types size)
types_exact size = signed_exact (to_end (λ _. type_record)) (read_to_end (λ _. read_type_record)) records_exact size
