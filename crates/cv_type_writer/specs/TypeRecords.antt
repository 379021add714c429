-- Type records as they are written.
use Rattle.std.specs.Prelude.{ℕ, List, ◌++◌}
use Rattle.byteorder.specs.Endian.{little_bytes}
use Rattle.cv_parts.specs.Puts.{pads}
use Rattle.cv_type_records.specs.declared.kinds.TypeKind.{TypeKind}
use Rattle.cv_record_writer.specs.Contents.{padded, record_bytes}
use Rattle.cv_type_writer.specs.TypeBytes.{type_number, fields_bytes}

-- the content of a record: its kind, its fields, and a pad
abbrev pub type_content : TypeKind → List ℕ
type_content kind = padded pads (little_bytes 2 (type_number kind) ++ fields_bytes kind)

-- the record
abbrev pub type_bytes : TypeKind → List ℕ
type_bytes kind = record_bytes (type_content kind)
