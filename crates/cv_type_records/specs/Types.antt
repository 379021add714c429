-- The type records of `.debug$T`.
use Rattle.std.specs.Prelude.{ℕ, ◌-◌, List, length}
use Rattle.rv_bytes.specs.Forms.{Form, follow}
use Rattle.cv_parts.specs.Records.{a_record, signature}
use Rattle.cv_parts.specs.Series.{to_end}
use Rattle.cv_type_records.specs.Contents.{contents}
use Rattle.cv_type_records.specs.declared.kinds.TypeRec.{TypeRec}
use Rattle.cv_type_records.specs.declared.kinds.TypeKind.{TypeKind}

-- the record that begins at this place
abbrev pub type_rec : ℕ → TypeKind → TypeRec
type_rec place kind = record { offset = place; kind = kind }

-- a type record
abbrev pub type_record : Form ℕ TypeRec
type_record = a_record type_rec contents

-- a section of so many bytes: the number 4, and type records to its end
abbrev pub types : ℕ → Form ℕ (List TypeRec)
types size = follow signature (λ _. to_end (λ _. type_record) (size - 4))

-- the section's bytes are these records
abbrev pub AreTypes : List ℕ → List TypeRec → Type 0
AreTypes section records = (types (length section)).spells 0 records section
