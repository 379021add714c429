-- Sections of type records that were written one after the other.
use Rattle.std.specs.Prelude.{◌≡◌, ℕ, ◌+◌, List, [], ◌∷◌, length}
use Rattle.cv_type_records.specs.Types.{type_rec, types, AreTypes}
use Rattle.cv_type_records.specs.declared.kinds.TypeRec.{TypeRec}
use Rattle.cv_type_records.specs.declared.kinds.TypeKind.{TypeKind}
use Rattle.cv_type_writer.specs.TypeRecords.{type_bytes}
use Rattle.cv_type_writer.specs.Appended.{PutsType}

-- the records that stand one after the other from this place on
abbrev pub records_from : ℕ → List TypeKind → List TypeRec
records_from place [] = []
records_from place (kind ∷ kinds) = type_rec place kind ∷ records_from (place + length (type_bytes kind)) kinds

-- these records were appended, one after the other
abbrev pub PutsTypes : List TypeKind → List ℕ → List ℕ → Type 0
PutsTypes [] old new = new ≡ old
PutsTypes (kind ∷ kinds) old new = (mid : List ℕ) × (PutsType kind old mid × PutsTypes kinds mid new)

-- the section is these records, and no others, and no item of it is invalid
pub record IsReadAs (section : List ℕ) (records : List TypeRec) : Type 0 where
  pub are : AreTypes section records
  pub only : (others : List TypeRec) → AreTypes section others → others ≡ records
  pub valid : (rule place : ℕ) → (types (length section)).faults 0 section rule place → ⊥
