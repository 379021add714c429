-- What the calls on records do.
use Rattle.std.specs.Prelude.{ℕ, ◌≡◌, ◌≤◌, ◌+◌, List, drop, length}
use Rattle.rv_bytes.specs.Places.{Place}
use Rattle.rv_bytes.specs.Readers.{got, bad}
use Rattle.rv_bytes.specs.declared.err.DwErr.{DwErr}
use Rattle.cv_parts.specs.RecordReaders.{read_content}

-- the cut has the content of the record that begins at this place, and what follows it is the rest of the section
pub record IsContent (section : List ℕ) (at : ℕ) (cut : Place) : Type 0 where
  pub starts : cut.at ≡ at + 2
  pub kind_fits : 2 ≤ length cut.rest
  pub inside : cut.at + length cut.rest ≤ length section
  pub reads : read_content at (drop at section) ≡ got cut.rest (cut.at + length cut.rest) (drop (cut.at + length cut.rest) section)

-- no record begins there, by this rule and at this place
abbrev pub IsNoContent : List ℕ → ℕ → DwErr → Type 0
IsNoContent section at (DwErr.Refused offset rule) = read_content at (drop at section) ≡ bad rule offset
IsNoContent section at DwErr.Memory = ⊥

-- the place is in the section, and its bytes are the section's from there on
pub record IsPlaceOf (section : List ℕ) (place : Place) : Type 0 where
  pub inside : place.at ≤ length section
  pub rest : place.rest ≡ drop place.at section
