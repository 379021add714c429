-- What a bundle file is read as: the set that its sections describe, or the first rule that is broken.
use Rattle.std.specs.Prelude.{◌≡◌, ◌⊎◌, ℕ, List, Result, Ok, Err}
use Rattle.bundle_file.specs.Files.{IsBundleFile, IsNoBundleFile}
use Rattle.bundle_file.specs.Rules.{bad_header}
use Rattle.bundle_file.specs.declared.sections.Bundle.{Bundle}
use Rattle.dwarf_info.specs.Reads.{AreRefusedBy, DescribeSet}
use Rattle.layout_set.specs.declared.refusal.ReadErr.{ReadErr}
use Rattle.layout_set.specs.declared.refusal.Refusal.{Refusal}
use Rattle.layout_set.specs.declared.refusal.Section.{Section}
use Rattle.layout_set.specs.declared.set.Set.{Set}

-- CodeView isn't read: its number is that of no format
abbrev pub no_code_view : Refusal
no_code_view = record { section = Section.Bundle; offset = 8; rule = bad_header }

-- the sections describe this set
abbrev pub IsDescribed : Bundle → Set → Type 0
IsDescribed (Bundle.Dwarf s) set = DescribeSet s set
IsDescribed (Bundle.Cv s) set = ⊥

-- the first rule that the sections break; out of memory says nothing of them
abbrev pub RefusesSections : Bundle → ReadErr → Type 0
RefusesSections (Bundle.Dwarf s) e = AreRefusedBy s e
RefusesSections (Bundle.Cv s) (ReadErr.Refused r) = r ≡ no_code_view
RefusesSections (Bundle.Cv s) ReadErr.Memory = Unit {0}

-- the file spells sections, which describe this set
abbrev pub DescribesSet : List ℕ → Set → Type 0
DescribesSet file set = (b : Bundle) × IsBundleFile file b × IsDescribed b set

-- the first rule that is broken: by the file, or by the sections that it spells; out of memory says nothing of it
abbrev pub IsRefusedBy : List ℕ → ReadErr → Type 0
IsRefusedBy file (ReadErr.Refused r) = IsNoBundleFile file (ReadErr.Refused r) ⊎ ((b : Bundle) × IsBundleFile file b × RefusesSections b (ReadErr.Refused r))
IsRefusedBy file ReadErr.Memory = Unit {0}

-- what a reader of bundle files answers
abbrev pub IsReading : List ℕ → Result Set ReadErr → Type 0
IsReading file (Ok set) = DescribesSet file set
IsReading file (Err e) = IsRefusedBy file e

-- files describe at most one set, have at most one first error, and never both
pub record HaveOneReading : Type 0 where
  pub one_set : (file : List ℕ) (a b : Set) → DescribesSet file a → DescribesSet file b → a ≡ b
  pub one_error : (file : List ℕ) (r q : Refusal) → IsRefusedBy file (ReadErr.Refused r) → IsRefusedBy file (ReadErr.Refused q) → r ≡ q
  pub never_both : (file : List ℕ) (set : Set) (r : Refusal) → DescribesSet file set → IsRefusedBy file (ReadErr.Refused r) → ⊥

-- no file is without a reading that isn't out of memory
abbrev pub HaveReading : Type 0
HaveReading = (file : List ℕ) → ((r : Result Set ReadErr) → (r ≡ Err ReadErr.Memory → ⊥) → IsReading file r → ⊥) → ⊥
