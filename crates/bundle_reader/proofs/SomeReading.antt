-- No bundle file is without a reading.
use Rattle.std.proofs.Common.{◌≡◌, ℕ, List, Result, Ok, Err, ◌⊎◌, inl, inr, refl, subst}
use Rattle.bundle_file.specs.Files.{IsBundleFile, IsInvalidAt}
use Rattle.bundle_file.specs.Laws.{FilesHaveOneReading}
use Rattle.bundle_file.specs.declared.sections.Bundle.{Bundle}
use Rattle.dwarf_info.specs.Reads.{HaveReading as DwarfHasReading, IsReading as DwarfReads}
use Rattle.layout_set.specs.declared.refusal.ReadErr.{ReadErr}
use Rattle.layout_set.specs.declared.refusal.Refusal.{Refusal}
use Rattle.layout_set.specs.declared.refusal.Section.{Section}
use Rattle.layout_set.specs.declared.set.Set.{Set}
use Rattle.bundle_reader.specs.Readings.{HaveReading, IsReading, no_code_view}

-- an answer that isn't out of memory
abbrev IsKnown : Result Set ReadErr → Type 0
IsKnown (Ok set) = Unit {0}
IsKnown (Err (ReadErr.Refused r)) = Unit {0}
IsKnown (Err ReadErr.Memory) = ⊥

pub some_reading : FilesHaveOneReading → DwarfHasReading → HaveReading
some_reading files sections file deny = by_file (files.some_reading file)
  where
    by_bundle : (b : Bundle) → IsBundleFile file b → ⊥
    by_bundle (Bundle.Cv s) is = deny (Err (ReadErr.Refused no_code_view)) (λ e. subst IsKnown e tt) (inr (Bundle.Cv s, is, refl))
    by_bundle (Bundle.Dwarf s) is = sections s by_sections
      where
        by_sections : (r : Result Set ReadErr) → (r ≡ Err ReadErr.Memory → ⊥) → DwarfReads s r → ⊥
        by_sections (Ok set) known h = deny (Ok set) known (Bundle.Dwarf s, is, h)
        by_sections (Err (ReadErr.Refused r)) known h = deny (Err (ReadErr.Refused r)) known (inr (Bundle.Dwarf s, is, h))
        by_sections (Err ReadErr.Memory) known h = known refl

    by_file : ((b : Bundle) × IsBundleFile file b) ⊎ ((rule : ℕ) × ((offset : ℕ) × IsInvalidAt file rule offset)) → ⊥
    by_file (inl x) = by_bundle x.0 x.1
    by_file (inr x) = deny (Err (ReadErr.Refused (record { section = Section.Bundle; offset = x.1.0; rule = x.0 }))) (λ e. subst IsKnown e tt) (inl (refl, x.1.1))
