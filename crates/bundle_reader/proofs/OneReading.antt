-- A bundle file is read in at most one way.
use Rattle.std.proofs.Common.{◌≡◌, ℕ, List, length, inl, inr, refl, sym, ap, subst, ◌∙◌}
use Rattle.bundle_file.specs.Laws.{FilesHaveOneReading}
use Rattle.bundle_file.specs.Files.{IsBundleFile}
use Rattle.bundle_file.specs.declared.sections.Bundle.{Bundle}
use Rattle.dwarf_dies.specs.Units.{all_units}
use Rattle.dwarf_entries.specs.Items.{Spot}
use Rattle.dwarf_entries.specs.Said.{HasOneDescription}
use Rattle.dwarf_entries.specs.Shapes.{Sections}
use Rattle.dwarf_info.specs.Reads.{bytes_in}
use Rattle.layout_set.specs.declared.refusal.ReadErr.{ReadErr}
use Rattle.layout_set.specs.declared.refusal.Refusal.{Refusal}
use Rattle.layout_set.specs.declared.refusal.Section.{Section}
use Rattle.layout_set.specs.declared.set.Set.{Set}
use Rattle.bundle_reader.specs.Readings.{DescribesSet, HaveOneReading, IsDescribed, IsRefusedBy, RefusesSections}

abbrev pub HasOneEach : Type 0
HasOneEach = (abbrevs : List ℕ) (sections : Sections) → HasOneDescription sections (all_units abbrevs (length sections.info))

abbrev refusal_at : Section → ℕ → ℕ → Refusal
refusal_at s o r = record { section = s; offset = o; rule = r }

refusal_is : (r q : Refusal) → r.section ≡ q.section → r.offset ≡ q.offset → r.rule ≡ q.rule → r ≡ q
refusal_is r q s o n = ap (λ x. refusal_at x r.offset r.rule) s ∙ ap (λ x. refusal_at q.section x r.rule) o ∙ ap (refusal_at q.section q.offset) n

one_set : HasOneEach → (b : Bundle) (s t : Set) → IsDescribed b s → IsDescribed b t → s ≡ t
one_set each (Bundle.Dwarf d) s t h g = (each d.abbrev (bytes_in d)).one_set s t h g
one_set each (Bundle.Cv d) s t h g = absurd h

one_error : HasOneEach → (b : Bundle) (r q : Refusal) → RefusesSections b (ReadErr.Refused r) → RefusesSections b (ReadErr.Refused q) → r ≡ q
one_error each (Bundle.Dwarf d) r q h g =
    let e = (each d.abbrev (bytes_in d)).one_error r.rule q.rule _ _ h g in
    refusal_is r q (ap (λ (x : Spot). x.section) e.1) (ap (λ (x : Spot). x.offset) e.1) e.0
one_error each (Bundle.Cv d) r q h g = h ∙ sym g

never_both : HasOneEach → (b : Bundle) (s : Set) (r : Refusal) → IsDescribed b s → RefusesSections b (ReadErr.Refused r) → ⊥
never_both each (Bundle.Dwarf d) s r h g = (each d.abbrev (bytes_in d)).never_both s r.rule _ h g
never_both each (Bundle.Cv d) s r h g = h

errors : FilesHaveOneReading → HasOneEach → (file : List ℕ) (r q : Refusal) → IsRefusedBy file (ReadErr.Refused r) → IsRefusedBy file (ReadErr.Refused q) → r ≡ q
errors files each file r q (inl h) (inl g) =
    let e = files.one_fault file r.rule r.offset q.rule q.offset h.1 g.1 in
    refusal_is r q (h.0 ∙ sym g.0) e.1 e.0
errors files each file r q (inl h) (inr g) = absurd (files.never_both file g.0 r.rule r.offset g.1 h.1)
errors files each file r q (inr h) (inl g) = absurd (files.never_both file h.0 q.rule q.offset h.1 g.1)
errors files each file r q (inr h) (inr g) =
    one_error each h.0 r q h.2 (subst (λ b. RefusesSections b (ReadErr.Refused q)) (files.one_bundle file g.0 h.0 g.1 h.1) g.2)

both : FilesHaveOneReading → HasOneEach → (file : List ℕ) (s : Set) (r : Refusal) → DescribesSet file s → IsRefusedBy file (ReadErr.Refused r) → ⊥
both files each file s r h (inl g) = files.never_both file h.0 r.rule r.offset h.1 g.1
both files each file s r h (inr g) =
    never_both each h.0 s r h.2 (subst (λ b. RefusesSections b (ReadErr.Refused r)) (files.one_bundle file g.0 h.0 g.1 h.1) g.2)

pub one_reading : FilesHaveOneReading → HasOneEach → HaveOneReading
one_reading files each = record {
  one_set = λ file s t h g. one_set each h.0 s t h.2 (subst (λ b. IsDescribed b t) (files.one_bundle file g.0 h.0 g.1 h.1) g.2);
  one_error = errors files each;
  never_both = both files each;
}
