-- What sections describe, by the entries that were read.
use Rattle.std.proofs.Common.{◌≡◌, ℕ, List, length, Result, Ok, Err, IfOk, IfErr, inl, inr, refl, subst}
use Rattle.layout_set.specs.declared.refusal.ReadErr.{ReadErr}
use Rattle.layout_set.specs.declared.set.Set.{Set}
use Rattle.bundle_file.specs.declared.sections.DwarfSections.{DwarfSections}
use Rattle.dwarf_entries.specs.Dies.{Info, info_of}
use Rattle.dwarf_entries.specs.Said.{said}
use Rattle.dwarf_entries.specs.Shapes.{Sections}
use Rattle.dwarf_dies.specs.Units.{all_units}
use Rattle.dwarf_dies.specs.Views.{AreDiesOf}
use Rattle.dwarf_info.specs.Entries.{IsSplitFault}
use Rattle.dwarf_info.specs.Reads.{AreRefusedBy, DescribeSet, IsSetOf, RefusesEntries, bytes_in}
use Rattle.dwarf_info.proofs.Splits.{spelled}

pub described : (s : DwarfSections) (info : Info) (set : Set) → AreDiesOf s.abbrev (bytes_in s) info → IsSetOf info set → DescribeSet s set
described s info set d h =
    let w = spelled s.abbrev (bytes_in s) info d in
    let g = subst (λ i. IsSetOf i set) w.info_is h in
    record { said = said (info_of (bytes_in s) w.split); says = (w.split, (w.spells, (g.none, refl))); sound = g.sound; is = g.is }

pub refused_by : (s : DwarfSections) (info : Info) (e : ReadErr) → AreDiesOf s.abbrev (bytes_in s) info → RefusesEntries info e → AreRefusedBy s e
refused_by s info (ReadErr.Refused r) d h = by_cause (subst (λ i. RefusesEntries i (ReadErr.Refused r)) (spelled s.abbrev (bytes_in s) info d).info_is h)
  where
    by_cause : RefusesEntries (info_of (bytes_in s) (spelled s.abbrev (bytes_in s) info d).split) (ReadErr.Refused r) → AreRefusedBy s (ReadErr.Refused r)
    by_cause (inl f) = let w = spelled s.abbrev (bytes_in s) info d in inl (inr (w.split, (w.spells, f)))
    by_cause (inr u) = let w = spelled s.abbrev (bytes_in s) info d in inr (said (info_of (bytes_in s) w.split), ((w.split, (w.spells, (u.0, refl))), u.1))
refused_by s info ReadErr.Memory d h = tt

pub split_refused : (s : DwarfSections) (e : ReadErr) → IsSplitFault (all_units s.abbrev (length s.info)) s.info e → AreRefusedBy s e
split_refused s (ReadErr.Refused r) h = inl (inl h)
split_refused s ReadErr.Memory h = tt

pub ok_map : {A E : Type 0} (r : Result A E) (P Q : A → Type 0) → ((a : A) → P a → Q a) → IfOk r P → IfOk r Q
ok_map (Ok a) P Q f h = f a h
ok_map (Err e) P Q f h = tt

pub err_map : {A E : Type 0} (r : Result A E) (P Q : E → Type 0) → ((e : E) → P e → Q e) → IfErr r P → IfErr r Q
err_map (Ok a) P Q f h = tt
err_map (Err e) P Q f h = f e h

-- the same of bytes that are those of the sections
pub dies_of : (s : DwarfSections) (abbrevs : List ℕ) (held : Sections) (info : Info) → abbrevs ≡ s.abbrev → held ≡ bytes_in s → AreDiesOf abbrevs held info → AreDiesOf s.abbrev (bytes_in s) info
dies_of s abbrevs held info a b d = subst (λ x. AreDiesOf s.abbrev x info) b (subst (λ x. AreDiesOf x held info) a d)

pub fault_of : (s : DwarfSections) (abbrevs : List ℕ) (held : Sections) (e : ReadErr) → abbrevs ≡ s.abbrev → held ≡ bytes_in s → IsSplitFault (all_units abbrevs (length held.info)) held.info e → AreRefusedBy s e
fault_of s abbrevs held e a b h =
    split_refused s e (subst (λ (x : Sections). IsSplitFault (all_units s.abbrev (length x.info)) x.info e) b (subst (λ x. IsSplitFault (all_units x (length held.info)) held.info e) a h))
