-- Units as form, and as their entries say.
use Rattle.std.proofs.Common.{◌≡◌, ℕ, List, length, refl, sym, ap, ◌∙◌}
use Rattle.rv_bytes.specs.Forms.{Form, IsDefinite, made, row}
use Rattle.rv_bytes.specs.Nested.{within}
use Rattle.dwarf_units.specs.Laws.{OneSplit}
use Rattle.dwarf_entries.specs.Said.{HasOneDescription}
use Rattle.dwarf_entries.proofs.OneDescription.{one_description}
use Rattle.dwarf_units.specs.Spots.{in_abbrev, in_info}
use Rattle.dwarf_units.specs.Units.{IsRefusal, at_start, units}
use Rattle.dwarf_units.specs.declared.fault.UnitsErr.{UnitsErr}
use Rattle.dwarf_entries.specs.Dies.{Info, info_of}
use Rattle.dwarf_entries.specs.Shapes.{DwarfUnit, Sections}
use Rattle.dwarf_dies.specs.Units.{all_units, dwarf_units, spot_of}
use Rattle.dwarf_dies.specs.Views.{AreDiesOf}
use Rattle.dwarf_info.specs.Entries.{IsSplitFault, refusal_of}

-- a refusal of units is the first fault of their form
pub refused : (abbrevs info : List ℕ) (e : UnitsErr) → IsRefusal abbrevs info e → IsSplitFault (all_units abbrevs (length info)) info (refusal_of e)
refused abbrevs info (UnitsErr.Info offset rule) h = (in_info offset, (refl, h))
refused abbrevs info (UnitsErr.Abbrev offset rule) h = (in_abbrev offset, (refl, h))
refused abbrevs info UnitsErr.Memory h = tt

-- the entries that were read are those of units that the form spells
pub record AreSpelled (abbrevs : List ℕ) (sections : Sections) (info : Info) : Type 0 where
  pub split : List DwarfUnit
  pub spells : (all_units abbrevs (length sections.info)).spells 0 split sections.info
  pub info_is : info ≡ info_of sections split

pub spelled : (abbrevs : List ℕ) (sections : Sections) (info : Info) → AreDiesOf abbrevs sections info → AreSpelled abbrevs sections info
spelled abbrevs sections info d = record { split = dwarf_units d.units; spells = (d.units, (refl, d.are)); info_is = d.info_is }

made_definite : {M A B : Type 0} (f : A → B) (F : Form M A) → IsDefinite F → IsDefinite (made f F)
made_definite f F d = record {
  one_value = λ n v w t u k l h g same.
      let r = d.one_value n h.0 g.0 t u k l h.1.1 g.1.1 same in
      (h.1.0 ∙ ap f r.0 ∙ sym g.1.0, r.1);
  one_fault = d.one_fault;
  never_both = λ n v t k r m h g. d.never_both n h.0 t k r m h.1.1 g;
}

within_definite : {M N A : Type 0} (spot : M → N) (F : Form M A) → IsDefinite F → IsDefinite (within spot F)
within_definite spot F d = record {
  one_value = d.one_value;
  one_fault = λ n s r q m k h g.
      let e = d.one_fault n s r q h.0 g.0 h.1.1 g.1.1 in
      (e.0, h.1.0 ∙ ap spot e.1 ∙ sym g.1.0);
  never_both = λ n v t k r m h g. d.never_both n v t k r g.0 h g.1.1;
}

-- sections have at most one description, at most one first error, and never both
pub one : OneSplit → (abbrevs : List ℕ) (sections : Sections) → HasOneDescription sections (all_units abbrevs (length sections.info))
one split abbrevs sections =
    one_description sections (all_units abbrevs (length sections.info))
    (within_definite spot_of (made dwarf_units (row (units abbrevs) (at_start (length sections.info))))
    (made_definite dwarf_units (row (units abbrevs) (at_start (length sections.info))) (split abbrevs (at_start (length sections.info)))))
