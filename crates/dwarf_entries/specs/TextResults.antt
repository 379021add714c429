-- What the calls that look texts up answer.
use Rattle.std.specs.Prelude.{◌≡◌, ℕ, List, Option, Some, None}
use Rattle.dwarf_entries.specs.Items.{Spot}
use Rattle.dwarf_entries.specs.Shapes.{Sections}
use Rattle.dwarf_entries.specs.Texts.{Found}
use Rattle.dwarf_entries.specs.declared.sections.Sections.{Sections as Held}
use Rattle.dwarf_entries.specs.declared.text.TextErr.{TextErr}
use Rattle.layout_set.specs.declared.refusal.Refusal.{Refusal}

-- the bytes of the sections
abbrev pub bytes_of : Held → Sections
bytes_of s = record {
  info = s.info.now;
  text = s.text.now;
  line_text = s.line_text.now;
  text_offsets = s.text_offsets.now;
  addrs = s.addrs.now;
  locs = s.locs.now;
  ranges = s.ranges.now;
}

-- where a refusal stands
abbrev pub spot_of : Refusal → Spot
spot_of r = record { section = r.section; offset = r.offset }

-- what is found is this text
abbrev pub IsText : Option Found → List ℕ → Type 0
IsText None text = ⊥
IsText (Some f) text = (f.rule ≡ None) × (f.text ≡ text)

-- why no text is found: there is nothing, or what there is breaks this rule at this place
abbrev pub IsNoText : Option Found → TextErr → Type 0
IsNoText None TextErr.Outside = Unit {0}
IsNoText None (TextErr.Broken r) = ⊥
IsNoText (Some f) TextErr.Outside = ⊥
IsNoText (Some f) (TextErr.Broken r) = (f.rule ≡ Some r.rule) × (f.spot ≡ spot_of r)
