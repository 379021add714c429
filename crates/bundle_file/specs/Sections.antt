-- Sections whose lengths fit four bytes.
use Rattle.std.specs.Prelude.{ℕ, ◌<◌, ◌^◌, List, length}
use Rattle.bundle_file.specs.declared.sections.DwarfSections.{DwarfSections}
use Rattle.bundle_file.specs.declared.sections.CvSections.{CvSections}
use Rattle.bundle_file.specs.declared.sections.Bundle.{Bundle}

-- a section is shorter than 2^32 bytes
abbrev pub IsSection : List ℕ → Type 0
IsSection section = length section < 2 ^ 32

-- each section of DWARF is
pub record AreDwarfSections (s : DwarfSections) : Type 0 where
  pub in_abbrev : IsSection s.abbrev
  pub in_info : IsSection s.info
  pub in_text : IsSection s.text
  pub in_line_text : IsSection s.line_text
  pub in_text_offsets : IsSection s.text_offsets
  pub in_addrs : IsSection s.addrs
  pub in_locs : IsSection s.locs
  pub in_ranges : IsSection s.ranges

-- each section of CodeView is
pub record AreCvSections (s : CvSections) : Type 0 where
  pub in_types : IsSection s.types
  pub in_symbols : IsSection s.symbols

-- each section of the bundle is
abbrev pub HasSections : Bundle → Type 0
HasSections (Bundle.Dwarf s) = AreDwarfSections s
HasSections (Bundle.Cv s) = AreCvSections s
