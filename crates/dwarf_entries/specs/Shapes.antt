-- Units of `.debug_info` as a whole reading of them has them: DWARF 5, 7.5. All places count from the start of the section.
use Rattle.std.specs.Prelude.{ℕ, List, Option}
use Rattle.dwarf_abbrev.specs.Values.{Val}

-- an attribute of an entry: its code and that of its form, where its value begins, and the value
pub record Attribute : Type 0 where
  pub code : ℕ
  pub form : ℕ
  pub offset : ℕ
  pub value : Val

-- an entry: its number among all of the section, which count from 0, that of its parent, where it begins, what it describes, and
-- its attributes in order
pub record Entry : Type 0 where
  pub number : ℕ
  pub up : Option ℕ
  pub offset : ℕ
  pub tag : ℕ
  pub attributes : List Attribute

-- a unit: where its header begins, and its entries in prefix order
pub record DwarfUnit : Type 0 where
  pub start : ℕ
  pub entries : List Entry

-- the bytes of the sections: entries, and the texts, addresses and lists to which they lead
pub record Sections : Type 0 where
  pub info : List ℕ
  pub text : List ℕ
  pub line_text : List ℕ
  pub text_offsets : List ℕ
  pub addrs : List ℕ
  pub locs : List ℕ
  pub ranges : List ℕ
