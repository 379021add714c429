-- The texts and addresses that attributes lead to: DWARF 5, 7.5.5, 7.26 and 7.27, with offsets of 4 and addresses of 8 bytes.
use Rattle.std.specs.Prelude.{ℕ, ◌+◌, ◌*◌, nat_le, nat_lt, if◌then◌else◌, List, [], drop, length, Option, Some, None, option_and_then, unwrap_or}
use Rattle.std.specs.Option.{option_map}
use Rattle.byteorder.specs.Endian.{little_number}
use Rattle.rv_bytes.specs.NumberReaders.{read_text}
use Rattle.rv_bytes.specs.Numbers.{text_breaks}
use Rattle.rv_bytes.specs.Readers.{Res, got, bad}
use Rattle.dwarf_abbrev.specs.Values.{Val}
use Rattle.dwarf_entries.specs.Codes.{at_name}
use Rattle.dwarf_entries.specs.Dies.{Die, Info}
use Rattle.dwarf_entries.specs.Items.{Spot, in_info}
use Rattle.dwarf_entries.specs.Lookups.{attribute_of}
use Rattle.dwarf_entries.specs.Shapes.{Attribute, Sections}
use Rattle.dwarf_entries.specs.declared.sections.Bases.{Bases}
use Rattle.layout_set.specs.declared.refusal.Section.{Section}

-- the number of so many bytes at a place, where they are all there
abbrev pub number_at : ℕ → List ℕ → ℕ → Option ℕ
number_at width section at = if nat_le (at + width) (length section) then Some (little_number width (drop at section)) else None

-- from a base on stand numbers of so many bytes, and this is the one at the index, which counts from 0
abbrev pub indexed : ℕ → List ℕ → Option ℕ → ℕ → Option ℕ
indexed width section base index = option_and_then (λ b. number_at width section (b + width * index)) base

-- an address, or the one at an index; None where the index leads to none
abbrev pub address_in : Sections → Bases → Val → Option ℕ
address_in sections bases (Val.Addr n) = Some n
address_in sections bases (Val.AddrIndex i) = indexed 8 sections.addrs bases.addrs i
address_in sections bases _ = None

-- what is where a text is to be: where that is, the rule that the bytes break there, and the text, empty where they break one
pub record Found : Type 0 where
  pub spot : Spot
  pub rule : Option ℕ
  pub text : List ℕ

-- the bytes up to a zero byte
abbrev pub found_in : Section → Res ℕ (List ℕ) → ℕ → Found
found_in section (got text past rest) offset = record { spot = record { section = section; offset = offset }; rule = None; text = text }
found_in section (bad rule at) offset = record { spot = record { section = section; offset = at }; rule = Some rule; text = [] }

-- what is at an offset of a section of texts; None where the offset is outside
abbrev pub found_at : Section → List ℕ → ℕ → Option Found
found_at section texts offset =
    if nat_lt offset (length texts) then Some (found_in section (read_text offset (drop offset texts)) offset) else None

-- a text in the entry itself
abbrev pub found_inline : ℕ → List ℕ → Option ℕ → Found
found_inline offset text None = record { spot = in_info offset; rule = None; text = text }
found_inline offset text (Some rule) = record { spot = in_info offset; rule = Some rule; text = [] }

-- the text of a value of the class string, of an attribute at this place; None where its offset or index is outside its section
-- or without its base
abbrev pub text_in : Sections → Bases → ℕ → Val → Option Found
text_in sections bases at (Val.Inline text) = Some (found_inline at text (text_breaks text))
text_in sections bases at (Val.StrAt n) = found_at Section.Str sections.text n
text_in sections bases at (Val.LineStrAt n) = found_at Section.LineStr sections.line_text n
text_in sections bases at (Val.StrIndex i) = option_and_then (found_at Section.Str sections.text) (indexed 4 sections.text_offsets bases.text_offsets i)
text_in sections bases at _ = None

-- the same of an attribute
abbrev pub text_found : Sections → Bases → Attribute → Option Found
text_found sections bases a = text_in sections bases a.offset a.value

-- the text of the first name of an entry; empty where it has none
abbrev pub own_text : Info → Die → List ℕ
own_text info d = unwrap_or (option_map (λ f. f.text) (option_and_then (text_found info.sections d.bases) (attribute_of at_name d.entry))) []
