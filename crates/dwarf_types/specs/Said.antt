-- What entries must say so that types are made of them: names are words, and numbers fit.
use Rattle.std.specs.Prelude.{◌≡◌, ◌<◌, ◌^◌, IsTrue, IfSome, All, Some}
use Rattle.dwarf_entries.specs.Dies.{Die, Info}
use Rattle.dwarf_entries.specs.Enums.{part_of, tag_member, variant_member, variant_structure, variants_in}
use Rattle.dwarf_entries.specs.Names.{is_word}
use Rattle.dwarf_entries.specs.Structures.{children_with, is_param_tag, location_of, members_of}
use Rattle.dwarf_entries.specs.Texts.{own_text}
use Rattle.dwarf_entries.specs.Types.{alignment_of, is_enumerator, size_of}

-- its name is a word
abbrev pub IsNamed : Info → Die → Type 0
IsNamed info d = IsTrue (is_word (own_text info d))

-- its place has 32 bits
abbrev pub IsPlaced : Die → Type 0
IsPlaced m = location_of m < 2 ^ 32

-- its size and its alignment have 32 bits
pub record IsSized (d : Die) : Type 0 where
  pub size : size_of d < 2 ^ 32
  pub alignment : alignment_of d < 2 ^ 32

-- a field: its name is a word, and its place has 32 bits
pub record IsField (info : Info) (m : Die) : Type 0 where
  pub named : IsNamed info m
  pub placed : IsPlaced m

abbrev pub HasFields : Info → Die → Type 0
HasFields info d = All (IsField info) (members_of info d)

abbrev pub HasParams : Info → Die → Type 0
HasParams info d = All (IsNamed info) (children_with is_param_tag info d)

abbrev pub HasCases : Info → Die → Type 0
HasCases info d = All (IsNamed info) (children_with is_enumerator info d)

-- a variant: it has a member, whose name is a word, and its structure has fields
pub record IsVariant (info : Info) (v : Die) : Type 0 where
  pub member : Die
  pub first : variant_member info v ≡ Some member
  pub named : IsNamed info member
  pub fields : IfSome (variant_structure info v) (HasFields info)

-- a variant part: the place of its tag has 32 bits, and it has variants
pub record IsPart (info : Info) (part : Die) : Type 0 where
  pub tag : IfSome (tag_member info part) IsPlaced
  pub variants : All (IsVariant info) (variants_in info part)

-- a structure, whether it is a struct, an enum or a fat pointer
pub record IsStructure (info : Info) (d : Die) : Type 0 where
  pub sized : IsSized d
  pub params : HasParams info d
  pub fields : HasFields info d
  pub part : IfSome (part_of info d) (IsPart info)
