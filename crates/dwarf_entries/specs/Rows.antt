-- The attributes that are looked at for each tag, and the class that each must have: DWARF 5, 7.5.4 and 7.5.5.
use Rattle.std.specs.Prelude.{ℕ, ◌==◌, if◌then◌else◌, List, [], ◌∷◌, Option, Some, None}
use Rattle.dwarf_entries.specs.Codes.{at_location, at_name, at_byte_size, at_low_pc, at_high_pc, at_discr, at_discr_value, at_const_value, at_abstract_origin}
use Rattle.dwarf_entries.specs.Codes.{at_count, at_data_member_location, at_declaration, at_encoding, at_frame_base, at_specification, at_type, at_ranges}
use Rattle.dwarf_entries.specs.Codes.{at_str_offsets_base, at_addr_base, at_rnglists_base, at_loclists_base, at_alignment}
use Rattle.dwarf_entries.specs.declared.class.Class.{Class}
use Rattle.dwarf_entries.specs.declared.tag.Tag.{Tag}

-- an attribute with the class that it must have
pub record Column : Type 0 where
  pub code : ℕ
  pub class : Class

abbrev pub col : ℕ → Class → Column
col code class = record { code = code; class = class }

-- the attributes of a variable or a parameter
abbrev pub variable_row : List Column
variable_row =
    col at_name Class.Text ∷ col at_type Class.Link ∷ col at_location Class.Location ∷ col at_const_value Class.ConstantOrBlock
    ∷ col at_abstract_origin Class.Link ∷ []

-- the attributes that are looked at for a tag
abbrev pub row_of : Tag → List Column
row_of Tag.CompileUnit =
    col at_low_pc Class.Address ∷ col at_str_offsets_base Class.Base ∷ col at_addr_base Class.Base ∷ col at_rnglists_base Class.Base
    ∷ col at_loclists_base Class.Base ∷ []
row_of Tag.Namespace = col at_name Class.Text ∷ []
row_of Tag.BaseType = col at_name Class.Text ∷ col at_byte_size Class.Size ∷ col at_encoding Class.Constant ∷ []
row_of Tag.StructureType = col at_name Class.Text ∷ col at_byte_size Class.Size ∷ col at_alignment Class.Size ∷ []
row_of Tag.UnionType = col at_name Class.Text ∷ col at_byte_size Class.Size ∷ col at_alignment Class.Size ∷ []
row_of Tag.Member = col at_name Class.Text ∷ col at_type Class.Link ∷ col at_data_member_location Class.Size ∷ []
row_of Tag.TemplateTypeParameter = col at_name Class.Text ∷ col at_type Class.Link ∷ []
row_of Tag.VariantPart = col at_discr Class.Link ∷ []
row_of Tag.Variant = col at_discr_value Class.ConstantOrBlock ∷ []
row_of Tag.PointerType = col at_name Class.Text ∷ col at_type Class.Link ∷ []
row_of Tag.ArrayType = col at_type Class.Link ∷ []
row_of Tag.SubrangeType = col at_count Class.Count ∷ []
row_of Tag.EnumerationType = col at_name Class.Text ∷ col at_byte_size Class.Size ∷ col at_type Class.Link ∷ []
row_of Tag.Enumerator = col at_name Class.Text ∷ col at_const_value Class.Constant ∷ []
row_of Tag.SubroutineType = []
row_of Tag.Typedef = col at_type Class.Link ∷ []
row_of Tag.Subprogram =
    col at_name Class.Text ∷ col at_low_pc Class.Address ∷ col at_high_pc Class.AddressOrConstant ∷ col at_ranges Class.Ranges
    ∷ col at_frame_base Class.Location ∷ col at_specification Class.Link ∷ col at_abstract_origin Class.Link ∷ col at_declaration Class.Flag ∷ []
row_of Tag.LexicalBlock = col at_low_pc Class.Address ∷ col at_high_pc Class.AddressOrConstant ∷ col at_ranges Class.Ranges ∷ []
row_of Tag.Variable = variable_row
row_of Tag.FormalParameter = variable_row

-- the class of an attribute in a row, if it is in it
abbrev pub class_in : ℕ → List Column → Option Class
class_in code [] = None
class_in code (c ∷ row) = if code == c.code then Some c.class else class_in code row
