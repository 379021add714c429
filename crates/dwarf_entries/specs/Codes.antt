-- The codes of the attributes that are looked at, and of those that are refused: DWARF 5, 7.5.4, table 7.5.
use Rattle.std.specs.Prelude.{ℕ}

abbrev pub at_location : ℕ
at_location = 0x02

abbrev pub at_name : ℕ
at_name = 0x03

abbrev pub at_byte_size : ℕ
at_byte_size = 0x0b

abbrev pub at_bit_size : ℕ
at_bit_size = 0x0d

abbrev pub at_low_pc : ℕ
at_low_pc = 0x11

abbrev pub at_high_pc : ℕ
at_high_pc = 0x12

abbrev pub at_discr : ℕ
at_discr = 0x15

abbrev pub at_discr_value : ℕ
at_discr_value = 0x16

abbrev pub at_const_value : ℕ
at_const_value = 0x1c

abbrev pub at_abstract_origin : ℕ
at_abstract_origin = 0x31

abbrev pub at_count : ℕ
at_count = 0x37

abbrev pub at_data_member_location : ℕ
at_data_member_location = 0x38

abbrev pub at_declaration : ℕ
at_declaration = 0x3c

abbrev pub at_discr_list : ℕ
at_discr_list = 0x3d

abbrev pub at_encoding : ℕ
at_encoding = 0x3e

abbrev pub at_frame_base : ℕ
at_frame_base = 0x40

abbrev pub at_specification : ℕ
at_specification = 0x47

abbrev pub at_type : ℕ
at_type = 0x49

abbrev pub at_ranges : ℕ
at_ranges = 0x55

abbrev pub at_data_bit_offset : ℕ
at_data_bit_offset = 0x6b

abbrev pub at_str_offsets_base : ℕ
at_str_offsets_base = 0x72

abbrev pub at_addr_base : ℕ
at_addr_base = 0x73

abbrev pub at_rnglists_base : ℕ
at_rnglists_base = 0x74

abbrev pub at_loclists_base : ℕ
at_loclists_base = 0x8c

abbrev pub at_alignment : ℕ
at_alignment = 0x88
