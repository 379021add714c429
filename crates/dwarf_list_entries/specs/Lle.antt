-- The kinds of location list entries, named as the standard names them, without DW_LLE_: DWARF 5, 7.7.3.
use Rattle.std.specs.Prelude.{ℕ}

abbrev pub end_of_list : ℕ
end_of_list = 0x00

abbrev pub base_addressx : ℕ
base_addressx = 0x01

abbrev pub startx_endx : ℕ
startx_endx = 0x02

abbrev pub startx_length : ℕ
startx_length = 0x03

abbrev pub offset_pair : ℕ
offset_pair = 0x04

abbrev pub default_location : ℕ
default_location = 0x05

abbrev pub base_address : ℕ
base_address = 0x06

abbrev pub start_end : ℕ
start_end = 0x07

abbrev pub start_length : ℕ
start_length = 0x08
