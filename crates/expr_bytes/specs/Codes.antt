-- The codes of operations, named as the standard names them: DWARF 5, 7.7.1. The name of an operation is here the standard's,
-- without DW_OP_.
use Rattle.std.specs.Prelude.{ℕ}

abbrev pub addr : ℕ
addr = 0x03

abbrev pub deref : ℕ
deref = 0x06

abbrev pub const1u : ℕ
const1u = 0x08

abbrev pub const1s : ℕ
const1s = 0x09

abbrev pub const2u : ℕ
const2u = 0x0a

abbrev pub const2s : ℕ
const2s = 0x0b

abbrev pub const4u : ℕ
const4u = 0x0c

abbrev pub const4s : ℕ
const4s = 0x0d

abbrev pub const8u : ℕ
const8u = 0x0e

abbrev pub const8s : ℕ
const8s = 0x0f

abbrev pub constu : ℕ
constu = 0x10

abbrev pub consts : ℕ
consts = 0x11

abbrev pub dup : ℕ
dup = 0x12

abbrev pub drop : ℕ
drop = 0x13

abbrev pub over : ℕ
over = 0x14

abbrev pub pick : ℕ
pick = 0x15

abbrev pub swap : ℕ
swap = 0x16

abbrev pub rot : ℕ
rot = 0x17

abbrev pub and : ℕ
and = 0x1a

abbrev pub minus : ℕ
minus = 0x1c

abbrev pub mul : ℕ
mul = 0x1e

abbrev pub neg : ℕ
neg = 0x1f

abbrev pub not : ℕ
not = 0x20

abbrev pub or : ℕ
or = 0x21

abbrev pub plus : ℕ
plus = 0x22

abbrev pub plus_uconst : ℕ
plus_uconst = 0x23

abbrev pub shl : ℕ
shl = 0x24

abbrev pub shr : ℕ
shr = 0x25

abbrev pub shra : ℕ
shra = 0x26

abbrev pub xor : ℕ
xor = 0x27

abbrev pub lit0 : ℕ
lit0 = 0x30

abbrev pub lit31 : ℕ
lit31 = 0x4f

abbrev pub reg0 : ℕ
reg0 = 0x50

abbrev pub reg31 : ℕ
reg31 = 0x6f

abbrev pub breg0 : ℕ
breg0 = 0x70

abbrev pub breg31 : ℕ
breg31 = 0x8f

abbrev pub regx : ℕ
regx = 0x90

abbrev pub fbreg : ℕ
fbreg = 0x91

abbrev pub bregx : ℕ
bregx = 0x92

abbrev pub piece : ℕ
piece = 0x93

abbrev pub deref_size : ℕ
deref_size = 0x94

abbrev pub nop : ℕ
nop = 0x96

abbrev pub call_frame_cfa : ℕ
call_frame_cfa = 0x9c

abbrev pub implicit_value : ℕ
implicit_value = 0x9e

abbrev pub stack_value : ℕ
stack_value = 0x9f

abbrev pub addrx : ℕ
addrx = 0xa1

abbrev pub entry_value : ℕ
entry_value = 0xa3
