-- How the bytes of each form lie, and what they say: DWARF 5, 7.5.5 and 7.5.6, for 32-bit DWARF with addresses of 8 bytes.
use Rattle.std.specs.Prelude.{ℕ, ◌==◌, ◌≤◌, if◌then◌else◌, Option, Some, None}
use Rattle.dwarf_abbrev.specs.FormCodes.{addr, addrx, addrx1, addrx2, addrx3, addrx4, data1, data2, data4, data8, data16, udata, sdata, implicit_const, string, strp, line_strp, strx, strx1, strx2, strx3, strx4, ref1, ref2, ref4, ref8, ref_udata, ref_addr, block1, block2, block4, block, exprloc, sec_offset, loclistx, rnglistx, flag, flag_present}
use Rattle.dwarf_abbrev.specs.declared.encoding.NumberKind.{NumberKind}
use Rattle.dwarf_abbrev.specs.declared.encoding.BytesKind.{BytesKind}
use Rattle.dwarf_abbrev.specs.declared.encoding.Encoding.{Encoding}

-- the table of forms: None for a code that is none of them
unfoldable pub encoding_of : ℕ → Option Encoding
encoding_of form =
    -- the class address
    if form == addr then Some (Encoding.Number NumberKind.Addr 8)
    else if form == addrx then Some (Encoding.Leb NumberKind.AddrIndex)
    else if form == addrx1 then Some (Encoding.Number NumberKind.AddrIndex 1)
    else if form == addrx2 then Some (Encoding.Number NumberKind.AddrIndex 2)
    else if form == addrx3 then Some (Encoding.Number NumberKind.AddrIndex 3)
    else if form == addrx4 then Some (Encoding.Number NumberKind.AddrIndex 4)
    -- the class constant
    else if form == data1 then Some (Encoding.Number NumberKind.Unsigned 1)
    else if form == data2 then Some (Encoding.Number NumberKind.Unsigned 2)
    else if form == data4 then Some (Encoding.Number NumberKind.Unsigned 4)
    else if form == data8 then Some (Encoding.Number NumberKind.Unsigned 8)
    else if form == data16 then Some Encoding.Wide
    else if form == udata then Some (Encoding.Leb NumberKind.Unsigned)
    else if form == sdata then Some Encoding.SignedLeb
    else if form == implicit_const then Some Encoding.Implicit
    -- the class string
    else if form == string then Some Encoding.Text
    else if form == strp then Some (Encoding.Number NumberKind.StrAt 4)
    else if form == line_strp then Some (Encoding.Number NumberKind.LineStrAt 4)
    else if form == strx then Some (Encoding.Leb NumberKind.StrIndex)
    else if form == strx1 then Some (Encoding.Number NumberKind.StrIndex 1)
    else if form == strx2 then Some (Encoding.Number NumberKind.StrIndex 2)
    else if form == strx3 then Some (Encoding.Number NumberKind.StrIndex 3)
    else if form == strx4 then Some (Encoding.Number NumberKind.StrIndex 4)
    -- the class reference
    else if form == ref1 then Some (Encoding.Number NumberKind.UnitRef 1)
    else if form == ref2 then Some (Encoding.Number NumberKind.UnitRef 2)
    else if form == ref4 then Some (Encoding.Number NumberKind.UnitRef 4)
    else if form == ref8 then Some (Encoding.Number NumberKind.UnitRef 8)
    else if form == ref_udata then Some (Encoding.Leb NumberKind.UnitRef)
    else if form == ref_addr then Some (Encoding.Number NumberKind.InfoRef 4)
    -- the class block
    else if form == block1 then Some (Encoding.Counted BytesKind.Block 1)
    else if form == block2 then Some (Encoding.Counted BytesKind.Block 2)
    else if form == block4 then Some (Encoding.Counted BytesKind.Block 4)
    else if form == block then Some (Encoding.LebCounted BytesKind.Block)
    -- the class expression
    else if form == exprloc then Some (Encoding.LebCounted BytesKind.Expr)
    -- the class list
    else if form == sec_offset then Some (Encoding.Number NumberKind.SecOffset 4)
    else if form == loclistx then Some (Encoding.Leb NumberKind.LocIndex)
    else if form == rnglistx then Some (Encoding.Leb NumberKind.RangeIndex)
    -- the class flag
    else if form == flag then Some Encoding.FlagByte
    else if form == flag_present then Some Encoding.Present
    else None

-- a number of the table, other than data16's, has 1 to 8 bytes
abbrev pub WidthFits : Encoding → Type 0
WidthFits (Encoding.Number kind w) = (1 ≤ w) × (w ≤ 8)
WidthFits (Encoding.Counted kind w) = (1 ≤ w) × (w ≤ 8)
WidthFits _ = Unit {0}
