-- The kinds of entries: DWARF 5, 7.7.3 and 7.25.
use Rattle.std.specs.Prelude.{ℕ, ◌==◌, Bool, true, false, if◌then◌else◌, Option, Some, None}
use Rattle.dwarf_list_entries.specs.Lle as lle
use Rattle.dwarf_list_entries.specs.Rle as rle
use Rattle.dwarf_list_entries.specs.declared.kind.Kind.{Kind}

-- of a location list's entry; None for a code that is none of those that are read. A default location is none of them.
unfoldable pub location_kind : ℕ → Option Kind
location_kind n =
    if n == lle.end_of_list then Some Kind.EndOfList
    else if n == lle.base_addressx then Some Kind.BaseAddressx
    else if n == lle.startx_endx then Some Kind.StartxEndx
    else if n == lle.startx_length then Some Kind.StartxLength
    else if n == lle.offset_pair then Some Kind.OffsetPair
    else if n == lle.base_address then Some Kind.BaseAddress
    else if n == lle.start_end then Some Kind.StartEnd
    else if n == lle.start_length then Some Kind.StartLength
    else None

-- of a range list's entry
unfoldable pub range_kind : ℕ → Option Kind
range_kind n =
    if n == rle.end_of_list then Some Kind.EndOfList
    else if n == rle.base_addressx then Some Kind.BaseAddressx
    else if n == rle.startx_endx then Some Kind.StartxEndx
    else if n == rle.startx_length then Some Kind.StartxLength
    else if n == rle.offset_pair then Some Kind.OffsetPair
    else if n == rle.base_address then Some Kind.BaseAddress
    else if n == rle.start_end then Some Kind.StartEnd
    else if n == rle.start_length then Some Kind.StartLength
    else None

-- an entry of a location list has an expression where it has bounds
abbrev pub has_expression : Kind → Bool
has_expression Kind.EndOfList = false
has_expression Kind.BaseAddressx = false
has_expression Kind.StartxEndx = true
has_expression Kind.StartxLength = true
has_expression Kind.OffsetPair = true
has_expression Kind.BaseAddress = false
has_expression Kind.StartEnd = true
has_expression Kind.StartLength = true
