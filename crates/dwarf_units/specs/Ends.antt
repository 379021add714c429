-- Where a unit ends.
use Rattle.std.specs.Prelude.{ℕ, ◌+◌, ◌^◌, nat_lt, if◌then◌else◌, Option, Some, None}
use Rattle.dwarf_units.specs.declared.header.UnitHeader.{UnitHeader}

-- the place after a unit, where it has fewer than 64 bits
abbrev pub end_of : UnitHeader → Option ℕ
end_of h = if nat_lt (h.offset + (h.unit_length + 4)) (2 ^ 64) then Some (h.offset + (h.unit_length + 4)) else None
