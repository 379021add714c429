-- Addresses by their indexes: DWARF 5, 7.27.
use Rattle.std.specs.Prelude.{ℕ, ◌+◌, ◌*◌, nat_le, if◌then◌else◌, List, length, Option, Some, None}
use Rattle.std.specs.List.{slice_range}
use Rattle.expr_eval.specs.Results.{little_endian}

-- the addresses that indexes name: the bytes of `.debug_addr`, and where the unit's start in it
pub record Addresses : Type 0 where
  pub section : List ℕ
  pub base : Option ℕ

-- the address of `ptr` bytes at a place of the section, if it is there whole
abbrev pub address_from : ℕ → List ℕ → ℕ → Option ℕ
address_from ptr section at = if nat_le (at + ptr) (length section) then Some (little_endian (slice_range section at (at + ptr))) else None

-- the address at an index, where the addresses start at the base
abbrev pub address_at : ℕ → List ℕ → Option ℕ → ℕ → Option ℕ
address_at ptr section None index = None
address_at ptr section (Some base) index = address_from ptr section (base + ptr * index)
