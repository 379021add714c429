-- The two members by which a structure is a fat pointer: rustc's names and places of them.
use Rattle.std.specs.Prelude.{ℕ, ◌==◌, ◌&&◌, Bool, true, false, if◌then◌else◌, List, bytes_eq, codes, Option, Some, None}
use Rattle.dwarf_entries.specs.declared.fat.FatPair.{FatPair}
use Rattle.dwarf_entries.specs.declared.fat.Member.{Member}

-- the name of a member, and where it lies
pub record Placed : Type 0 where
  pub name : List ℕ
  pub offset : ℕ

abbrev pub placed_of : Member → Placed
placed_of m = record { name = m.name.now; offset = m.offset }

-- the member has this name, and lies there
abbrev pub is_placed : List ℕ → ℕ → Placed → Bool
is_placed name offset m = bytes_eq m.name name && m.offset == offset

-- a pointer with a length, or with a table of methods, by its two members in order
abbrev pub pair_of : Placed → Placed → Option FatPair
pair_of a b =
    if is_placed (codes "data_ptr") 0 a && is_placed (codes "length") 8 b then Some FatPair.Counted
    else if is_placed (codes "pointer") 0 a && is_placed (codes "vtable") 8 b then Some FatPair.WithTable
    else None

abbrev pub is_counted : Option FatPair → Bool
is_counted (Some FatPair.Counted) = true
is_counted _ = false

abbrev pub is_with_table : Option FatPair → Bool
is_with_table (Some FatPair.WithTable) = true
is_with_table _ = false
