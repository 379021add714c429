-- The rule of entries, by its number.
use Rattle.std.specs.Prelude.{ℕ}

-- the kind of an entry is none of those that are read: DWARF 5, 7.7.3 and 7.25
abbrev pub unknown_kind : ℕ
unknown_kind = 38
