-- The numbers of the rules that records may break.
use Rattle.std.specs.Prelude.{ℕ}

-- the first four bytes of a section aren't the number 4
abbrev pub wrong_signature : ℕ
wrong_signature = 50

-- a record has no room for its kind
abbrev pub no_kind : ℕ
no_kind = 51

-- the leaf of a member is unknown
abbrev pub unknown_member : ℕ
unknown_member = 52
