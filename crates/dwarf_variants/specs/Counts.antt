-- How many variants a part has.
use Rattle.std.specs.Prelude.{ℕ, nat_lt, not, min, Bool, List, length, count_by}
use Rattle.std.specs.List.{list_any}
use Rattle.dwarf_entries.specs.Dies.{Die, Info}
use Rattle.dwarf_entries.specs.Enums.{is_listed, variants_in}

-- there are more than one
abbrev pub are_many : List Die → Bool
are_many l = nat_lt 1 (length l)

-- a variant of the part lists a number
abbrev pub is_any_listed : Info → Die → Bool
is_any_listed info part = list_any is_listed (variants_in info part)

-- how many variants of the part list no number; 2 stands for more
abbrev pub unlisted_in : Info → Die → ℕ
unlisted_in info part = min (count_by (λ v. not (is_listed v)) (variants_in info part)) 2

-- a variant of the part lists no number
abbrev pub has_default : Info → Die → Bool
has_default info part = nat_lt 0 (count_by (λ v. not (is_listed v)) (variants_in info part))
