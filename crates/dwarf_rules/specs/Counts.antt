-- How many types, parts and variables some entries add to the set.
use Rattle.std.specs.Prelude.{◌≡◌, ◌≤◌, ◌^◌, ℕ, ◌+◌, ◌||◌, nat_lt, Bool, false, if◌then◌else◌, List, sum_by, Option, Some, None}
use Rattle.dwarf_entries.specs.Counts.{parts_of, types_of, variables_of}
use Rattle.dwarf_entries.specs.Dies.{Die, Info}
use Rattle.dwarf_entries.specs.PassC.{entry_rule}
use Rattle.dwarf_entries.specs.Rules.{too_many}
use Rattle.dwarf_rules.specs.declared.counts.Counts.{Counts}

-- those of one entry
abbrev pub counts_of : Info → Die → Counts
counts_of info d = record { types = types_of info d; parts = parts_of info d; variables = variables_of info d }

-- those of some entries
abbrev pub counts_among : Info → List Die → Counts
counts_among info l = record { types = sum_by (types_of info) l; parts = sum_by (parts_of info) l; variables = sum_by (variables_of info) l }

-- both together
abbrev pub both_counts : Counts → Counts → Counts
both_counts a b = record { types = a.types + b.types; parts = a.parts + b.parts; variables = a.variables + b.variables }

-- one of them is past its limit
abbrev pub are_past : Counts → Bool
are_past c = nat_lt 1000000 c.types || (nat_lt 4000000 c.parts || nat_lt 1000000 c.variables)

-- the rule that is broken then
abbrev pub limit_rule : Counts → Option ℕ
limit_rule c = if are_past c then Some too_many else None

-- an entry is at most one type and one variable, and its parts are fields that memory holds
pub record AreOfOne (c : Counts) : Type 0 where
  pub types : c.types ≤ 1
  pub parts : c.parts ≤ 2 ^ 63
  pub variables : c.variables ≤ 1

-- the counts with an entry more, which breaks no rule
pub record AreWith (info : Info) (d : Die) (before after : Counts) : Type 0 where
  pub sound : entry_rule info d ≡ None
  pub counts : after ≡ both_counts before (counts_of info d)
  pub within : are_past after ≡ false
