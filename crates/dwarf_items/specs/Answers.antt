-- What checks of items answer.
use Rattle.std.specs.Prelude.{◌≡◌, ℕ, Option, Some, None, Result, Ok, Err}
use Rattle.dwarf_entries.specs.Items.{Spot}
use Rattle.dwarf_entries.specs.TextResults.{spot_of}
use Rattle.layout_set.specs.declared.refusal.ReadErr.{ReadErr}

-- this is the rule that is broken first, and where; out of memory says nothing of the items
abbrev pub IsFault : Option (ℕ × Spot) → ReadErr → Type 0
IsFault fault (ReadErr.Refused r) = fault ≡ Some (r.rule, spot_of r)
IsFault fault ReadErr.Memory = Unit {0}

-- no rule is broken, or the answer says which is broken first
abbrev pub Answers : Option (ℕ × Spot) → Result (Unit {0}) ReadErr → Type 0
Answers fault (Ok u) = fault ≡ None
Answers fault (Err e) = IsFault fault e
