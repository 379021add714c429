use Rattle.std.proofs.Common.{◌≡◌, drop}
use Rattle.dwarf_items.proofs.Rows.{fault_in}
use Rattle.dwarf_items.proofs.entries.looked_at.Given as goal

-- the attributes so far break no rule
abbrev pub invariant-loop-attribute : goal.invariant-loop-attribute
invariant-loop-attribute l = fault_in l.die l.attribute-items ≡ fault_in l.die (drop l.attribute-index l.attribute-items)
