use Rattle.std.proofs.Common.{◌≡◌}
use Rattle.dwarf_entries.specs.Items.{first_fault}
use Rattle.dwarf_entries.specs.PassB.{pass_b}
use Rattle.dwarf_items.proofs.PartLists.{AreLeft}
use Rattle.dwarf_items.proofs.Rows.{fault_among}
use Rattle.dwarf_items.proofs.entries.check_attributes.Given as goal

-- the entries so far break no rule, and those to come are of the same section
abbrev pub invariant-loop-die : goal.invariant-loop-die
invariant-loop-die l = (first_fault (pass_b l.fn.dies) ≡ fault_among l.die-iterator) × AreLeft l.fn.dies l.die-iterator
