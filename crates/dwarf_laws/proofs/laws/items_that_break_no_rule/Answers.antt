use Rattle.dwarf_entries.specs.PassB.{pass_b}
use Rattle.dwarf_entries.specs.PassC.{pass_c, entry_rule}
use Rattle.dwarf_entries.specs.Items.{in_info, item_at}
use Rattle.dwarf_laws.proofs.Faults.{back, of_mapped}
use Rattle.dwarf_laws.proofs.Looks.{counts, sizes, words}
use Rattle.dwarf_laws.proofs.laws.items_that_break_no_rule.Goals as goal

pub returns : goal.returns
returns c info h = record {
  words = words info h;
  sizes = sizes info h;
  counts = counts info h;
  rules = λ d o. of_mapped (λ d. item_at (in_info d.entry.offset) (entry_rule info d)) info.dies (back (pass_b info) (pass_c info) h) o.0 d o.1;
}
