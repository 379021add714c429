use Rattle.std.proofs.Common.{◌∙◌}
use Rattle.dwarf_entries.specs.Dies.{parent_of}
use Rattle.entry_tables.proofs.SameEntries.{here}
use Rattle.entry_tables.proofs.enums.put_variant.Goals as goal

pub put_selector-requires : goal.put_selector-requires
put_selector-requires c = let a = c.args.die.now in here a.info (parent_of a.die) c.in-Some.part c.in-Some.ensures ∙ c.requires
