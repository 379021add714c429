use Rattle.std.proofs.Common.{◌∙◌, sym}
use Rattle.dwarf_dies.specs.Views.{die_of}
use Rattle.entry_tables.proofs.SameEntries.{here}
use Rattle.entry_tables.proofs.rows.text_of.Goals as goal

pub put_line-requires : goal.put_line-requires
put_line-requires c = here c.args.dies.now (die_of c.args.dies.now c.loop-number.number) c.in-Some.die c.in-Some.ensures ∙ sym c.in_ok-links.ensures
