use Rattle.std.proofs.Common.{◌∙◌, ap}
use Rattle.dwarf_entries.specs.Codes.{at_type}
use Rattle.dwarf_entries.specs.Dies.{linked}
use Rattle.dwarf_links.proofs.EndSteps.{end_from, from_link}
use Rattle.dwarf_links.proofs.ends.type_end.Goals as goal

pub loop-at-init : goal.loop-at-init
loop-at-init c = ap (end_from 64) c.linked-at.ensures ∙ from_link 64 c.args.die.now.info (linked c.args.die.now.info at_type c.args.die.now.die)
