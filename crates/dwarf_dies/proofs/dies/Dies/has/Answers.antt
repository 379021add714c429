use Rattle.std.proofs.Common.{◌∙◌}
use Rattle.dwarf_dies.specs.Views.{die_of}
use Rattle.dwarf_dies.proofs.FirstAttributes.{has_is}
use Rattle.dwarf_dies.proofs.dies.Dies.has.Goals as goal

pub returns : goal.returns
returns c = c.is_some.ensures ∙ has_is c.args.code c.attribute.result (die_of c.args.self.now c.args.number) c.attribute.ensures
