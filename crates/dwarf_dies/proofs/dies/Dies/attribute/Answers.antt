use Rattle.std.proofs.Common.{◌∙◌, ap}
use Rattle.std.specs.Option.{option_map}
use Rattle.dwarf_dies.specs.Attributes.{attribute_kept}
use Rattle.dwarf_dies.specs.Views.{die_of}
use Rattle.dwarf_dies.proofs.FirstAttributes.{first_is, no_first}
use Rattle.dwarf_dies.proofs.dies.Dies.attribute.Goals as goal

pub returns-in_err-attributes : goal.returns-in_err-attributes
returns-in_err-attributes c = ap (option_map attribute_kept) c.from_residual.ensures ∙ no_first c.args.code (die_of c.args.self.now c.args.number) c.in_err-attributes.ensures

pub returns : goal.returns
returns c = first_is c.args.code c.in_ok-attributes.field-0 c.find.result (die_of c.args.self.now c.args.number) c.in_ok-attributes.ensures c.find.ensures
