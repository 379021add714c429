use Rattle.std.proofs.Common.{◌∙◌, ap, Some, None}
use Rattle.std.specs.Option.{option_map}
use Rattle.dwarf_abbrev.specs.Values.{val_of}
use Rattle.dwarf_dies.specs.Views.{die_of}
use Rattle.dwarf_dies.proofs.FirstAttributes.{value_is}
use Rattle.dwarf_dies.proofs.dies.Dies.value.Goals as goal

pub returns-in_err-attribute : goal.returns-in_err-attribute
returns-in_err-attribute c = ap (option_map val_of) c.from_residual.ensures ∙ value_is c.args.code None (die_of c.args.self.now c.args.number) c.in_err-attribute.ensures

pub returns : goal.returns
returns c = value_is c.args.code (Some c.in_ok-attribute.attribute) (die_of c.args.self.now c.args.number) c.in_ok-attribute.ensures
