use Rattle.std.proofs.Common.{◌∙◌, Some, None}
use Rattle.dwarf_entries.specs.Dies.{offset_in}
use Rattle.dwarf_dies.specs.Views.{die_of}
use Rattle.dwarf_dies.proofs.FirstAttributes.{said_by}
use Rattle.dwarf_dies.proofs.dies.Dies.base.Goals as goal

pub returns-in_err-value : goal.returns-in_err-value
returns-in_err-value c = c.from_residual.ensures ∙ said_by offset_in c.args.code None (die_of c.args.self.now c.args.number) c.in_err-value.ensures

pub returns : goal.returns
returns c = c.offset_in.ensures ∙ said_by offset_in c.args.code (Some c.in_ok-value.value) (die_of c.args.self.now c.args.number) c.in_ok-value.ensures
