use Rattle.std.proofs.Common.{◌∙◌}
use Rattle.dwarf_dies.specs.Views.{die_of}
use Rattle.dwarf_dies.proofs.Parents.{no_bases, found_bases}
use Rattle.dwarf_dies.proofs.dies.Dies.bases.Goals as goal

pub returns-in_err-offset : goal.returns-in_err-offset
returns-in_err-offset c = c.from_residual.ensures ∙ no_bases (die_of c.args.self.now c.args.number) c.in_err-offset.ensures

pub returns : goal.returns
returns c =
    found_bases c.args.self.now c.args.number c.root-root.result c.base-text_offsets.result c.base-addrs.result c.in_ok-offset.field-0 c.in_ok-offset.ensures
    c.root-root.ensures.bases c.root-root.ensures.root c.base-text_offsets.ensures c.base-addrs.ensures
