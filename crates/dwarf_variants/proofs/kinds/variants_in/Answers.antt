use Rattle.std.proofs.Common.{◌∙◌, ap}
use Rattle.dwarf_variants.specs.Kinds.{of_kind}
use Rattle.dwarf_variants.specs.declared.kinds.Kind.{Kind}
use Rattle.dwarf_variants.proofs.Lists.{kind_below}
use Rattle.dwarf_variants.proofs.kinds.variants_in.Goals as goal

pub returns : goal.returns
returns c = ap (of_kind Kind.Variant) c.children.ensures ∙ kind_below Kind.Variant c.args.part.now
