use Rattle.std.specs.List.{AllWithin}
use Rattle.layout_set.specs.Law5.{SelectorFits}
use Rattle.layout_type_laws.proofs.law_5.selectors_fit.Given as goal

abbrev pub invariant-loop-variant : goal.invariant-loop-variant
invariant-loop-variant l = AllWithin (λ v. SelectorFits 8 l.tag v.sel) l.variants 0 l.variant-index
