use Rattle.std.proofs.Common.{◌≡◌, ◌↔◌, IsTrue}
use Rattle.std.specs.List.{AllWithin}
use Rattle.layout_set.specs.declared.set.Selector.TheVariants.{Only}
use Rattle.layout_type_laws.proofs.law_5.all_only.Given as goal

abbrev pub invariant-loop-variant : goal.invariant-loop-variant
invariant-loop-variant l = AllWithin (λ v. (v.sel ≡ Only) ↔ IsTrue l.only) l.variants 0 l.variant-index
