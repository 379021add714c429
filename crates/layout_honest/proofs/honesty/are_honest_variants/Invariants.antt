use Rattle.std.proofs.Common.{◌≡◌, true, take}
use Rattle.std.specs.List.{list_all}
use Rattle.layout_honest.specs.Lies.{honest_selector}
use Rattle.layout_honest.proofs.honesty.are_honest_variants.Given as goal

abbrev pub invariant-loop-variant : goal.invariant-loop-variant
invariant-loop-variant l = list_all (λ v. honest_selector 8 l.types l.tag v.sel v.fields) (take l.variant-index l.variants) ≡ true
