use Rattle.std.specs.List.{AllWithin}
use Rattle.layout_set.specs.Overlap.{AreApart, spans_of}
use Rattle.layout_type_laws.proofs.law_7.variants_apart.Given as goal

abbrev pub invariant-loop-variant : goal.invariant-loop-variant
invariant-loop-variant l = AllWithin (λ v. AreApart (spans_of l.ptr l.types v.fields)) l.variants 0 l.variant-index
