use Rattle.std.specs.List.{AllWithin}
use Rattle.layout_set.specs.Law4.{FieldsEndWithin}
use Rattle.layout_type_laws.proofs.law_4.variants_end_within.Given as goal

abbrev pub invariant-loop-variant : goal.invariant-loop-variant
invariant-loop-variant l = AllWithin (λ v. FieldsEndWithin l.ptr l.types l.most v.fields) l.variants 0 l.variant-index
