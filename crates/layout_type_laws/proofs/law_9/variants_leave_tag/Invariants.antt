use Rattle.std.specs.List.{AllWithin}
use Rattle.layout_set.specs.Law9.{FieldsLeaveTag}
use Rattle.layout_type_laws.proofs.law_9.variants_leave_tag.Given as goal

abbrev pub invariant-loop-variant : goal.invariant-loop-variant
invariant-loop-variant l = AllWithin (λ v. FieldsLeaveTag l.ptr l.types l.tag v.sel v.fields) l.variants 0 l.variant-index
