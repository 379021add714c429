use Rattle.std.specs.List.{AllWithin}
use Rattle.layout_set.specs.Law4.{EndsWithin}
use Rattle.layout_type_laws.proofs.law_4.fields_end_within.Given as goal

abbrev pub invariant-loop-field : goal.invariant-loop-field
invariant-loop-field l = AllWithin (EndsWithin l.ptr l.types l.most) l.fields 0 l.field-index
