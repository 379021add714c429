use Rattle.std.specs.List.{AllWithin}
use Rattle.layout_set.specs.Law9.{LeavesTag}
use Rattle.layout_type_laws.proofs.law_9.all_leave_tag.Given as goal

abbrev pub invariant-loop-field : goal.invariant-loop-field
invariant-loop-field l = AllWithin (LeavesTag l.ptr l.types l.tag) l.fields 0 l.field-index
