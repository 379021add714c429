use Rattle.std.proofs.Common.{◌≡◌, take}
use Rattle.layout_set.specs.Overlap.{spans_of}
use Rattle.layout_type_laws.proofs.law_7.spans_of.Given as goal

abbrev pub invariant-loop-field : goal.invariant-loop-field
invariant-loop-field l = l.found.items ≡ spans_of l.ptr l.types (take l.field-index l.fields)
