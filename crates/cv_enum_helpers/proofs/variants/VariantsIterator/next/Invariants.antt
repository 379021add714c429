use Rattle.std.specs.Prelude.{◌≡◌, length}
use Rattle.cv_enum_helpers.specs.Variants.{variants_among}
use Rattle.cv_enum_helpers.proofs.variants.VariantsIterator.next.Given as goal

-- no variant was passed over
abbrev pub invariant-loop-field : goal.invariant-loop-field
invariant-loop-field l = variants_among l.self-inside.fields ≡ variants_among l.initial.self-inside.fields

abbrev pub decreases-loop-field : goal.decreases-loop-field
decreases-loop-field l = length l.self-inside.fields
