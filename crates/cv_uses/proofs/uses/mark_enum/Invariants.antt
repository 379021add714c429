use Rattle.std.proofs.Common.{◌≡◌}
use Rattle.cv_type_defs.specs.FieldLists.{members_of}
use Rattle.cv_uses.specs.Marks.{with_marks}
use Rattle.cv_uses.specs.Places.{enum_uses, uses_of_variants}
use Rattle.cv_uses.proofs.uses.mark_enum.Given as goal

-- the marks with those of the variants that are left are all
abbrev pub invariant-loop-variant : goal.invariant-loop-variant
invariant-loop-variant l =
    with_marks l.marks (uses_of_variants l.links l.name l.variant-iterator) ≡ with_marks l.initial.marks (enum_uses l.links l.name (members_of l.links l.place l.fields))
