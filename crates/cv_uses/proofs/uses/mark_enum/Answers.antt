use Rattle.std.proofs.Common.{Bool, List, ap, sym, ◌∙◌}
use Rattle.cv_type_defs.specs.Unions.{VariantField}
use Rattle.cv_uses.proofs.Marked.{marks_on}
use Rattle.cv_uses.specs.Marks.{with_marks}
use Rattle.cv_uses.specs.Places.{uses_of_variants, variant_uses}
use Rattle.cv_uses.proofs.uses.mark_enum.Goals as goal

pub loop-variant-preserved : goal.loop-variant-preserved
loop-variant-preserved c =
    let records = c.args.links.now in
    let name = c.args.name.now in
    let marks = c.loop-variant.marks in
    let rest = c.next.new.self in
    ap (λ (m : List Bool). with_marks m (uses_of_variants records name rest)) c.mark_variant.ensures
    ∙ sym (marks_on marks (variant_uses records name c.in-Some.variant) (uses_of_variants records name rest))
    ∙ ap (λ (l : List VariantField). with_marks marks (uses_of_variants records name l)) (sym c.in-Some.ensures.steps) ∙ c.loop-variant.invariant
