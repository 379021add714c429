use Rattle.std.proofs.Common.{◌-◌, sym, ap, ◌∙◌, arith, unwrap_or, slice_get}
use Rattle.cv_type_defs.specs.TypeRefs.{Info}
use Rattle.cv_structures.specs.steps.Sizes.{size_at}
use Rattle.cv_structures.proofs.Places.{before, past, simple, size_there}
use Rattle.cv_structures.proofs.sizes.Sizes.below.Goals as goal

pub returns-then-index-lt-FIRST_INDEX : goal.returns-then-index-lt-FIRST_INDEX
returns-then-index-lt-FIRST_INDEX c = c.simple_size.ensures ∙ sym (simple c.args.self.now c.args.place c.args.index c.if-index-lt-FIRST_INDEX.true)

pub returns-then-at-place : goal.returns-then-at-place
returns-then-at-place c =
    c.simple_size-then-at-place.ensures
    ∙ sym (past c.args.self.now c.args.place c.args.index (omega (arith, c.if-index-lt-FIRST_INDEX.false, c.if-at-place.true)))

pub returns : goal.returns
returns c =
    let at = c.args.index - 4096 in
    c.unwrap_or.ensures ∙ ap (λ o. unwrap_or o 0) (c.number_in.ensures ∙ ap (λ l. slice_get l at) c.as_slice.ensures.value)
    ∙ size_there c.self.inside.info.now c.self.inside.sizes.items at c.self.invariant ∙ ap (λ (i : Info). size_at i at) c.self.view_is
    ∙ sym (before c.args.self.now c.args.place c.args.index at (omega (arith, c.if-index-lt-FIRST_INDEX.false)) (omega (arith, c.if-at-place.false)))
