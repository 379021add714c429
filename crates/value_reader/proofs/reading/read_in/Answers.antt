-- What is read and counted at pointers of 8 bytes, which the set has, is the outcome.
use Rattle.std.proofs.Common.{◌∙◌, ◌<◌, sym, subst}
use Rattle.image_view.specs.Places.{part_of}
use Rattle.layout_set.proofs.SizeSteps.{pointer_size}
use Rattle.layout_values.specs.Contexts.{context_at, context_of}
use Rattle.layout_values.specs.Images.{levels}
use Rattle.layout_values.specs.Outcomes.{IsOutcome}
use Rattle.layout_values.specs.Reached.{Nodes}
use Rattle.layout_values.specs.declared.outcome.Outcome.TheVariants as outcomes
use Rattle.rust_value.specs.Held.{value_of}
use Rattle.rust_value.specs.Named.{HasWords}
use Rattle.value_reader.proofs.Exact.{one_value}
use Rattle.value_reader.proofs.Texts.{image_texts}
use Rattle.value_reader.proofs.Whole.{valid_outcome, invalid_outcome, missing_outcome}
use Rattle.value_reader.proofs.reading.read_in.Goals as goal

pub returns-in-Ok-Valid-clause-outcome : goal.returns-in-Ok-Valid-clause-outcome
returns-in-Ok-Valid-clause-outcome c =
    let a = c.args in
    let x = context_at 8 a.set.now a.mem.now a.width in
    let read = sym c.in-Ok-Valid.field-0-is ∙ c.in-Ok-Valid.ensures.0 in
    let whole = valid_outcome x a.depth a.ty (part_of a.image) c.in-Ok-Valid.value c.read.new.self.left read c.in-Ok-Valid.ensures.2 in
    subst (λ y. IsOutcome (context_of a.set.now a.mem.now a.width) a.depth a.ty (part_of a.image) (outcomes.Value y)) (sym c.into_inner.ensures.value)
    (subst (λ ptr. IsOutcome (context_at ptr a.set.now a.mem.now a.width) a.depth a.ty (part_of a.image) (outcomes.Value c.in-Ok-Valid.value))
    (sym (pointer_size a.set.now c.requires.sizes.small)) whole)

pub returns-in-Ok-Valid-clause-only : goal.returns-in-Ok-Valid-clause-only
returns-in-Ok-Valid-clause-only c =
    let a = c.args in
    let x = context_of a.set.now a.mem.now a.width in
    let o = returns-in-Ok-Valid-clause-outcome c in
    λ y i. one_value x (levels a.depth) a.depth a.ty (part_of a.image) y (value_of c.into_inner.result) i o.1

pub returns-in-Ok-Valid-clause-texts : goal.returns-in-Ok-Valid-clause-texts
returns-in-Ok-Valid-clause-texts c =
    let a = c.args in
    let x = context_of a.set.now a.mem.now a.width in
    let o = returns-in-Ok-Valid-clause-outcome c in
    image_texts x (levels a.depth) a.depth a.ty (part_of a.image) (value_of c.into_inner.result) o.1

pub returns-in-Ok-Invalid-clause-outcome : goal.returns-in-Ok-Invalid-clause-outcome
returns-in-Ok-Invalid-clause-outcome c =
    let a = c.args in
    let x = context_at 8 a.set.now a.mem.now a.width in
    let read = sym c.in-Ok-Invalid.field-0-is ∙ c.in-Ok-Invalid.ensures.0 in
    subst (λ ptr. IsOutcome (context_at ptr a.set.now a.mem.now a.width) a.depth a.ty (part_of a.image) outcomes.Invalid)
    (sym (pointer_size a.set.now c.requires.sizes.small)) (invalid_outcome x a.depth a.ty (part_of a.image) c.read.new.self.left read c.in-Ok-Invalid.ensures.2)

pub returns-in-Ok-Missing-clause-outcome : goal.returns-in-Ok-Missing-clause-outcome
returns-in-Ok-Missing-clause-outcome c =
    let a = c.args in
    let x = context_at 8 a.set.now a.mem.now a.width in
    let read = sym c.in-Ok-Missing.field-0-is ∙ c.in-Ok-Missing.ensures.0 in
    subst (λ ptr. IsOutcome (context_at ptr a.set.now a.mem.now a.width) a.depth a.ty (part_of a.image) outcomes.Unavailable)
    (sym (pointer_size a.set.now c.requires.sizes.small)) (missing_outcome x a.depth a.ty (part_of a.image) c.read.new.self.left read c.in-Ok-Missing.ensures.2)

pub returns-in-Ok-Valid-clause-names : goal.returns-in-Ok-Valid-clause-names
returns-in-Ok-Valid-clause-names c = subst HasWords (sym c.into_inner.ensures.value) c.into_inner.ensures.words

pub returns-in-Err-TooLarge-clause-outcome : goal.returns-in-Err-TooLarge-clause-outcome
returns-in-Err-TooLarge-clause-outcome c =
    let a = c.args in
    let x = context_at 8 a.set.now a.mem.now a.width in
    let many : 65536 < Nodes x a.depth a.ty (part_of a.image) = rw c.in-Err-TooLarge.field-0-is at c.in-Err-TooLarge.ensures in
    subst (λ ptr. 65536 < Nodes (context_at ptr a.set.now a.mem.now a.width) a.depth a.ty (part_of a.image))
    (sym (pointer_size a.set.now c.requires.sizes.small)) many
