use Rattle.std.proofs.Common.{◌∙◌, ap, sym}
use Rattle.std.proofs.lemmas.Bool.{ne_eqb}
use Rattle.cv_enum_helpers.specs.Digits.{whole_number}
use Rattle.cv_enum_helpers.proofs.Digits.{first_none, first_some, no_text, some_zero, zero_and_more}
use Rattle.cv_enum_helpers.proofs.variant_numbers.whole_number.Goals as goal

pub returns-in_err-first : goal.returns-in_err-first
returns-in_err-first c = c.from_residual.ensures ∙ sym (no_text c.args.text.now c.in_err-first.ensures.cases)

pub returns-then-is_empty : goal.returns-then-is_empty
returns-then-is_empty c =
    sym (ap whole_number c.in_ok-first.ensures.cases.0 ∙ some_zero c.in_ok-first.first.now c.in_ok-first.digits.now c.if-first-eq48.true (sym c.is_empty.ensures ∙ c.if-is_empty.true))

pub returns-else-is_empty : goal.returns-else-is_empty
returns-else-is_empty c =
    sym (ap whole_number c.in_ok-first.ensures.cases.0 ∙ zero_and_more c.in_ok-first.first.now c.in_ok-first.digits.now c.if-first-eq48.true (sym c.is_empty.ensures ∙ c.if-is_empty.false))

pub returns-in_err-number : goal.returns-in_err-number
returns-in_err-number c =
    c.from_residual-in_err-number.ensures
    ∙ sym (ap whole_number c.in_ok-first.ensures.cases.0 ∙ first_none c.in_ok-first.first.now c.in_ok-first.digits.now (ne_eqb c.in_ok-first.first.now 48 c.if-first-eq48.false) (sym c.in_err-number.was ∙ c.grown.ensures))

pub returns : goal.returns
returns c =
    c.with_digits.ensures
    ∙ sym (ap whole_number c.in_ok-first.ensures.cases.0 ∙ first_some c.in_ok-first.first.now c.in_ok-number.number c.in_ok-first.digits.now (ne_eqb c.in_ok-first.first.now 48 c.if-first-eq48.false) (sym c.in_ok-number.was ∙ c.grown.ensures))
