use Rattle.std.proofs.Common.{◌∙◌, sym}
use Rattle.cv_enum_helpers.proofs.Digits.{digit_at, digits_end, no_digit_at}
use Rattle.cv_enum_helpers.proofs.variant_numbers.with_digits.Goals as goal

pub returns-in_err-number : goal.returns-in_err-number
returns-in_err-number c =
    c.from_residual.ensures
    ∙ sym (no_digit_at 4294967295 c.loop-c.number c.args.digits.now c.loop-c.c-index c.loop-c-test.true (sym c.in_err-number.was ∙ c.grown.ensures)) ∙ c.loop-c.invariant

pub loop-c-preserved : goal.loop-c-preserved
loop-c-preserved c =
    digit_at 4294967295 c.loop-c.number c.in_ok-number.number c.args.digits.now c.loop-c.c-index c.loop-c-test.true (sym c.in_ok-number.was ∙ c.grown.ensures)
    ∙ c.loop-c.invariant

pub returns : goal.returns
returns c = sym (digits_end 4294967295 c.loop-c.number c.args.digits.now c.loop-c.c-index c.loop-c-test.false) ∙ c.loop-c.invariant
