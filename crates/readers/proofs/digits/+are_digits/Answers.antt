use Rattle.std.proofs.Common.{◌∙◌, sym, arith}
use Rattle.readers.proofs.LastDigit.{not_empty, not_last, single_digit, more_digits}
use Rattle.readers.proofs.digits.+are_digits.Goals as goal

pub returns-in_default : goal.returns-in_default
returns-in_default t c = (λ e. absurd (cc), λ e. absurd (not_empty c.args.base c.args.text.now c.args.n (omega (arith, c.requires.low)) c.requires.room c.in_default.ensures.cases e))

pub returns-then-last-digit : goal.returns-then-last-digit
returns-then-last-digit t c = (λ e. absurd (cc), λ e. absurd (not_last c.args.base c.args.text.now c.in-Some.front.now c.in-Some.last.now c.args.n (omega (arith, c.requires.low)) c.requires.room c.in-Some.ensures.cases.0 (λ d. c.if-last-digit.true (d ∙ sym c.digit.ensures)) e))

pub returns-then-n-base : goal.returns-then-n-base
returns-then-n-base t c = single_digit c.args.base c.args.text.now c.in-Some.front.now c.in-Some.last.now c.args.n c.is_empty.result c.if-n-base.true c.in-Some.ensures.cases.0 (c.if-last-digit.false ∙ c.digit.ensures) c.is_empty.ensures

pub returns-else-n-base : goal.returns-else-n-base
returns-else-n-base t c = more_digits c.args.base c.args.text.now c.in-Some.front.now c.in-Some.last.now c.args.n c.are_digits.result (omega (arith, c.requires.low)) c.if-n-base.false c.requires.room c.in-Some.ensures.cases.0 (c.if-last-digit.false ∙ c.digit.ensures) c.are_digits.ensures
