use Rattle.std.proofs.Common.{◌≡◌, ◌∙◌, sym, subst, arith, ◌<◌, ◌^◌}
use Rattle.layout_words.proofs.Decimals.{number_some, number_of_none, number_too_large, no_bits, some_bits}
use Rattle.layout_words.proofs.numbers.number_of.Goals as goal
use Rattle.layout_words.proofs.numbers.number_of.Goals.{else-bits-lt128-via-then-bits-lt128+else-n-bits-ne0, else-bits-lt128-via-else-bits-lt128}

pub returns-in_err-n : goal.returns-in_err-n
returns-in_err-n c = c.from_residual.ensures ∙ sym (number_of_none c.args.bits c.args.word.now c.requires c.in_err-n.ensures)

pub returns-then-n-bits-ne0 : goal.returns-then-n-bits-ne0
returns-then-n-bits-ne0 c = sym (number_too_large c.args.bits c.args.word.now c.in_ok-n.n c.requires c.in_ok-n.ensures (some_bits c.in_ok-n.n c.args.bits c.if-n-bits-ne0.true))

pub returns : goal.returns
returns c =
    let below : c.in_ok-n.n < 2 ^ c.args.bits = elim c.else-bits-lt128.branch [
      | else-bits-lt128-via-then-bits-lt128+else-n-bits-ne0 w ↦ no_bits c.in_ok-n.n c.args.bits w.if-n-bits-ne0.false
      | else-bits-lt128-via-else-bits-lt128 w ↦ let all : 128 ≡ c.args.bits = omega (arith, c.requires, w.if-bits-lt128.false) in subst (λ b. c.in_ok-n.n < 2 ^ b) all (c.in_ok-n.ensures).0
    ] in
    sym (number_some c.args.bits c.args.word.now c.in_ok-n.n c.requires below (c.in_ok-n.ensures).1)
