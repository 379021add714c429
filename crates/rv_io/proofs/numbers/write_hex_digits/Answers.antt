use Rattle.std.proofs.Common.{◌≡◌, ◌∙◌, ◌+◌, ◌-◌, ◌<◌, arith, false, append_assoc}
use Rattle.std.specs.Fmt.{digits}
use Rattle.std.proofs.lemmas.List.{drop-set, drop_all, length-set, append-nil}
use Rattle.std.proofs.Math.Nat.{mod-eq_of_lt}
use Rattle.rv_io.proofs.Digits.{digits_step, one_digit, fewer_digits}
use Rattle.rv_io.proofs.numbers.write_hex_digits.Goals as goal

pub loop-left-init : goal.loop-left-init
loop-left-init c = (omega arith, omega arith, omega arith, omega arith, rw (drop_all 18 c.args.text.now (omega arith)) (append-nil (digits 16 false c.args.number)))

pub loop-left-preserved : goal.loop-left-preserved
loop-left-preserved c =
    let l = c.loop-left in
    let few = fewer_digits l.left l.at c.loop-left-test.true l.invariant.3 l.invariant.0 in
    let e : l.at - 1 + 1 ≡ l.at = omega arith in
    let size = length-set l.text l.at c.hex_digit.result in (
      omega (arith, few.0),
      omega arith,
      size ∙ l.invariant.2,
      few.1,
      rw (e, drop-set l.text l.at c.hex_digit.result (omega arith), c.hex_digit.ensures)
          (rw (digits_step 16 l.left (omega arith) c.loop-left-test.true (omega arith), append_assoc) at l.invariant.4),
    )

pub returns-clause-written : goal.returns-clause-written
returns-clause-written c =
    let l = c.loop-left in
    let small : l.left < 16 = c.loop-left-test.false in
    rw (drop-set l.text l.at c.hex_digit-2.result (omega arith), c.hex_digit-2.ensures)
    (rw (one_digit 16 l.left small, mod-eq_of_lt small) at l.invariant.4)
