use Rattle.std.proofs.Common.{◌≤◌, ◌^◌, ◌<◌, lit≤, arith, ℕ}
use Rattle.readers.proofs.DigitWords.{no_text, no_numeral, other_digits}
use Rattle.readers.proofs.decimal.read_decimal.Goals as goal

-- 128 bits are few digits
room : (n : ℕ) → n < 2 ^ 128 → n < 10 ^ 64
room n h = let wide : 2 ^ 128 ≤ 10 ^ 64 = lit≤ tt in omega arith

pub returns-in_default : goal.returns-in_default
returns-in_default c = λ n l e. no_text 10 (lit≤ tt) (lit≤ tt) c.args.word.now n c.in_default.ensures.cases.0 (room n l) e

pub returns-in_default-from_str_radix : goal.returns-in_default-from_str_radix
returns-in_default-from_str_radix c =
    let text = rw c.in-Ok.ensures.cases.0 at c.in_default-from_str_radix.ensures.value in
    λ n l e. no_numeral 10 (lit≤ tt) (lit≤ tt) 128 c.args.word.now n text (room n l) l e

pub returns-else-are_digits : goal.returns-else-are_digits
returns-else-are_digits c =
    let read = rw c.in-Ok.ensures.cases.0 at c.in-Ok-from_str_radix.ensures.value in
    λ n l e. other_digits 10 (lit≤ tt) (lit≤ tt) c.args.word.now c.in-Ok-from_str_radix.n n read.1
    (λ d. let no = c.if-are_digits.ensures in let yes = c.are_digits.ensures.1 d in cc) (room n l) e
