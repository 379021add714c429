use Rattle.std.proofs.Common.{◌≡◌, ◌≤◌, ◌^◌, ◌<◌, ◌∙◌, sym, ap, rules, drop, lit≤, arith, ℕ, false}
use Rattle.std.specs.Fmt.{digits}
use Rattle.readers.proofs.DigitWords.{no_text, no_numeral, other_digits}
use Rattle.readers.proofs.hexadecimal.parse_hex.Goals as goal

-- 128 bits are few digits
room : (n : ℕ) → n < 2 ^ 128 → n < 16 ^ 64
room n h = let wide : 2 ^ 128 ≤ 16 ^ 64 = lit≤ tt in omega arith

pub returns-in_default-from_utf8 : goal.returns-in_default-from_utf8
returns-in_default-from_utf8 c =
    let is : c.in-Some.digits.now ≡ drop 2 c.args.word.now = search rules in
    λ n l e. no_text 16 (lit≤ tt) (lit≤ tt) c.in-Some.digits.now n c.in_default-from_utf8.ensures.cases.0 (room n l) (is ∙ ap (drop 2) e)

pub returns-in_default-from_str_radix : goal.returns-in_default-from_str_radix
returns-in_default-from_str_radix c =
    let is : c.in-Some.digits.now ≡ drop 2 c.args.word.now = search rules in
    let text = rw c.in-Ok.ensures.cases.0 at c.in_default-from_str_radix.ensures.value in
    λ n l e. no_numeral 16 (lit≤ tt) (lit≤ tt) 128 c.in-Some.digits.now n text (room n l) l (is ∙ ap (drop 2) e)

pub returns-else-are_digits : goal.returns-else-are_digits
returns-else-are_digits c =
    let is : c.in-Some.digits.now ≡ drop 2 c.args.word.now = search rules in
    let read = rw c.in-Ok.ensures.cases.0 at c.in-Ok-from_str_radix.ensures.value in
    λ n l e. other_digits 16 (lit≤ tt) (lit≤ tt) c.in-Some.digits.now c.in-Ok-from_str_radix.n n read.1
    (λ d. let no = c.if-are_digits.ensures in let yes = c.are_digits.ensures.1 d in cc) (room n l) (is ∙ ap (drop 2) e)
