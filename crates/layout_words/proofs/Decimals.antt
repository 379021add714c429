-- The number that a word spells in decimal.
use Rattle.std.proofs.Common.{◌≡◌, ◌≢◌, ◌∙◌, sym, ap, subst, refl, ℕ, ◌<◌, ◌≤◌, ◌^◌, ◌/◌, ◌+◌, ◌*◌, ◌&&◌, List, Option, Some, None, nat_lt, arith, lit≤, ⊎_elim}
use Rattle.std.proofs.lemmas.Bool.{lt-ltb, ltb-true, cases_lt}
use Rattle.std.proofs.lemmas.Slice.Eq.{bytes_eq-Decides}
use Rattle.std.proofs.lemmas.Fmt.{decimal_is_IsNumeral_wide}
use Rattle.std.proofs.lemmas.Option.{cond_some}
use Rattle.std.proofs.Math.Nat.{pow-le-pow_right, div-eq_of_lt, lt-div-mul-add}
use Rattle.std.proofs.lemmas.Nat.{pow_pos}
use Rattle.std.specs.Fmt.{decimal}
use Rattle.std.specs.Str.{bytes_eq}
use Rattle.std.specs.Str.Parse.{digits_value, IsNumeral}
use Rattle.readers.proofs.HexWords.{both}
use Rattle.layout_words.specs.Spellings.{number_of}

-- the digits of a number of at most 128 bits
pub numeral : (bits n : ℕ) → bits ≤ 128 → n < 2 ^ bits → IsNumeral 10 (decimal n) × (digits_value 10 (decimal n) ≡ n)
numeral bits n h l =
    let wide : 2 ^ bits ≤ 2 ^ 128 = pow-le-pow_right {n = 2} (lit≤ tt) h in
    let most : 2 ^ 128 ≤ 10 ^ 64 = lit≤ tt in
    decimal_is_IsNumeral_wide n (omega arith)

pub number_some : (bits : ℕ) (text : List ℕ) (n : ℕ) → bits ≤ 128 → n < 2 ^ bits → text ≡ decimal n → number_of bits text ≡ Some n
unfolding number_of
number_some bits text n h l e =
    let value = (numeral bits n h l).1 in
    let same = (bytes_eq-Decides (decimal n) (decimal n)).1 refl in
    rw (e, value, lt-ltb n (2 ^ bits) l, same) refl

pub number_says : (bits : ℕ) (text : List ℕ) (n : ℕ) → number_of bits text ≡ Some n → (n < 2 ^ bits) × (text ≡ decimal n)
unfolding number_of
number_says bits text n e =
    let m = digits_value 10 text in
    let test = nat_lt m (2 ^ bits) && bytes_eq text (decimal m) in
    let at = cond_some test m n e in
    let parts = both (nat_lt m (2 ^ bits)) (bytes_eq text (decimal m)) at.0 in
    (subst (λ k. k < 2 ^ bits) at.1 (ltb-true m (2 ^ bits) parts.0), (bytes_eq-Decides text (decimal m)).0 parts.1 ∙ ap decimal at.1)

number_none_by : (bits : ℕ) (text : List ℕ) → ((n : ℕ) → n < 2 ^ bits → text ≢ decimal n) → (o : Option ℕ) → number_of bits text ≡ o → number_of bits text ≡ None
number_none_by bits text h None e = e
number_none_by bits text h (Some n) e = let known = number_says bits text n e in absurd (h n known.0 known.1)

pub number_none : (bits : ℕ) (text : List ℕ) → ((n : ℕ) → n < 2 ^ bits → text ≢ decimal n) → number_of bits text ≡ None
number_none bits text h = number_none_by bits text h (number_of bits text) refl

-- no word spells two numbers
pub one_decimal : (bits m n : ℕ) → bits ≤ 128 → m < 2 ^ bits → n < 2 ^ bits → decimal m ≡ decimal n → m ≡ n
one_decimal bits m n h l k e = sym (numeral bits m h l).1 ∙ ap (digits_value 10) e ∙ (numeral bits n h k).1

-- a number of 128 bits that is too large
pub number_too_large : (bits : ℕ) (text : List ℕ) (n : ℕ) → bits ≤ 128 → (n < 2 ^ 128) × (text ≡ decimal n) → 2 ^ bits ≤ n → number_of bits text ≡ None
number_too_large bits text n h spelled large =
    let wide : 2 ^ bits ≤ 2 ^ 128 = pow-le-pow_right {n = 2} (lit≤ tt) h in
    number_none bits text (λ m l e.
    let same = one_decimal 128 m n (lit≤ tt) (omega arith) spelled.0 (sym e ∙ spelled.1) in
    omega arith)

-- a word that spells no number of 128 bits
pub number_of_none : (bits : ℕ) (text : List ℕ) → bits ≤ 128 → ((n : ℕ) → n < 2 ^ 128 → text ≢ decimal n) → number_of bits text ≡ None
number_of_none bits text h none =
    let wide : 2 ^ bits ≤ 2 ^ 128 = pow-le-pow_right {n = 2} (lit≤ tt) h in
    number_none bits text (λ n l. none n (omega arith))

-- the bits past the first ones are none exactly where the number is below their power
pub no_bits : (n bits : ℕ) → n / 2 ^ bits ≡ 0 → n < 2 ^ bits
no_bits n bits e = let below = lt-div-mul-add {a = n} {b = 2 ^ bits} (pow_pos bits) in
    let first : n < 0 * 2 ^ bits + 2 ^ bits = subst (λ q. n < q * 2 ^ bits + 2 ^ bits) e below in
    omega (arith, first)

pub some_bits : (n bits : ℕ) → (n / 2 ^ bits ≡ 0 → ⊥) → 2 ^ bits ≤ n
some_bits n bits h = ⊎_elim (λ (l : n < 2 ^ bits). absurd (h (div-eq_of_lt l))) (λ (l : 2 ^ bits ≤ n). l) (cases_lt n (2 ^ bits))
