-- The number between bounds that a word spells.
use Rattle.std.proofs.Common.{◌≡◌, ◌≢◌, ◌∙◌, sym, ap, subst, refl, ℕ, ◌<◌, ◌≤◌, ◌^◌, ◌&&◌, List, Option, Some, None, nat_le, arith, lit≤}
use Rattle.std.proofs.lemmas.Bool.{le-leb, leb-true}
use Rattle.std.proofs.lemmas.Slice.Eq.{bytes_eq-Decides}
use Rattle.std.proofs.lemmas.Option.{cond_some}
use Rattle.std.specs.Fmt.{decimal}
use Rattle.std.specs.Str.{bytes_eq}
use Rattle.std.specs.Str.Parse.{digits_value}
use Rattle.readers.proofs.HexWords.{both}
use Rattle.layout_words.proofs.Decimals.{numeral, one_decimal}
use Rattle.dbg_command.specs.Forms.{number_from}

pub number_some : (least most : ℕ) (word : List ℕ) (n : ℕ) → least ≤ n → n ≤ most → (n < 2 ^ 128) × (word ≡ decimal n) → Some n ≡ number_from least most word
unfolding number_from
number_some least most word n l k spelled =
    let value = (numeral 128 n (lit≤ tt) spelled.0).1 in
    let same = (bytes_eq-Decides (decimal n) (decimal n)).1 refl in
    rw (spelled.1, value, le-leb least n l, le-leb n most k, same) refl

number_says : (least most : ℕ) (word : List ℕ) (n : ℕ) → number_from least most word ≡ Some n → (least ≤ n) × (n ≤ most) × (word ≡ decimal n)
unfolding number_from
number_says least most word n e =
    let m = digits_value 10 word in
    let at = cond_some (nat_le least m && nat_le m most && bytes_eq word (decimal m)) m n e in
    let parts = both (nat_le least m && nat_le m most) (bytes_eq word (decimal m)) at.0 in
    let bounds = both (nat_le least m) (nat_le m most) parts.0 in
    (subst (λ k. least ≤ k) at.1 (leb-true least m bounds.0), subst (λ k. k ≤ most) at.1 (leb-true m most bounds.1), (bytes_eq-Decides word (decimal m)).0 parts.1 ∙ ap decimal at.1)

none_by : (least most : ℕ) (word : List ℕ) → ((n : ℕ) → least ≤ n → n ≤ most → word ≢ decimal n) → (o : Option ℕ) → number_from least most word ≡ o → None ≡ number_from least most word
none_by least most word h None e = sym e
none_by least most word h (Some n) e = let known = number_says least most word n e in absurd (h n known.0 known.1 known.2)

number_none : (least most : ℕ) (word : List ℕ) → ((n : ℕ) → least ≤ n → n ≤ most → word ≢ decimal n) → None ≡ number_from least most word
number_none least most word h = none_by least most word h (number_from least most word) refl

-- a word that spells no number of 128 bits
pub number_of_none : (least most : ℕ) (word : List ℕ) → most < 2 ^ 32 → ((n : ℕ) → n < 2 ^ 128 → word ≢ decimal n) → None ≡ number_from least most word
number_of_none least most word small none =
    let wide : 2 ^ 32 ≤ 2 ^ 128 = lit≤ tt in
    number_none least most word (λ n l k. none n (omega arith))

-- a number below or above the bounds
pub number_outside : (least most : ℕ) (word : List ℕ) (n : ℕ) → most < 2 ^ 32 → (n < 2 ^ 128) × (word ≡ decimal n) → ¬ ((least ≤ n) × (n ≤ most)) → None ≡ number_from least most word
number_outside least most word n small spelled out =
    let wide : 2 ^ 32 ≤ 2 ^ 128 = lit≤ tt in
    number_none least most word (λ m l k e.
    let same : m ≡ n = one_decimal 128 m n (lit≤ tt) (omega arith) spelled.0 (sym e ∙ spelled.1) in
    out (subst (λ x. least ≤ x) same l, subst (λ x. x ≤ most) same k))
