-- Numbers by their digits.
use Rattle.std.proofs.Common.{◌≡◌, ◌<◌, ◌≤◌, ◌==◌, ◌+◌, ◌-◌, ◌*◌, arith, drop, get_or, length, ℕ, Bool, true, false, cond, ◌&&◌, List, [], ◌∷◌, nat_le, Option, Some, None, refl, sym, ap, ◌∙◌}
use Rattle.std.proofs.Math.ListN.{drop_of_length-le}
use Rattle.std.proofs.lemmas.Bool.Decides.{nat_tests}
use Rattle.std.proofs.lemmas.List.{drop_more}
use Rattle.names.specs.Reading.{bad, digits_after, got, number_at}
use Rattle.names.specs.Words.{is_digit}
use Rattle.cv_type_defs.specs.Texts.{whole_of}
use Rattle.cv_enum_helpers.specs.Digits.{grown_by, whole_after, whole_number}

digit_small : (c : ℕ) → is_digit c ≡ true → nat_le (0 * 10 + (c - 48)) 4294967295 ≡ true
digit_small c e = grind (arith, nat_tests)

abbrev more : Option ℕ → ℕ → List ℕ → Option ℕ
more None most s = None
more (Some n) most s = whole_after most n s

-- one digit more
pub one_digit : (most n c : ℕ) (s : List ℕ) → whole_after most n (c ∷ s) ≡ more (grown_by most n c) most s
unfolding digits_after
one_digit most n c s = by_test (is_digit c && nat_le (n * 10 + (c - 48)) most)
  where
    by_test : (b : Bool) → whole_of (cond b (digits_after most (n * 10 + (c - 48)) s) (got n (c ∷ s))) ≡ more (cond b (Some (n * 10 + (c - 48))) None) most s
    by_test true = refl
    by_test false = refl

-- a digit that is none ends in no number
pub no_digit : (most n c : ℕ) (s : List ℕ) → None ≡ grown_by most n c → whole_after most n (c ∷ s) ≡ None
no_digit most n c s e = one_digit most n c s ∙ ap (λ o. more o most s) (sym e)

pub next_digit : (most n c m : ℕ) (s : List ℕ) → Some m ≡ grown_by most n c → whole_after most n (c ∷ s) ≡ whole_after most m s
next_digit most n c m s e = one_digit most n c s ∙ ap (λ o. more o most s) (sym e)

pub no_digits : (most n : ℕ) → whole_after most n [] ≡ Some n
unfolding digits_after
no_digits most n = refl

-- the same at a place of a text
pub digit_at : (most n m : ℕ) (text : List ℕ) (i : ℕ) → i < length text → Some m ≡ grown_by most n (get_or text i 0) → whole_after most m (drop (i + 1) text) ≡ whole_after most n (drop i text)
digit_at most n m text i h e = sym (ap (whole_after most n) (drop_more text i 0 h) ∙ next_digit most n (get_or text i 0) m (drop (i + 1) text) e)

pub no_digit_at : (most n : ℕ) (text : List ℕ) (i : ℕ) → i < length text → None ≡ grown_by most n (get_or text i 0) → whole_after most n (drop i text) ≡ None
no_digit_at most n text i h e = ap (whole_after most n) (drop_more text i 0 h) ∙ no_digit most n (get_or text i 0) (drop (i + 1) text) e

pub digits_end : (most n : ℕ) (text : List ℕ) (i : ℕ) → length text ≤ i → whole_after most n (drop i text) ≡ Some n
digits_end most n text i h = ap (whole_after most n) (drop_of_length-le text h) ∙ no_digits most n

-- no number is without digits
pub empty_whole : whole_number [] ≡ None
unfolding number_at
empty_whole = refl

-- a zero stands alone
pub zero_whole : whole_number (48 ∷ []) ≡ Some 0
unfolding number_at
zero_whole = refl

pub zero_more : (c : ℕ) (s : List ℕ) → whole_number (48 ∷ c ∷ s) ≡ None
unfolding number_at
zero_more c s = refl

-- every other digit begins a number
pub first_digit : (c : ℕ) (s : List ℕ) → (c == 48) ≡ false → whole_number (c ∷ s) ≡ more (grown_by 4294967295 0 c) 4294967295 s
unfolding number_at
first_digit c s other =
    ap (λ b. whole_of (cond (is_digit c) (cond b (got 0 s) (digits_after 4294967295 (c - 48) s)) (bad (c ∷ s)))) other
    ∙ by_digit (is_digit c) (digit_small c)
  where
    none : 0 * 10 + (c - 48) ≡ c - 48
    none = omega arith

    by_digit : (b : Bool) → (b ≡ true → nat_le (0 * 10 + (c - 48)) 4294967295 ≡ true)
        → whole_of (cond b (digits_after 4294967295 (c - 48) s) (bad (c ∷ s))) ≡ more (cond (b && nat_le (0 * 10 + (c - 48)) 4294967295) (Some (0 * 10 + (c - 48))) None) 4294967295 s
    by_digit false small = refl
    by_digit true small =
        ap (λ n. whole_after 4294967295 n s) (sym none)
        ∙ sym (ap (λ b. more (cond b (Some (0 * 10 + (c - 48))) None) 4294967295 s) (small refl))

pub first_none : (c : ℕ) (s : List ℕ) → (c == 48) ≡ false → None ≡ grown_by 4294967295 0 c → whole_number (c ∷ s) ≡ None
first_none c s other e = first_digit c s other ∙ ap (λ o. more o 4294967295 s) (sym e)

pub first_some : (c m : ℕ) (s : List ℕ) → (c == 48) ≡ false → Some m ≡ grown_by 4294967295 0 c → whole_number (c ∷ s) ≡ whole_after 4294967295 m s
first_some c m s other e = first_digit c s other ∙ ap (λ o. more o 4294967295 s) (sym e)

pub no_text : (text : List ℕ) → length text ≡ 0 → whole_number text ≡ None
no_text [] e = empty_whole
no_text (c ∷ s) e = absurd (omega (arith, e))

pub some_zero : (c : ℕ) (digits : List ℕ) → c ≡ 48 → (length digits == 0) ≡ true → whole_number (c ∷ digits) ≡ Some 0
some_zero c [] is none = ap (λ x. whole_number (x ∷ [])) is ∙ zero_whole
some_zero c (d ∷ s) is none = absurd (grind (arith, nat_tests))

pub zero_and_more : (c : ℕ) (digits : List ℕ) → c ≡ 48 → (length digits == 0) ≡ false → whole_number (c ∷ digits) ≡ None
zero_and_more c [] is some = absurd (cc)
zero_and_more c (d ∷ s) is some = ap (λ x. whole_number (x ∷ d ∷ s)) is ∙ zero_more d s
