-- Which texts end with `>`.
use Rattle.std.proofs.Common.{◌≡◌, ℕ, zero, suc, ◌+◌, ◌==◌, ◌/◌, ◌%◌, ◌∙◌, nat_lt, List, [], ◌∷◌, ◌++◌, length, Bool, true, false, if◌then◌else◌, refl, ap, arith, codes, length-append}
use Rattle.std.specs.Fmt.{decimal, digits, digits_onto, digit_glyph}
use Rattle.std.proofs.lemmas.Grind.{common_steps}
use Rattle.std.proofs.lemmas.Bool.Decides.{nat_tests}
use Rattle.type_names.specs.CvText.{closed, ends_closed}

-- only the last bytes count
pub ends_with : (a b : List ℕ) (c : ℕ) → ends_closed (a ++ (c ∷ b)) ≡ ends_closed (c ∷ b)
ends_with [] b c = refl
ends_with (x ∷ []) b c = refl
ends_with (x ∷ y ∷ a) b c = ends_with (y ∷ a) b c

-- a text that does not end with `>` changes nothing before another
pub after_open : (a x : List ℕ) → ends_closed a ≡ false → ends_closed (a ++ x) ≡ ends_closed x
after_open a [] e = ap ends_closed (let f : a ++ [] ≡ a = grind (arith, common_steps) in f) ∙ e
after_open a (c ∷ b) e = ends_with a b c

pub closed_closes : (x : List ℕ) → ends_closed (closed x) ≡ true
closed_closes x = by_test (ends_closed x)
  where
    by_test : (b : Bool) → ends_closed (x ++ (if b then codes " >" else codes ">")) ≡ true
    by_test true = ends_with x (62 ∷ []) 32
    by_test false = ends_with x [] 62

pub closed_len : (x : List ℕ) → length (closed x) ≡ (if ends_closed x then 2 else 1) + length x
closed_len x = by_test (ends_closed x)
  where
    by_test : (b : Bool) → length (x ++ (if b then codes " >" else codes ">")) ≡ (if b then 2 else 1) + length x
    by_test true = grind (arith, common_steps, length-append)
    by_test false = grind (arith, common_steps, length-append)

glyph_open : (d : ℕ) → (digit_glyph false d == 62) ≡ false
glyph_open d = by_test (nat_lt d 10) refl
  where
    by_test : (b : Bool) → nat_lt d 10 ≡ b → ((if b then 48 + d else 87 + d) == 62) ≡ false
    by_test true e = grind (arith, nat_tests, e)
    by_test false e = grind (arith, nat_tests, e)

push_open : (g : ℕ) (acc : List ℕ) → (g == 62) ≡ false → ends_closed acc ≡ false → ends_closed (g ∷ acc) ≡ false
push_open g [] e f = e
push_open g (a ∷ acc) e f = f

digits_open : (k n : ℕ) (acc : List ℕ) → ends_closed acc ≡ false → ends_closed (digits_onto k 10 false n acc) ≡ false
digits_open zero n acc e = e
digits_open (suc k) n acc e = by_test (n / 10 == 0) (push_open (digit_glyph false (n % 10)) acc (glyph_open (n % 10)) e) (digits_open k (n / 10) (digit_glyph false (n % 10) ∷ acc))
  where
    by_test : (b : Bool) → ends_closed (digit_glyph false (n % 10) ∷ acc) ≡ false → (ends_closed (digit_glyph false (n % 10) ∷ acc) ≡ false → ends_closed (digits_onto k 10 false (n / 10) (digit_glyph false (n % 10) ∷ acc)) ≡ false) → ends_closed (if b then digit_glyph false (n % 10) ∷ acc else digits_onto k 10 false (n / 10) (digit_glyph false (n % 10) ∷ acc)) ≡ false
    by_test true now more = now
    by_test false now more = more now

-- no number ends with `>`
pub decimal_open : (n : ℕ) → ends_closed (decimal n) ≡ false
unfolding digits
decimal_open n = digits_open 64 n [] refl
