-- Digits in a base as words, and what std's parsing says of them.
use Rattle.std.proofs.Common.{◌≡◌, ◌≢◌, ◌∙◌, sym, ap, subst, refl, ℕ, zero, suc, ◌<◌, ◌≤◌, ◌^◌, ◌==◌, false, List, [], ◌∷◌, arith, lit<}
use Rattle.std.proofs.lemmas.Fmt.{digits_is_IsNumeral}
use Rattle.std.specs.Fmt.{digits}
use Rattle.std.specs.Char.{digit_value}
use Rattle.std.specs.Str.{IsAscii, IsUtf8}
use Rattle.std.proofs.lemmas.Str.{IsUtf8-from_ascii}
use Rattle.std.specs.Str.Parse.{digits_value, IsNumeral, AllDigits, without_leading_plus}

module _ (b : ℕ) (low : 2 ≤ b) (high : b ≤ 16) where
  pub numeral_in : (n : ℕ) → n < b ^ 64 → IsNumeral b (digits b false n) × (digits_value b (digits b false n) ≡ n)
  numeral_in n h = digits_is_IsNumeral b false low high n h

  not_plus : (c : ℕ) → digit_value c < 16 → (c == 43) ≡ false
  not_plus c h = grind arith

  pub no_plus : (ds : List ℕ) → IsNumeral b ds → without_leading_plus ds ≡ ds
  no_plus [] h = refl
  no_plus (c ∷ cs) h = rw (not_plus c (omega (arith, h.1.0))) refl

  low_byte : (c : ℕ) → digit_value c < 16 → c < 128
  low_byte c h = grind arith

  ascii : (ds : List ℕ) → AllDigits b ds → IsAscii ds
  ascii [] h i = lit< tt
  ascii (c ∷ cs) h zero = low_byte c (omega (arith, h.0))
  ascii (c ∷ cs) h (suc i) = ascii cs h.1 i

  -- bytes that aren't text are no digits
  pub no_text : (ds : List ℕ) (n : ℕ) → ¬ (IsUtf8 ds) → n < b ^ 64 → ds ≡ digits b false n → ⊥
  no_text ds n h l e = h (subst IsUtf8 (sym e) (IsUtf8-from_ascii (digits b false n) (ascii (digits b false n) (numeral_in n l).0.1)))

  -- what std's parsing refuses are no digits
  pub no_numeral : (k : ℕ) (ds : List ℕ) (n : ℕ) → ¬ (IsNumeral b (without_leading_plus ds) × (digits_value b (without_leading_plus ds) < 2 ^ k)) → n < b ^ 64 → n < 2 ^ k → ds ≡ digits b false n → ⊥
  no_numeral k ds n h l m e =
      let known = numeral_in n l in
      let same = ap without_leading_plus e ∙ no_plus (digits b false n) known.0 in
      h (subst (λ t. IsNumeral b t × (digits_value b t < 2 ^ k)) (sym same) (known.0, subst (λ v. v < 2 ^ k) (sym known.1) m))

  -- nor what isn't the digits of the number that it reads
  pub other_digits : (ds : List ℕ) (m n : ℕ) → m ≡ digits_value b (without_leading_plus ds) → ds ≢ digits b false m → n < b ^ 64 → ds ≡ digits b false n → ⊥
  other_digits ds m n is other l e =
      let known = numeral_in n l in
      let same : m ≡ n = is ∙ ap (digits_value b) (ap without_leading_plus e ∙ no_plus (digits b false n) known.0) ∙ known.1 in
      other (e ∙ ap (digits b false) (sym same))
