-- The digits of a number in a base, from the last on.
use Rattle.std.proofs.Common.{◌≡◌, ◌≢◌, ◌∙◌, sym, ap, refl, ℕ, zero, suc, ◌<◌, ◌≤◌, ◌*◌, ◌/◌, ◌%◌, ◌^◌, ◌==◌, Bool, true, false, cond, List, [], ◌∷◌, ◌++◌, length, append_assoc, length-append, arith, ⊎_elim}
use Rattle.std.proofs.lemmas.Bool.{cases_lt}
use Rattle.std.proofs.lemmas.Nat.{div_below, le-div}
use Rattle.std.proofs.Math.Nat.{pow-suc, pow-zero, div-eq_of_lt, div-le_self}
use Rattle.std.specs.Fmt.{digits, digit_glyph}
use Rattle.rv_io.proofs.Digits.{digits_step, one_digit}

pub some_digit : (b n : ℕ) → 0 < b → n < b ^ 64 → 0 < length (digits b false n)
some_digit b n p h = ⊎_elim (λ l. omega (arith, ap length (one_digit b n l))) (λ l. omega (arith, ap length (digits_step b n p l h), length-append (digits b false (n / b)) (digit_glyph false (n % b) ∷ []))) (cases_lt n b)

-- two lists with one more item each are the same where both parts are
pub same_front : (f g : List ℕ) (a b : ℕ) → f ++ a ∷ [] ≡ g ++ b ∷ [] → (f ≡ g) × (a ≡ b)
same_front [] [] a b e = (refl, cc)
same_front [] (y ∷ []) a b e = cc
same_front [] (y ∷ z ∷ g) a b e = cc
same_front (x ∷ []) [] a b e = cc
same_front (x ∷ z ∷ f) [] a b e = cc
same_front (x ∷ f) (y ∷ g) a b e =
    let rest : f ++ a ∷ [] ≡ g ++ b ∷ [] = cc in
    let more = same_front f g a b rest in
    let first : x ≡ y = cc in
    (ap (λ t. t ∷ f) first ∙ ap (λ t. y ∷ t) more.0, more.1)

pub not_empty : (b : ℕ) (text : List ℕ) (n : ℕ) → 0 < b → n < b ^ 64 → length text ≡ 0 → text ≡ digits b false n → ⊥
not_empty b text n p h z e = omega (arith, some_digit b n p h, ap length e)

-- what ends in another digit is other text
pub not_last : (b : ℕ) (text front : List ℕ) (last n : ℕ) → 0 < b → n < b ^ 64 → text ≡ front ++ last ∷ [] → last ≢ digit_glyph false (n % b) → text ≡ digits b false n → ⊥
not_last b text front last n p h t other e =
    let g = digit_glyph false (n % b) in
    ⊎_elim
    (λ l. other (same_front front [] last g (sym t ∙ e ∙ one_digit b n l)).1)
    (λ l. other (same_front front (digits b false (n / b)) last g (sym t ∙ e ∙ digits_step b n p l h)).1)
    (cases_lt n b)

empty_test : (xs : List ℕ) → (length xs == 0) ≡ true → xs ≡ []
empty_test [] e = refl
empty_test (x ∷ xs) e = absurd (grind arith)

-- below the base, nothing stands before the digit
pub single_digit : (b : ℕ) (text front : List ℕ) (last n : ℕ) (empty : Bool) → n < b → text ≡ front ++ last ∷ [] → last ≡ digit_glyph false (n % b) → empty ≡ (length front == 0)
    → (empty ≡ true → text ≡ digits b false n) × (text ≡ digits b false n → empty ≡ true)
single_digit b text front last n empty l t d is =
    let digit = one_digit b n l in (
      λ e. t ∙ ap (λ f. f ++ last ∷ []) (empty_test front (sym is ∙ e)) ∙ ap (λ x. x ∷ []) d ∙ sym digit,
      λ e. is ∙ ap (λ f. length f == 0) (same_front front [] last (digit_glyph false (n % b)) (sym t ∙ e ∙ digit)).0,
    )

-- from the base on, the digits of the rest stand before the last
pub more_digits : (b : ℕ) (text front : List ℕ) (last n : ℕ) (rest : Bool) → 0 < b → b ≤ n → n < b ^ 64 → text ≡ front ++ last ∷ [] → last ≡ digit_glyph false (n % b)
    → ((rest ≡ true → front ≡ digits b false (n / b)) × (front ≡ digits b false (n / b) → rest ≡ true))
    → (rest ≡ true → text ≡ digits b false n) × (text ≡ digits b false n → rest ≡ true)
more_digits b text front last n rest p l h t d both =
    let step = digits_step b n p l h in (
      λ e. t ∙ ap (λ f. f ++ last ∷ []) (both.0 e) ∙ ap (λ x. digits b false (n / b) ++ x ∷ []) d ∙ sym step,
      λ e. both.1 (same_front front (digits b false (n / b)) last (digit_glyph false (n % b)) (sym t ∙ e ∙ step)).0,
    )

pub still_room : (b n : ℕ) → n < b ^ 64 → n / b < b ^ 64
still_room b n h = omega (arith, div-le_self n b)
