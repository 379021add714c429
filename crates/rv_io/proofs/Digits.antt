-- The digits of a number in a base, from the last on.
use Rattle.std.proofs.Common.{◌≡◌, ◌∙◌, sym, ap, refl, ℕ, zero, suc, ◌-◌, ◌<◌, ◌≤◌, ◌*◌, ◌/◌, ◌%◌, ◌^◌, ◌==◌, true, false, cond, List, [], ◌∷◌, ◌++◌, append_assoc, arith}
use Rattle.std.proofs.lemmas.Nat.{div_below, le-div}
use Rattle.std.proofs.Math.Nat.{pow-suc, pow-zero, div-eq_of_lt}
use Rattle.std.specs.Fmt.{digits, digits_onto, digit_glyph}

-- what is written goes before what was there
before : (b k n : ℕ) (acc : List ℕ) → digits_onto k b false n acc ≡ digits_onto k b false n [] ++ acc
before b zero n acc = refl
before b (suc k) n acc =
    let g = digit_glyph false (n % b) in
    elim (n / b == 0) as (λ t. cond t (g ∷ acc) (digits_onto k b false (n / b) (g ∷ acc)) ≡ cond t (g ∷ []) (digits_onto k b false (n / b) (g ∷ [])) ++ acc) [
      | true ↦ refl
      | false ↦ before b k (n / b) (g ∷ acc) ∙ sym (append_assoc (digits_onto k b false (n / b) []) (g ∷ []) acc) ∙ ap (λ t. t ++ acc) (sym (before b k (n / b) (g ∷ [])))
    ]

below : (b k n : ℕ) → 0 < b → n < b ^ suc (suc k) → n / b < b ^ suc k
below b k n p h = div_below n b (b ^ suc k) p (omega (arith, pow-suc b (suc k)))

-- more room changes nothing
room : (b k n : ℕ) (acc : List ℕ) → 0 < b → n < b ^ suc k → digits_onto (suc k) b false n acc ≡ digits_onto (suc (suc k)) b false n acc
room b zero n acc p h =
    let e : b ^ 1 ≡ b = pow-suc b 0 ∙ ap (λ x. x * b) (pow-zero b) ∙ omega arith in
    let one : n < b = omega (arith, e) in
    let small : n / b ≡ 0 = div-eq_of_lt one in
    rw small refl
room b (suc k) n acc p h =
    let g = digit_glyph false (n % b) in
    ap (λ t. cond (n / b == 0) (g ∷ acc) t) (room b k (n / b) (g ∷ acc) p (below b k n p h))

not_zero : (m : ℕ) → 1 ≤ m → (m == 0) ≡ false
not_zero m h = grind arith

step_at : (b k n : ℕ) → 0 < b → b ≤ n → n < b ^ suc (suc k) → digits_onto (suc (suc k)) b false n [] ≡ digits_onto (suc (suc k)) b false (n / b) [] ++ digit_glyph false (n % b) ∷ []
step_at b k n p h l =
    let g = digit_glyph false (n % b) in
    let large : (n / b == 0) ≡ false = not_zero (n / b) (le-div 1 n b p (omega arith)) in
    ap (λ t. cond t (g ∷ []) (digits_onto (suc k) b false (n / b) (g ∷ []))) large
    ∙ before b (suc k) (n / b) (g ∷ [])
    ∙ ap (λ t. t ++ g ∷ []) (room b k (n / b) [] p (below b k n p l))

one_at : (b k n : ℕ) → n < b → digits_onto (suc k) b false n [] ≡ digit_glyph false (n % b) ∷ []
one_at b k n h =
    let small : n / b ≡ 0 = div-eq_of_lt h in
    rw small refl

-- the last digit stands after those of the rest
pub digits_step : (b n : ℕ) → 0 < b → b ≤ n → n < b ^ 64 → digits b false n ≡ digits b false (n / b) ++ digit_glyph false (n % b) ∷ []
unfolding digits
digits_step b n p h l = step_at b 62 n p h l

-- a number below the base has one digit
pub one_digit : (b n : ℕ) → n < b → digits b false n ≡ digit_glyph false (n % b) ∷ []
unfolding digits
one_digit b n h = one_at b 63 n h

-- as many digits as are left have room before the place
pub fewer_digits : (n at : ℕ) → 16 ≤ n → n < 16 ^ (at - 1) → 2 ≤ at → (3 ≤ at) × (n / 16 < 16 ^ (at - 1 - 1))
fewer_digits n zero h l p = absurd (omega arith)
fewer_digits n (suc zero) h l p = absurd (omega arith)
fewer_digits n (suc (suc zero)) h l p = absurd (omega arith)
fewer_digits n (suc (suc (suc k))) h l p =
    let e : suc (suc (suc k)) - 1 ≡ suc (suc k) = omega arith in
    let f : suc (suc (suc k)) - 1 - 1 ≡ suc k = omega arith in
    (omega arith, rw f (below 16 k n (omega arith) (rw e at l)))
