-- A decimal is read as far as it goes and fits.
use Rattle.std.proofs.Common.{◌≡◌, ◌≢◌, ℕ, zero, suc, ◌+◌, ◌-◌, ◌*◌, ◌/◌, ◌%◌, ◌^◌, ◌<◌, ◌≤◌, Bool, true, false, ◌==◌, ◌&&◌, nat_le}
use Rattle.std.proofs.Common.{if◌then◌else◌, List, [], ◌∷◌, ◌++◌, inl, refl, sym, ap, ◌∙◌, arith, append_assoc}
use Rattle.std.proofs.lemmas.Bool.{leb-true, le-leb, eqb-true, eqb-false}
use Rattle.std.specs.Fmt.{decimal}
use Rattle.std.proofs.lemmas.Fmt.{decimal_digit, decimal_step_wide, decimal_by_steps_wide}
use Rattle.names.specs.Words.{is_digit}
use Rattle.names.specs.Reading.{Res, got, bad, digits_after, number_at, number}
use Rattle.names.proofs.Readers.{Suffix, Follows, IsLocal, Right, IsReader, Inhabited, Suffix-if, Suffix-longer, Follows-if, Follows-got}
use Rattle.names.proofs.Readers.{Follows-bad, Follows-past}

-- no digit stands here
abbrev pub NoDigit : List ℕ → Type 0
NoDigit [] = Unit {0}
NoDigit (c ∷ k) = is_digit c ≡ false

and_parts : (a b : Bool) → (a && b) ≡ true → (a ≡ true) × (b ≡ true)
and_parts true b e = (refl, e)
and_parts false b e = cc

and_join : (a b : Bool) → a ≡ true → b ≡ true → (a && b) ≡ true
and_join true b e h = h
and_join false b e h = cc

digit_true : (c : ℕ) → 48 ≤ c → c ≤ 57 → is_digit c ≡ true
digit_true c h g = and_join (nat_le 48 c) (nat_le c 57) (le-leb 48 c h) (le-leb c 57 g)

digit_low : (c : ℕ) → is_digit c ≡ true → (48 ≤ c) × (c ≤ 57)
digit_low c e = let p = and_parts (nat_le 48 c) (nat_le c 57) e in (leb-true 48 c p.0, leb-true c 57 p.1)

-- one digit more
grown : (n d : ℕ) → 1 ≤ n → d < 10 → n * 10 + d < 10 ^ 64 → decimal (n * 10 + d) ≡ decimal n ++ (48 + d) ∷ []
grown n d h g lt =
    let quotient : (n * 10 + d) / 10 ≡ n = omega arith in
    let last : (n * 10 + d) % 10 ≡ d = omega arith in
    decimal_step_wide (n * 10 + d) (omega arith) lt ∙ ap (λ q. decimal q ++ (48 + (n * 10 + d) % 10) ∷ []) quotient ∙ ap (λ r. decimal n ++ (48 + r) ∷ []) last

module _ (zeroed : Bool) (most : ℕ) (wide : 9 ≤ most) (bounded : most < 10 ^ 64) where
  abbrev Is : ℕ → List ℕ → Type 0
  Is n t = (n ≤ most) × ((zeroed ≡ false → n ≢ 0) × (t ≡ decimal n))

  -- a digit that fits is taken
  taken : (n c : ℕ) (s : List ℕ) → is_digit c ≡ true → n * 10 + (c - 48) ≤ most → digits_after most n (c ∷ s) ≡ digits_after most (n * 10 + (c - 48)) s
  unfolding digits_after
  taken n c s e h =
      ap (λ t. if t then digits_after most (n * 10 + (c - 48)) s else got n (c ∷ s))
      (and_join (is_digit c) (nat_le (n * 10 + (c - 48)) most) e (le-leb (n * 10 + (c - 48)) most h))

  left : (n : ℕ) (k : List ℕ) → NoDigit k → digits_after most n k ≡ got n k
  unfolding digits_after
  left n [] h = refl
  left n (c ∷ k) h = ap (λ t. if t && nat_le (n * 10 + (c - 48)) most then digits_after most (n * 10 + (c - 48)) k else got n (c ∷ k)) h

  not_eq : (a b : ℕ) → (a ≡ b → ⊥) → (a == b) ≡ false
  not_eq a b h = each (a == b) refl
    where
      each : (t : Bool) → (a == b) ≡ t → (a == b) ≡ false
      each true e = absurd (h (eqb-true a b e))
      each false e = e

  reads_one : (n : ℕ) → n < 10 → 1 ≤ n → n ≤ most → (s : List ℕ) → number_at zeroed most ((48 + n) ∷ s) ≡ digits_after most n s
  unfolding number_at
  reads_one n h g le s =
      let c : ℕ = 48 + n in
      ap (λ t. if t then (if c == 48 then (if zeroed then got 0 s else bad (c ∷ s)) else digits_after most (c - 48) s) else bad (c ∷ s))
      (digit_true (48 + n) (omega arith) (omega arith))
      ∙ ap (λ t. if t then (if zeroed then got 0 s else bad (c ∷ s)) else digits_after most (c - 48) s) (not_eq (48 + n) 48 (λ e. omega arith))
      ∙ ap (λ m. digits_after most m s) (let e : 48 + n - 48 ≡ n = omega arith in e)

  abbrev Reads : ℕ → List ℕ → Type 0
  Reads n ds = 1 ≤ n → n ≤ most → (s : List ℕ) → number_at zeroed most (ds ++ s) ≡ digits_after most n s

  reads_more : (n : ℕ) (ds : List ℕ) → 10 ≤ n → Reads (n / 10) ds → Reads n (ds ++ ((48 + n % 10) ∷ []))
  reads_more n ds h ih = λ low le s.
      let whole : (n / 10) * 10 + (48 + n % 10 - 48) ≡ n = omega arith in
      ap (number_at zeroed most) (append_assoc ds ((48 + n % 10) ∷ []) s) ∙ ih (omega arith) (omega arith) ((48 + n % 10) ∷ s)
      ∙ taken (n / 10) (48 + n % 10) s (digit_true (48 + n % 10) (omega arith) (omega arith)) (omega arith) ∙ ap (λ m. digits_after most m s) whole

  reads_decimal : (n : ℕ) → 1 ≤ n → n ≤ most → (s : List ℕ) → number_at zeroed most (decimal n ++ s) ≡ digits_after most n s
  reads_decimal n h g s = decimal_by_steps_wide Reads reads_one reads_more n (omega arith) h g s

  zero_text : decimal 0 ≡ 48 ∷ []
  zero_text = decimal_digit 0 (omega arith)

  abbrev Zero : List ℕ → Bool → Res ℕ
  Zero k z = if z then got 0 k else bad (48 ∷ k)

  number_complete : (n : ℕ) (t k : List ℕ) → Is n t → NoDigit k → number_at zeroed most (t ++ k) ≡ got n k
  unfolding number_at
  number_complete zero t k h stops = ap (λ l. number_at zeroed most (l ++ k)) (h.1.1 ∙ zero_text) ∙ by_flag zeroed refl
    where
      by_flag : (z : Bool) → zeroed ≡ z → Zero k zeroed ≡ Zero k true
      by_flag true e = ap (Zero k) e
      by_flag false e = absurd (h.1.0 e refl)
  number_complete (suc n) t k h stops = ap (λ l. number_at zeroed most (l ++ k)) h.1.1 ∙ reads_decimal (suc n) (omega arith) h.0 k ∙ left (suc n) k stops

  -- right
  after_if : (n c : ℕ) (whole s : List ℕ) (t : Bool) → (is_digit c && nat_le (n * 10 + (c - 48)) most) ≡ t → 1 ≤ n → n ≤ most → whole ≡ decimal n ++ c ∷ s
      → (n * 10 + (c - 48) ≤ most → whole ≡ decimal (n * 10 + (c - 48)) ++ s → Right Is whole (digits_after most (n * 10 + (c - 48)) s))
      → Right Is whole (if t then digits_after most (n * 10 + (c - 48)) s else got n (c ∷ s))
  after_if n c whole s true e low le at more =
      let p = and_parts (is_digit c) (nat_le (n * 10 + (c - 48)) most) e in
      let d = digit_low c p.0 in
      let fits = leb-true (n * 10 + (c - 48)) most p.1 in
      let back : 48 + (c - 48) ≡ c = omega arith in
      more fits (at ∙ sym (append_assoc (decimal n) (c ∷ []) s) ∙ ap (λ z. (decimal n ++ z ∷ []) ++ s) (sym back) ∙
      ap (λ l. l ++ s) (sym (grown n (c - 48) low (omega arith) (omega arith))))
  after_if n c whole s false e low le at more = (decimal n, ((le, ((λ z e. omega (arith, e)), refl)), at))

  after_right : (s : List ℕ) (n : ℕ) (whole : List ℕ) → 1 ≤ n → n ≤ most → whole ≡ decimal n ++ s → Right Is whole (digits_after most n s)
  unfolding digits_after
  after_right [] n whole low le at = (decimal n, ((le, ((λ z e. omega (arith, e)), refl)), at))
  after_right (c ∷ s) n whole low le at = after_if n c whole s _ refl low le at (λ fits is. after_right s (n * 10 + (c - 48)) whole (omega arith) fits is)

  first_if : (c : ℕ) (s : List ℕ) (t u z : Bool) → is_digit c ≡ t → (c == 48) ≡ u → zeroed ≡ z →
      Right Is (c ∷ s) (if t then (if u then (if z then got 0 s else bad (c ∷ s)) else digits_after most (c - 48) s) else bad (c ∷ s))
  first_if c s true true true e f g =
      (48 ∷ [], ((omega arith, ((λ z. let no : true ≡ false = sym g ∙ z in cc), sym zero_text)), ap (λ z. z ∷ s) (eqb-true c 48 f)))
  first_if c s true true false e f g = ([], (refl, inl refl))
  first_if c s true false z e f g =
      let d = digit_low c e in
      let not_zero : c ≡ 48 → ⊥ = eqb-false c 48 f in
      let back : 48 + (c - 48) ≡ c = omega arith in
      after_right s (c - 48) (c ∷ s) (omega (arith, not_zero)) (omega arith)
      (ap (λ z. z ∷ s) (sym back) ∙ ap (λ l. l ++ s) (sym (decimal_digit (c - 48) (omega arith))))
  first_if c s false u z e f g = ([], (refl, inl refl))

  number_right : (s : List ℕ) → Right Is s (number_at zeroed most s)
  unfolding number_at
  number_right [] = ([], (refl, inl refl))
  number_right (c ∷ s) = first_if c s (is_digit c) (c == 48) zeroed refl refl refl

  -- local
  after_suffix : (s : List ℕ) (n : ℕ) → Suffix s (digits_after most n s)
  unfolding digits_after
  after_suffix [] n = ([], refl)
  after_suffix (c ∷ s) n = Suffix-if _ (c ∷ s) _ (got n (c ∷ s)) (Suffix-longer (c ∷ s) (c ∷ []) s _ refl (after_suffix s (n * 10 + (c - 48)))) ([], refl)

  after_local : (c : ℕ) (k r p : List ℕ) (n : ℕ) → Follows c k r (digits_after most n (p ++ c ∷ k)) (digits_after most n (p ++ c ∷ r))
  unfolding digits_after
  after_local c k r [] n = Follows-if c k r _ _ _ _ _ _ refl (λ e. Follows-past c k r _ _ (after_suffix k (n * 10 + (c - 48)))) (λ e. Follows-got c k r [] n)
  after_local c k r (a ∷ p) n = Follows-if c k r _ _ _ _ _ _ refl (λ e. after_local c k r p (n * 10 + (a - 48))) (λ e. Follows-got c k r (a ∷ p) n)

  digit_cases : (c : ℕ) (k r : List ℕ) (t u z : Bool) (x x' y y' w w' : Res ℕ) → Follows c k r x x' → Follows c k r y y' → Follows c k r w w'
      → Follows c k r (if t then (if u then (if z then x else w) else y) else w) (if t then (if u then (if z then x' else w') else y') else w')
  digit_cases c k r true true true x x' y y' w w' f g h = f
  digit_cases c k r true true false x x' y y' w w' f g h = h
  digit_cases c k r true false z x x' y y' w w' f g h = g
  digit_cases c k r false u z x x' y y' w w' f g h = h

  number_local : IsLocal (number_at zeroed most)
  unfolding number_at
  number_local c k r [] =
      digit_cases c k r (is_digit c) (c == 48) zeroed (got 0 k) (got 0 r) (digits_after most (c - 48) k) (digits_after most (c - 48) r) (bad (c ∷ k))
      (bad (c ∷ r))
      (Follows-past c k r (got 0 k) (got 0 r) ([], refl)) (Follows-past c k r _ _ (after_suffix k (c - 48))) (Follows-bad c k r [])
  number_local c k r (a ∷ p) =
      digit_cases c k r (is_digit a) (a == 48) zeroed (got 0 (p ++ c ∷ k)) (got 0 (p ++ c ∷ r)) (digits_after most (a - 48) (p ++ c ∷ k))
      (digits_after most (a - 48) (p ++ c ∷ r)) (bad (a ∷ (p ++ c ∷ k))) (bad (a ∷ (p ++ c ∷ r)))
      (Follows-got c k r p 0) (after_local c k r p (a - 48)) (Follows-bad c k r (a ∷ p))

  pub number_reader : IsReader NoDigit (number zeroed most)
  number_reader = record { complete = number_complete; right = number_right; local = number_local }

  pub number_some : (n : ℕ) → n ≤ most → n ≢ 0 → Inhabited (number zeroed most)
  number_some n h g = (n, (decimal n, (h, ((λ z. g), refl))))
