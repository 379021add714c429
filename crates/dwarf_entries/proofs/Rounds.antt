-- One number further, and one back, round a count of numbers.
use Rattle.std.proofs.Common.{◌≡◌, ◌≢◌, ℕ, ◌+◌, ◌-◌, ◌%◌, ◌<◌, sym, ap, ◌∙◌, arith, mod-eq_of_lt}
use Rattle.std.proofs.Math.Nat.{add-mod_right}

-- all the way round is nothing
self_mod : (m : ℕ) → 0 < m → m % m ≡ 0
self_mod m h = ap (λ n. n % m) (omega arith) ∙ add-mod_right 0 m ∙ mod-eq_of_lt h

-- after the greatest number comes 0
pub after_greatest : (last g m : ℕ) → last ≡ g → g + 1 ≡ m → 0 ≡ (last + 1) % m
after_greatest last g m e h = sym (ap (λ n. n % m) (omega (arith, e, h)) ∙ self_mod m (omega (arith, h)))

-- after another the next
pub after_other : (last g m : ℕ) → last ≢ g → g + 1 ≡ m → last < m → last + 1 ≡ (last + 1) % m
after_other last g m n h below = sym (mod-eq_of_lt (omega (arith, n, h, below)))

-- before 0 comes the greatest number
pub before_zero : (first g m : ℕ) → first ≡ 0 → g + 1 ≡ m → g ≡ (first + m - 1) % m
before_zero first g m e h = sym (ap (λ n. n % m) (omega (arith, e, h)) ∙ mod-eq_of_lt (omega (arith, h)))

-- before another the one before
pub before_other : (first g m : ℕ) → first ≢ 0 → g + 1 ≡ m → first < m → first - 1 ≡ (first + m - 1) % m
before_other first g m n h below =
    sym (ap (λ n. n % m) (omega (arith, n)) ∙ add-mod_right (first - 1) m ∙ mod-eq_of_lt (omega (arith, n, below)))
