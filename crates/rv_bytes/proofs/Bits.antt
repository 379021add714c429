-- How large the numbers in groups of seven bits are.
use Rattle.std.proofs.Common.{◌≡◌, ◌<◌, ◌≤◌, ℕ, zero, suc, ◌+◌, ◌-◌, ◌*◌, ◌%◌, ◌^◌, ◌==◌, ◌||◌, Bool, true, false, pos, negsuc, ◌-ℤ◌, w64, to_z, of_z, List, [], ◌∷◌, ◌++◌, length, slice_index, arith, lit<, refl, sym, ap, subst, ◌∙◌, length-append, ◌⊎◌, inl, inr}
use Rattle.std.proofs.Math.Nat.{pow-suc, pow-le-pow_right, mul_assoc, mul-le-mul_left}
use Rattle.std.proofs.Math.Seq.{get_or-append_seam}
use Rattle.std.proofs.lemmas.Nat.{pow-add}
use Rattle.std.proofs.lemmas.Bool.{eqb-true, le-leb, lt-leb, cases_lt}
use Rattle.std.proofs.lemmas.Int.{ints, to_z_pos, to_z-of_z}
use Rattle.rv_bytes.specs.Numbers.{AreGroups, zero_or, low_bits, signed_bits}

-- more groups hold more
pub pow_up : (m k : ℕ) → m ≤ k → 128 ^ m ≤ 128 ^ k
pow_up m k h = pow-le-pow_right {n = 128} (lit< tt) {i = m} {j = k} h

-- one group more
pub pow_next : (k : ℕ) → 128 ^ suc k ≡ 128 * 128 ^ k
pow_next k = omega (arith, pow-suc 128 k)

-- so many groups of seven bits
pub seven_bits : (l : ℕ) → 2 ^ (7 * l) ≡ 128 ^ l
seven_bits zero = refl
seven_bits (suc l) =
    let more : 7 * suc l ≡ 7 + 7 * l = omega arith in
    ap (λ j. 2 ^ j) more ∙ pow-add 2 7 (7 * l) ∙ ap (λ j. 128 * j) (seven_bits l) ∙ sym (pow_next l)

-- a shift by so many groups loses nothing
pub shifted : (l : ℕ) → l ≤ 10 → 1 * 2 ^ (7 * l) % 2 ^ 128 ≡ 128 ^ l
shifted l h = omega (arith, seven_bits l, pow_up l 10 h)

-- seven bits are below 128
low_below : (b : ℕ) → b % 128 < 128
low_below b = omega arith

-- each byte gives seven bits
pub low_bits_below : (t : List ℕ) → low_bits t < 128 ^ length t
low_bits_below [] = lit< tt
low_bits_below (b ∷ t) = omega (arith, low_below b, low_bits_below t, pow_next (length t))

-- the last byte gives the highest bits
low_bits_last : (front : List ℕ) (last : ℕ) → last < 128 → low_bits (front ++ last ∷ []) ≡ low_bits front + 128 ^ length front * last
low_bits_last [] last h = omega (arith, h)
low_bits_last (b ∷ front) last h =
    let moved : 128 ^ suc (length front) * last ≡ 128 * (128 ^ length front * last) = ap (λ p. p * last) (pow_next (length front)) ∙ mul_assoc 128 (128 ^ length front) last in
    omega (arith, low_bits_last front last h, moved)

-- a group in front of others that fit a type of 128 bits
pub group_holds : (l b r : ℕ) → l ≤ 9 → r < 128 ^ l → b < 128 → b + 128 * r < 2 ^ 128
group_holds l b r h f g = omega (arith, g, f, pow_up l 9 h)

-- the byte that may be the tenth is one of two
pub one_of : (high b : ℕ) → zero_or high b ≡ true → (b ≡ 0) ⊎ (b ≡ high)
one_of high b h = either (b == 0) (b == high) refl refl h
  where
    either : (x y : Bool) → (b == 0) ≡ x → (b == high) ≡ y → (x || y) ≡ true → (b ≡ 0) ⊎ (b ≡ high)
    either true y e f g = inl (eqb-true b 0 e)
    either false true e f g = inr (eqb-true b high f)
    either false false e f g = absurd (cc)

-- What groups are, as numbers: `more` groups go on, and the last gives the highest bits.
pub record Sized (t : List ℕ) (low more last : ℕ) : Type 0 where
  pub long : length t ≡ suc more
  pub few : more ≤ 9
  pub fits : low < 128 ^ more
  pub ends : last < 128
  pub value : low_bits t ≡ low + 128 ^ more * last
  pub index : slice_index t (length t - 1) ≡ last

pub sized : (tenth : ℕ → Bool) (t : List ℕ) (g : AreGroups tenth t) → Sized t (low_bits g.front) (length g.front) g.last
sized tenth t g =
    let long : length t ≡ suc (length g.front) = omega (arith, ap length g.bytes, length-append g.front (g.last ∷ [])) in
    let last : length t - 1 ≡ length g.front = omega (arith, long) in
    record {
      long = long;
      few = g.at_most_ten;
      fits = low_bits_below g.front;
      ends = g.ends;
      value = ap low_bits g.bytes ∙ low_bits_last g.front g.last g.ends;
      index = ap (slice_index t) last ∙ ap (λ s. slice_index s (length g.front)) g.bytes ∙ get_or-append_seam g.front g.last [] 0;
    }

-- at most ten bytes
pub ten_bytes : (tenth : ℕ → Bool) (t : List ℕ) → AreGroups tenth t → length t ≤ 10
ten_bytes tenth t g = let s = sized tenth t g in omega (arith, s.long, s.few)

-- the high bits of so many groups and one
top_below : (more last k : ℕ) → last < k → 128 ^ more * last + 128 ^ more ≤ 128 ^ more * k
top_below more last k h =
    let step : 128 ^ more * suc last ≤ 128 ^ more * k = mul-le-mul_left {m = suc last} {n = k} (128 ^ more) (omega (arith, h)) in
    let split : 128 ^ more * suc last ≡ 128 ^ more * last + 128 ^ more = omega arith in
    omega (arith, step, split)

-- the last of ten bytes is one of two
tenth_of : (high : ℕ) (t : List ℕ) (g : AreGroups (zero_or high) t) → 9 ≤ length g.front → (128 ^ length g.front ≡ 2 ^ 63) × ((g.last ≡ 0) ⊎ (g.last ≡ high))
tenth_of high t g h =
    let nine : length g.front ≡ 9 = omega (arith, h, g.at_most_ten) in
    (ap (λ j. 128 ^ j) nine, one_of high g.last (g.may_be_tenth nine))

-- an unsigned number fits 64 bits
pub unsigned_fits : (t : List ℕ) → AreGroups (zero_or 1) t → low_bits t < 2 ^ 64
unsigned_fits t g = elim (cases_lt (length g.front) 9) [
  | inl few ↦ omega (arith, s.fits, s.value, top_below (length g.front) g.last 128 s.ends, pow_next (length g.front), pow_up (suc (length g.front)) 9 (omega (arith, few)))
  | inr ten ↦ let w = tenth_of 1 t g ten in elim w.1 [
    | inl z ↦ let none : 128 ^ length g.front * g.last ≡ 0 = rw z (omega arith) in omega (arith, s.fits, s.value, w.0, none)
    | inr o ↦ let one : 128 ^ length g.front * g.last ≡ 128 ^ length g.front = rw o (omega arith) in omega (arith, s.fits, s.value, w.0, one)
  ]
]
  where
    s : Sized t (low_bits g.front) (length g.front) g.last
    s = sized (zero_or 1) t g

-- a number whose sign bit is clear
pub record Clear (t : List ℕ) : Type 0 where
  pub is : signed_bits t ≡ pos (low_bits t)
  pub half : 2 * low_bits t < 128 ^ length t
  pub fits : low_bits t < 2 ^ 63

-- a number whose sign bit is set: it is -1 less `below`
pub record Set (t : List ℕ) : Type 0 where
  pub below : ℕ
  pub is : signed_bits t ≡ negsuc below
  pub whole : low_bits t + suc below ≡ 128 ^ length t
  pub half : 2 * below < 128 ^ length t
  pub fits : below < 2 ^ 63

-- the sign is bit 6 of the last byte
pub clear_below : (t : List ℕ) (g : AreGroups (zero_or 127) t) → g.last < 64 → Clear t
clear_below t g h = record { is = is; half = half; fits = fits }
  where
    s : Sized t (low_bits g.front) (length g.front) g.last
    s = sized (zero_or 127) t g

    is : signed_bits t ≡ pos (low_bits t)
    is = rw (s.index, le-leb (suc g.last) 64 h) refl

    half : 2 * low_bits t < 128 ^ length t
    half = rw s.long (omega (arith, s.fits, s.value, top_below (length g.front) g.last 64 h, pow_next (length g.front)))

    fits : low_bits t < 2 ^ 63
    fits = elim (cases_lt (length g.front) 9) [
      | inl few ↦ omega (arith, half, s.long, pow_up (length t) 9 (omega (arith, few, s.long)))
      | inr ten ↦ let w = tenth_of 127 t g ten in elim w.1 [
        | inl z ↦ let none : 128 ^ length g.front * g.last ≡ 0 = rw z (omega arith) in omega (arith, s.fits, s.value, w.0, none)
        | inr o ↦ absurd (omega (arith, o, h))
      ]
    ]

pub set_from : (t : List ℕ) (g : AreGroups (zero_or 127) t) → 64 ≤ g.last → Set t
set_from t g h = record { below = below; is = is; whole = whole; half = half; fits = fits }
  where
    s : Sized t (low_bits g.front) (length g.front) g.last
    s = sized (zero_or 127) t g

    below : ℕ
    below = 128 ^ length t - 1 - low_bits t

    under : low_bits t < 128 ^ length t
    under = low_bits_below t

    whole : low_bits t + suc below ≡ 128 ^ length t
    whole = omega (arith, under)

    is : signed_bits t ≡ negsuc below
    is = rw (s.index, lt-leb (suc g.last) 64 (omega (arith, h)), seven_bits (length t)) (omega (arith, ints, whole))

    high : 128 ^ length g.front * 64 ≤ 128 ^ length g.front * g.last
    high = mul-le-mul_left {m = 64} {n = g.last} (128 ^ length g.front) h

    full : 128 ^ length t ≡ 128 * 128 ^ length g.front
    full = ap (λ j. 128 ^ j) s.long ∙ pow_next (length g.front)

    half : 2 * below < 128 ^ length t
    half = omega (arith, s.value, high, whole, full)

    fits : below < 2 ^ 63
    fits = elim (cases_lt (length g.front) 9) [
      | inl few ↦ omega (arith, half, s.long, pow_up (length t) 9 (omega (arith, few, s.long)))
      | inr ten ↦ let w = tenth_of 127 t g ten in elim w.1 [
        | inl z ↦ absurd (omega (arith, z, h))
        | inr o ↦ let top : 128 ^ length g.front * g.last ≡ 128 ^ length g.front * 127 = ap (λ k. 128 ^ length g.front * k) o in omega (arith, top, s.value, whole, full, w.0)
      ]
    ]

-- the last byte says which
pub clear_where : (t : List ℕ) → AreGroups (zero_or 127) t → slice_index t (length t - 1) < 64 → Clear t
clear_where t g h = clear_below t g (subst (λ b. b < 64) (sized (zero_or 127) t g).index h)

pub set_where : (t : List ℕ) → AreGroups (zero_or 127) t → 64 ≤ slice_index t (length t - 1) → Set t
set_where t g h = set_from t g (subst (λ b. 64 ≤ b) (sized (zero_or 127) t g).index h)

-- -1 less a number, in 64 bits
pub below_is : (x b : ℕ) → x ≡ b → b < 2 ^ 63 → to_z w64 (of_z w64 (negsuc 0 -ℤ to_z w64 x)) ≡ negsuc b
below_is x b e h =
    let p : to_z w64 x ≡ pos b = to_z_pos w64 x (omega (arith, e, h)) ∙ ap pos e in
    let q : negsuc 0 -ℤ pos b ≡ negsuc b = omega (arith, ints) in
    ap (λ y. to_z w64 (of_z w64 (negsuc 0 -ℤ y))) p ∙ ap (λ y. to_z w64 (of_z w64 y)) q ∙ to_z-of_z w64 (negsuc b) (record { sfits = h })

-- a number's sign is clear or set
pub sign_of : (t : List ℕ) → AreGroups (zero_or 127) t → Clear t ⊎ Set t
sign_of t g = elim (cases_lt g.last 64) [ inl l ↦ inl (clear_below t g l) | inr h ↦ inr (set_from t g h) ]
