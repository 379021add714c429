-- The bytes that are written for a LEB128 number are its shortest spelling, and there is one.
use Rattle.std.proofs.Common.{◌≡◌, ◌<◌, ◌≤◌, ℕ, zero, suc, ◌+◌, ◌-◌, ◌*◌, ◌/◌, ◌%◌, ◌^◌, Bool, true, ℤ, pos, negsuc, List, [], ◌∷◌, ◌++◌, length, Some, arith, refl, sym, ap, subst, ◌∙◌, length-append, ◌⊎◌, inl, inr}
use Rattle.std.specs.List.{All}
use Rattle.std.proofs.Math.Nat.{mul-le-mul_left, mul_assoc}
use Rattle.std.proofs.lemmas.List.Elements.{All-nil, All-cons, All-head, All-tail, All-pop}
use Rattle.std.proofs.lemmas.Bool.{cases_lt}
use Rattle.rv_bytes.specs.Numbers.{AreGroups, zero_or, low_bits, signed_bits, IsUleb, IsSleb, uleb, sleb}
use Rattle.rv_bytes.specs.Forms.{Form}
use Rattle.rv_bytes.specs.Laws.{IsOneShortest}
use Rattle.rv_bytes.specs.Writers.{IsShortest, groups_bytes, IsGroupCount, without_sign, in_groups}
use Rattle.rv_bytes.proofs.Lebs.{GoesOn}
use Rattle.rv_bytes.proofs.Bits.{pow_next, low_bits_below, sized, Clear, Set, sign_of, clear_below, set_from}

-- what is written: groups that go on, and a last that has the highest bits
record Written (t : List ℕ) (n more : ℕ) : Type 0 where
  front : List ℕ
  last : ℕ
  bytes : t ≡ front ++ last ∷ []
  long : length front ≡ more
  go_on : All GoesOn front
  ends : last < 128
  value : low_bits t ≡ n
  top : 128 ^ more * last ≤ n
  under : n < 128 ^ more * last + 128 ^ more

written : (more n : ℕ) → n < 128 ^ suc more → Written (groups_bytes more n) n more
written zero n h = record { front = []; last = n; bytes = refl; long = refl; go_on = All-nil GoesOn; ends = h; value = omega (arith, h); top = omega arith; under = omega arith }
written (suc more) n h =
    let w = written more (n / 128) (omega (arith, h, pow_next (suc more))) in
    let moved : 128 ^ suc more * w.last ≡ 128 * (128 ^ more * w.last) = ap (λ p. p * w.last) (pow_next more) ∙ mul_assoc 128 (128 ^ more) w.last in
    record {
      front = (128 + n % 128) ∷ w.front;
      last = w.last;
      bytes = ap (λ z. (128 + n % 128) ∷ z) w.bytes;
      long = ap suc w.long;
      go_on = All-cons GoesOn (128 + n % 128) w.front (omega arith) w.go_on;
      ends = w.ends;
      value = omega (arith, w.value);
      top = omega (arith, w.top, moved);
      under = omega (arith, w.under, moved, pow_next more);
    }

-- it is a number's groups where its tenth byte may stand there
abbrev groups : (tenth : ℕ → Bool) (more n : ℕ) (w : Written (groups_bytes more n) n more) → more ≤ 9 → (more ≡ 9 → tenth w.last ≡ true) → AreGroups tenth (groups_bytes more n)
groups tenth more n w few may =
    record { front = w.front; last = w.last; bytes = w.bytes; go_on = w.go_on; ends = w.ends; at_most_ten = omega (arith, few, w.long); may_be_tenth = λ e. may (sym w.long ∙ e) }

-- its length
long : (more n : ℕ) → n < 128 ^ suc more → length (groups_bytes more n) ≡ suc more
long more n h = let w = written more n h in omega (arith, ap length w.bytes, length-append w.front (w.last ∷ []), w.long)

-- a count of groups is one more than those that go on
more_of : (n count : ℕ) → IsGroupCount n count → (suc (count - 1) ≡ count) × (count - 1 ≤ 9)
more_of n count c = (omega (arith, c.some), omega (arith, c.ten))

-- an unsigned number
pub uleb_shortest : (n count : ℕ) → n < 2 ^ 64 → IsGroupCount n count → IsShortest uleb n (groups_bytes (count - 1) n)
uleb_shortest n count fits c = record { spells = λ place. (groups (zero_or 1) more n w m.1 tenth, sym w.value); fewest = fewest }
  where
    more : ℕ
    more = count - 1

    m : (suc (count - 1) ≡ count) × (count - 1 ≤ 9)
    m = more_of n count c

    holds : n < 128 ^ suc more
    holds = subst (λ j. n < 128 ^ j) (sym m.0) c.holds

    w : Written (groups_bytes more n) n more
    w = written more n holds

    tenth : more ≡ 9 → zero_or 1 w.last ≡ true
    tenth e =
        let top : 2 ^ 63 * w.last ≤ n = subst (λ j. 128 ^ j * w.last ≤ n) e w.top in
        elim (cases_lt w.last 1) [
          | inl l ↦ let z : w.last ≡ 0 = omega (arith, l) in rw z refl
          | inr g ↦ let o : w.last ≡ 1 = omega (arith, g, top, fits) in rw o refl
        ]

    fewest : (place : ℕ) (u : List ℕ) → IsUleb n u → length (groups_bytes more n) ≤ length u
    fewest place u h =
        let s = sized (zero_or 1) u h.0 in
        let least : count ≤ length u = c.fewest (length u) (omega (arith, s.long)) (omega (arith, h.1, low_bits_below u)) in
        omega (arith, least, long more n holds, m.0)

-- what a signed number's two cases have in common: no spelling is shorter
fewest_signed : (z : ℤ) (n k count : ℕ) → IsGroupCount (2 * k) count → n < 128 ^ suc (count - 1) → ((u : List ℕ) → IsSleb z u → 2 * k < 128 ^ length u) → (place : ℕ) (u : List ℕ) → IsSleb z u → length (groups_bytes (count - 1) n) ≤ length u
fewest_signed z n k count c holds half place u h =
    let s = sized (zero_or 127) u h.0 in
    let least : count ≤ length u = c.fewest (length u) (omega (arith, s.long)) (half u h) in
    omega (arith, least, long (count - 1) n holds, (more_of (2 * k) count c).0)

-- a number from 0 on
sleb_shortest : (n count : ℕ) → n < 2 ^ 63 → IsGroupCount (2 * n) count → IsShortest sleb (pos n) (groups_bytes (count - 1) n)
sleb_shortest n count fits c = record { spells = λ place. (are, value); fewest = fewest_signed (pos n) n n count c holds half }
  where
    more : ℕ
    more = count - 1

    m : (suc (count - 1) ≡ count) × (count - 1 ≤ 9)
    m = more_of (2 * n) count c

    twice : 2 * n < 128 ^ suc more
    twice = subst (λ j. 2 * n < 128 ^ j) (sym m.0) c.holds

    holds : n < 128 ^ suc more
    holds = omega (arith, twice)

    w : Written (groups_bytes more n) n more
    w = written more n holds

    tenth : more ≡ 9 → zero_or 127 w.last ≡ true
    tenth e =
        let top : 2 ^ 63 * w.last ≤ n = subst (λ j. 128 ^ j * w.last ≤ n) e w.top in
        let z : w.last ≡ 0 = omega (arith, top, fits) in rw z refl

    are : AreGroups (zero_or 127) (groups_bytes more n)
    are = groups (zero_or 127) more n w m.1 tenth

    value : pos n ≡ signed_bits (groups_bytes more n)
    value = elim (cases_lt w.last 64) [
      | inl l ↦ sym ((clear_below (groups_bytes more n) are l).is ∙ ap pos w.value)
      | inr h ↦
          let high : 128 ^ more * 64 ≤ 128 ^ more * w.last = mul-le-mul_left {m = 64} {n = w.last} (128 ^ more) h in
          absurd (omega (arith, high, w.top, twice, pow_next more))
    ]

    half : (u : List ℕ) → IsSleb (pos n) u → 2 * n < 128 ^ length u
    half u h = elim (sign_of u h.0) [
      | inl a ↦ let same : pos n ≡ pos (low_bits u) = h.1 ∙ a.is in let e : n ≡ low_bits u = cc in omega (arith, e, a.half)
      | inr b ↦ let same : pos n ≡ negsuc b.below = h.1 ∙ b.is in absurd (cc)
    ]

-- a number below 0
sleb_shortest_below : (b n count : ℕ) → b < 2 ^ 63 → IsGroupCount (2 * b) count → n + suc b ≡ 128 ^ count → IsShortest sleb (negsuc b) (groups_bytes (count - 1) n)
sleb_shortest_below b n count fits c whole = record { spells = λ place. (are, value); fewest = fewest_signed (negsuc b) n b count c holds half }
  where
    more : ℕ
    more = count - 1

    m : (suc (count - 1) ≡ count) × (count - 1 ≤ 9)
    m = more_of (2 * b) count c

    full : n + suc b ≡ 128 * 128 ^ more
    full = whole ∙ ap (λ j. 128 ^ j) (sym m.0) ∙ pow_next more

    twice : 2 * b < 128 * 128 ^ more
    twice = omega (arith, c.holds, ap (λ j. 128 ^ j) m.0, pow_next more)

    holds : n < 128 ^ suc more
    holds = omega (arith, full, pow_next more)

    w : Written (groups_bytes more n) n more
    w = written more n holds

    tenth : more ≡ 9 → zero_or 127 w.last ≡ true
    tenth e =
        let under : n < 2 ^ 63 * w.last + 2 ^ 63 = subst (λ j. n < 128 ^ j * w.last + 128 ^ j) e w.under in
        let all : n + suc b ≡ 2 ^ 70 = full ∙ ap (λ j. 128 * 128 ^ j) e in
        let o : w.last ≡ 127 = omega (arith, under, all, fits, w.ends) in rw o refl

    are : AreGroups (zero_or 127) (groups_bytes more n)
    are = groups (zero_or 127) more n w m.1 tenth

    value : negsuc b ≡ signed_bits (groups_bytes more n)
    value = elim (cases_lt w.last 64) [
      | inl l ↦
          let low : 128 ^ more * w.last ≤ 128 ^ more * 63 = mul-le-mul_left {m = w.last} {n = 63} (128 ^ more) (omega (arith, l)) in
          absurd (omega (arith, low, w.under, full, twice))
      | inr h ↦
          let s = set_from (groups_bytes more n) are h in
          let same : b ≡ s.below = omega (arith, s.whole, w.value, whole, ap (λ j. 128 ^ j) (long more n holds ∙ m.0)) in
          ap negsuc same ∙ sym s.is
    ]

    half : (u : List ℕ) → IsSleb (negsuc b) u → 2 * b < 128 ^ length u
    half u h = elim (sign_of u h.0) [
      | inl a ↦ let same : negsuc b ≡ pos (low_bits u) = h.1 ∙ a.is in absurd (cc)
      | inr d ↦ let same : negsuc b ≡ negsuc d.below = h.1 ∙ d.is in let e : b ≡ d.below = cc in omega (arith, e, d.half)
    ]

-- a signed number in as few groups as hold its two's complement
pub sleb_in_groups : (z : ℤ) (count : ℕ) → without_sign z < 2 ^ 63 → IsGroupCount (2 * without_sign z) count → IsShortest sleb z (groups_bytes (count - 1) (in_groups count z))
sleb_in_groups (pos k) count f c = sleb_shortest k count f c
sleb_in_groups (negsuc k) count f c = sleb_shortest_below k (in_groups count (negsuc k)) count f c (omega (arith, c.holds))

-- it fits the groups
pub in_groups_fits : (z : ℤ) (count : ℕ) → IsGroupCount (2 * without_sign z) count → in_groups count z < 128 ^ (count - 1 + 1)
in_groups_fits (pos k) count c = let one : count - 1 + 1 ≡ count = omega (arith, c.some) in omega (arith, c.holds, ap (λ j. 128 ^ j) one)
in_groups_fits (negsuc k) count c = let one : count - 1 + 1 ≡ count = omega (arith, c.some) in omega (arith, c.holds, ap (λ j. 128 ^ j) one)

-- bytes of one shape and one length that give one number are the same
same_bytes : (f g : List ℕ) (a b : ℕ) → length f ≡ length g → All GoesOn f → All GoesOn g → All (λ x. x < 256) f → All (λ x. x < 256) g → a < 128 → b < 128 → low_bits (f ++ a ∷ []) ≡ low_bits (g ++ b ∷ []) → f ++ a ∷ [] ≡ g ++ b ∷ []
same_bytes [] [] a b l h k i j p q e = let same : a ≡ b = omega (arith, p, q, e) in ap (λ x. x ∷ []) same
same_bytes [] (y ∷ g) a b l h k i j p q e = absurd (omega (arith, l))
same_bytes (x ∷ f) [] a b l h k i j p q e = absurd (omega (arith, l))
same_bytes (x ∷ f) (y ∷ g) a b l h k i j p q e =
    let A : ℕ = low_bits (f ++ a ∷ []) in let B : ℕ = low_bits (g ++ b ∷ []) in
    let first : x ≡ y = omega (arith, e, All-head GoesOn x f h, All-head GoesOn y g k, All-head (λ z. z < 256) x f i, All-head (λ z. z < 256) y g j) in
    let rest : f ++ a ∷ [] ≡ g ++ b ∷ [] = same_bytes f g a b (omega (arith, l)) (All-tail GoesOn x f h) (All-tail GoesOn y g k) (All-tail (λ z. z < 256) x f i) (All-tail (λ z. z < 256) y g j) p q (omega (arith, e)) in
    rw (first, rest) refl

-- two of one length that give one number
same_groups : (tenth : ℕ → Bool) (t u : List ℕ) → AreGroups tenth t → AreGroups tenth u → All (λ x. x < 256) t → All (λ x. x < 256) u → length t ≡ length u → low_bits t ≡ low_bits u → t ≡ u
same_groups tenth t u g h i j l e =
    let a = sized tenth t g in let b = sized tenth u h in
    let fronts : length g.front ≡ length h.front = omega (arith, l, a.long, b.long) in
    g.bytes ∙ same_bytes g.front h.front g.last h.last fronts g.go_on h.go_on (front_of t g.front g.last g.bytes i) (front_of u h.front h.last h.bytes j) g.ends h.ends
    (sym (ap low_bits g.bytes) ∙ e ∙ ap low_bits h.bytes) ∙ sym h.bytes
  where
    front_of : (t front : List ℕ) (last : ℕ) → t ≡ front ++ last ∷ [] → All (λ x. x < 256) t → All (λ x. x < 256) front
    front_of t front last e h = (All-pop (λ x. x < 256) t front (Some last) e h).0

-- of two shortest spellings neither is longer
same_length : {A : Type 0} (F : Form ℕ A) (v : A) (t u : List ℕ) → IsShortest F v t → IsShortest F v u → length t ≡ length u
same_length F v t u h k = omega (arith, h.fewest 0 u (k.spells 0), k.fewest 0 t (h.spells 0))

pub one_uleb : IsOneShortest uleb
one_uleb v t u i j h k =
    let a = h.spells 0 in let b = k.spells 0 in
    same_groups (zero_or 1) t u a.0 b.0 i j (same_length uleb v t u h k) (sym a.1 ∙ b.1)

pub one_sleb : IsOneShortest sleb
one_sleb v t u i j h k = same_groups (zero_or 127) t u a.0 b.0 i j l (low (sign_of t a.0) (sign_of u b.0))
  where
    a : IsSleb v t
    a = h.spells 0

    b : IsSleb v u
    b = k.spells 0

    l : length t ≡ length u
    l = same_length sleb v t u h k

    e : signed_bits t ≡ signed_bits u
    e = sym a.1 ∙ b.1

    low : Clear t ⊎ Set t → Clear u ⊎ Set u → low_bits t ≡ low_bits u
    low (inl x) (inl y) = let same : pos (low_bits t) ≡ pos (low_bits u) = sym x.is ∙ e ∙ y.is in cc
    low (inl x) (inr y) = let same : pos (low_bits t) ≡ negsuc y.below = sym x.is ∙ e ∙ y.is in absurd (cc)
    low (inr x) (inl y) = let same : negsuc x.below ≡ pos (low_bits u) = sym x.is ∙ e ∙ y.is in absurd (cc)
    low (inr x) (inr y) =
        let same : negsuc x.below ≡ negsuc y.below = sym x.is ∙ e ∙ y.is in
        let under : x.below ≡ y.below = cc in
        omega (arith, under, x.whole, y.whole, ap (λ j. 128 ^ j) l)
