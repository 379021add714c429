-- The raw text of bytes is read as these bytes.
use Rattle.std.proofs.Common.{◌≡◌, ◌≢◌, ◌∙◌, sym, ap, subst, refl, ℕ, zero, suc, ◌<◌, ◌≤◌, ◌+◌, ◌-◌, ◌*◌, ◌/◌, ◌%◌, Bool, true, false, cond, ◌==◌, ◌&&◌, ◌||◌, nat_le, List, [], ◌∷◌, ◌++◌, length, map, take, drop, length-append, Some, None, codes, arith, ⊎_elim, slice_index, ◌⊎◌, inl, inr}
use Rattle.std.proofs.lemmas.Bool.{cases_lt, eqb-true, eqb-false, leb-true}
use Rattle.std.proofs.lemmas.Option.{cond_some}
use Rattle.std.proofs.lemmas.Slice.Eq.{bytes_eq-Decides}
use Rattle.std.proofs.lemmas.List.Elements.{All-nil, All-cons, All-head, All-tail}
use Rattle.std.proofs.Math.Seq.{take-append_seam}
use Rattle.std.specs.List.{flat_map, All}
use Rattle.std.specs.Str.{bytes_eq}
use Rattle.hex.specs.Hex.{encode_with, encode_lower, lower_digits}
use Rattle.layout_words.specs.Spellings.{unescaped, byte_of, digit_value, raw_of, raw_text, escape}
use Rattle.layout_words.proofs.Escapes.{unescaped_none, unescaped_plain, unescaped_behind, unescaped_digits}

is_digit_of : ℕ → Bool
is_digit_of k = digit_value (slice_index lower_digits k) == k

below : ℕ → Bool
below zero = true
below (suc n) = is_digit_of n && below n

and_parts : (a b : Bool) → (a && b) ≡ true → (a ≡ true) × (b ≡ true)
and_parts true b e = (refl, e)
and_parts false b e = absurd (cc)

below_holds : (n : ℕ) → below n ≡ true → (k : ℕ) → k < n → is_digit_of k ≡ true
unfolding below
below_holds zero e k l = absurd (omega arith)
below_holds (suc n) e k l =
    let parts = and_parts (is_digit_of n) (below n) e in
    ⊎_elim (λ (h : k < n). below_holds n parts.1 k h) (λ (h : n ≤ k). let same : n ≡ k = omega arith in subst (λ j. is_digit_of j ≡ true) same parts.0) (cases_lt k n)

all_below : below 16 ≡ true
unfolding below is_digit_of
all_below = refl

digit_of : (k : ℕ) → k < 16 → digit_value (slice_index lower_digits k) ≡ k
unfolding is_digit_of
digit_of k l = eqb-true (digit_value (slice_index lower_digits k)) k (below_holds 16 all_below k l)

-- what the escape of a byte is read as
abbrev byte_again : ℕ → ℕ
byte_again c = byte_of (slice_index lower_digits (c / 16)) (slice_index lower_digits (c % 16))

abbrev pub again : ℕ → ℕ
again c = cond (c == 34 || c == 92) c (cond (nat_le 32 c && nat_le c 126) c (byte_again c))

byte_again_is : (c : ℕ) → c < 256 → byte_again c ≡ c
byte_again_is c l =
    let high = digit_of (c / 16) (omega arith) in
    let low = digit_of (c % 16) (omega arith) in
    ap (λ h. (h * 16 + digit_value (slice_index lower_digits (c % 16))) % 256) high ∙ ap (λ m. (c / 16 * 16 + m) % 256) low ∙ (omega arith)

both_ways : {A : Type 0} (P : A → Type 0) (b : Bool) (x y : A) → (b ≡ true → P x) → (b ≡ false → P y) → P (cond b x y)
both_ways P true x y h k = h refl
both_ways P false x y h k = k refl

again_is : (c : ℕ) → c < 256 → again c ≡ c
again_is c l = both_ways (λ x. x ≡ c) (c == 34 || c == 92) c _ (λ e. refl) (λ e. both_ways (λ x. x ≡ c) (nat_le 32 c && nat_le c 126) c _ (λ e. refl) (λ e. byte_again_is c l))

or_cases : (a b : Bool) → (a || b) ≡ true → (a ≡ true) ⊎ (b ≡ true)
or_cases true b e = inl refl
or_cases false b e = inr e

quote_small : (c : ℕ) → (c == 34 || c == 92) ≡ true → (c ≢ 120) × (c < 256)
quote_small c e = ⊎_elim (λ (h : (c == 34) ≡ true). let is = eqb-true c 34 h in ((λ x. omega arith), omega arith)) (λ (h : (c == 92) ≡ true). let is = eqb-true c 92 h in ((λ x. omega arith), omega arith)) (or_cases (c == 34) (c == 92) e)

or_false : (a b : Bool) → (a || b) ≡ false → b ≡ false
or_false true b e = absurd (cc)
or_false false b e = e

again_small : (c : ℕ) → again c < 256
again_small c =
    both_ways (λ x. x < 256) (c == 34 || c == 92) c _ (λ e. (quote_small c e).1)
    (λ e. both_ways (λ x. x < 256) (nat_le 32 c && nat_le c 126) c _ (λ p. omega (arith, leb-true c 126 (and_parts (nat_le 32 c) (nat_le c 126) p).1)) (λ p. omega arith))

-- one escape
unescaped_one : (c : ℕ) (text : List ℕ) → unescaped (escape c ++ text) ≡ again c ∷ unescaped text
unfolding encode_with
unescaped_one c text =
    quoted (c == 34 || c == 92) refl
  where
    plain : (p : Bool) → (nat_le 32 c && nat_le c 126) ≡ p → (c == 34 || c == 92) ≡ false
        → unescaped (cond p (c ∷ []) (codes "\\x" ++ encode_lower (c ∷ [])) ++ text) ≡ cond p c (byte_again c) ∷ unescaped text
    plain true e q = unescaped_plain c text (eqb-false c 92 (or_false (c == 34) (c == 92) q))
    plain false e q = unescaped_digits (slice_index lower_digits (c / 16)) (slice_index lower_digits (c % 16)) text

    quoted : (q : Bool) → (c == 34 || c == 92) ≡ q
        → unescaped (cond q (92 ∷ c ∷ []) (cond (nat_le 32 c && nat_le c 126) (c ∷ []) (codes "\\x" ++ encode_lower (c ∷ []))) ++ text) ≡ cond q c (cond (nat_le 32 c && nat_le c 126) c (byte_again c)) ∷ unescaped text
    quoted true e = unescaped_behind c text (quote_small c e).0
    quoted false e = plain (nat_le 32 c && nat_le c 126) refl e

-- all escapes
unescaped_all : (bytes : List ℕ) → unescaped (flat_map escape bytes) ≡ map again bytes
unescaped_all [] = unescaped_none
unescaped_all (c ∷ bytes) = unescaped_one c (flat_map escape bytes) ∙ ap (λ l. again c ∷ l) (unescaped_all bytes)

again_all : (bytes : List ℕ) → All (λ b. b < 256) bytes → map again bytes ≡ bytes
again_all [] h = refl
again_all (c ∷ bytes) h = ap (λ x. x ∷ map again bytes) (again_is c (All-head (λ b. b < 256) c bytes h)) ∙ ap (λ l. c ∷ l) (again_all bytes (All-tail (λ b. b < 256) c bytes h))

all_small : (bytes : List ℕ) → All (λ b. b < 256) (map again bytes)
all_small [] = All-nil (λ b. b < 256)
all_small (c ∷ bytes) = All-cons (λ b. b < 256) (again c) (map again bytes) (again_small c) (all_small bytes)

-- what stands between the quotes
inside : (bytes : List ℕ) → take (length (raw_text bytes) - 2) (drop 1 (raw_text bytes)) ≡ flat_map escape bytes
inside bytes =
    let n : length (raw_text bytes) - 2 ≡ length (flat_map escape bytes) = omega (arith, length-append (flat_map escape bytes) (codes "\"")) in
    ap (λ k. take k (flat_map escape bytes ++ codes "\"")) n ∙ take-append_seam (flat_map escape bytes) (codes "\"")

read_inside : (bytes : List ℕ) → unescaped (take (length (raw_text bytes) - 2) (drop 1 (raw_text bytes))) ≡ map again bytes
read_inside bytes = ap unescaped (inside bytes) ∙ unescaped_all bytes

pub raw_some : (bytes : List ℕ) → All (λ b. b < 256) bytes → raw_of (raw_text bytes) ≡ Some bytes
unfolding raw_of
raw_some bytes h =
    let is = read_inside bytes ∙ again_all bytes h in
    let same = (bytes_eq-Decides (raw_text bytes) (raw_text bytes)).1 refl in
    ap (λ b. cond (bytes_eq (raw_text bytes) (raw_text b)) (Some b) None) is ∙ ap (λ t. cond t (Some bytes) None) same

pub raw_says : (text bytes : List ℕ) → raw_of text ≡ Some bytes → (text ≡ raw_text bytes) × All (λ b. b < 256) bytes
unfolding raw_of
raw_says text bytes e =
    let read = unescaped (take (length text - 2) (drop 1 text)) in
    let at = cond_some (bytes_eq text (raw_text read)) read bytes e in
    let is = (bytes_eq-Decides text (raw_text read)).0 at.0 ∙ ap raw_text at.1 in
    let bytes_are : bytes ≡ map again bytes = sym at.1 ∙ ap (λ t. unescaped (take (length t - 2) (drop 1 t))) is ∙ read_inside bytes in
    (is, subst (All (λ b. b < 256)) (sym bytes_are) (all_small bytes))
