-- A word is UTF-8 in std's sense, and what else is one line of text.
use Rattle.std.proofs.Common.{◌≡◌, ◌≢◌, ◌∙◌, ap, subst, ◌⊎◌, inl, inr, ⊎_elim, refl, ℕ, zero, suc, ◌+◌, ◌-◌, ◌*◌, ◌/◌, ◌<◌, ◌≤◌, Bool, true, false, cond, not, nat_le, ◌==◌, ◌&&◌, ◌||◌, List, [], ◌∷◌, ◌++◌, length, Option, Some, None, arith, lit≤, lit<}
use Rattle.std.proofs.lemmas.Bool.{cases_lt, eqb-true, leb-true}
use Rattle.std.proofs.lemmas.List.Elements.{All-head, All-tail}
use lib.Dec.{T, leb, ltb, le→leb, lt→ltb, ltb→lt}
use lib.Utf8.{scalar, next, encode, low_scalar}
use Rattle.std.proofs.lemmas.Str.{IsUtf8-nil, IsUtf8-append, IsUtf8-encode, encode_ascii}
use Rattle.std.specs.Str.{IsUtf8}
use Rattle.readers.specs.Lines.{Lacks}
use Rattle.names.specs.Words.{is_between, is_letter, is_digit, lead_of, IsSomeWith, AreChars, IsWord}
use Rattle.layout_words.proofs.Lacking.{lacks_nil, lacks_cons, lacks_append, word_lacks, no_end}
use Rattle.layout_words.proofs.Visible.{IsFrom, from_lacks}

and_parts : (a b : Bool) → (a && b) ≡ true → (a ≡ true) × (b ≡ true)
and_parts true b e = (refl, e)
and_parts false b e = absurd (cc)

between : (low high c : ℕ) → is_between low high c ≡ true → (low ≤ c) × (c ≤ high)
between low high c e = let parts = and_parts (nat_le low c) (nat_le c high) e in (leb-true low c parts.0, leb-true c high parts.1)

-- what `encode` gives in each range

taken : {X : Type 0} (m n : ℕ) (a b : X) → m < n → cond (ltb m n) a b ≡ a
taken {X} m n a b h = by_test (ltb m n) (lt→ltb m n h)
  where
    by_test : (y : Bool) → T y → cond y a b ≡ a
    by_test true t = refl
    by_test false t = absurd t

passed : {X : Type 0} (m n : ℕ) (a b : X) → n ≤ m → cond (ltb m n) a b ≡ b
passed {X} m n a b h = by_test (ltb m n) (λ t. let below : m < n = ltb→lt m n t in omega (arith, below, h))
  where
    by_test : (y : Bool) (refused : T y → ⊥) → cond y a b ≡ b
    by_test true refused = absurd (refused tt)
    by_test false refused = refl

two : (c : ℕ) → 128 ≤ c → c < 2048 → encode c ≡ (192 + c / 64) ∷ next c ∷ []
unfolding encode
two c l h = passed c 128 _ _ l ∙ taken c 2048 _ _ h

three : (c : ℕ) → 2048 ≤ c → c < 65536 → encode c ≡ (224 + c / 4096) ∷ next (c / 64) ∷ next c ∷ []
unfolding encode
three c l h = passed c 128 _ _ (omega (arith, l)) ∙ passed c 2048 _ _ l ∙ taken c 65536 _ _ h

four : (c : ℕ) → 65536 ≤ c → encode c ≡ (240 + c / 262144) ∷ next (c / 4096) ∷ next (c / 64) ∷ next c ∷ []
unfolding encode
four c l = passed c 128 _ _ (omega (arith, l)) ∙ passed c 2048 _ _ (omega (arith, l)) ∙ passed c 65536 _ _ l

both_true : (x y z : Bool) → T y → T z → cond x true (y && z) ≡ true
both_true true y z p q = refl
both_true false true true p q = refl
both_true false true false p q = absurd q
both_true false false z p q = absurd p

high_scalar : (c : ℕ) → 57344 ≤ c → c < 1114112 → scalar c ≡ true
high_scalar c l h = both_true (ltb c 55296) (leb 57344 c) (ltb c 1114112) (le→leb 57344 c l) (lt→ltb c 1114112 h)

-- the bytes of a character, and then UTF-8
char_then : (c : ℕ) (p w : List ℕ) → scalar c ≡ true → encode c ≡ p → IsUtf8 w → IsUtf8 (p ++ w)
char_then c p w s e u = IsUtf8-append p w (subst IsUtf8 e (IsUtf8-encode c s)) u

-- a byte of ASCII, and then UTF-8
pub utf8_cons : (c : ℕ) (w : List ℕ) → c < 128 → IsUtf8 w → IsUtf8 (c ∷ w)
utf8_cons c w l u = char_then c (c ∷ []) w (low_scalar c (omega (arith, l))) (encode_ascii c l) u

-- a byte that goes on with a character
abbrev Follows : ℕ → Type 0
Follows b = (128 ≤ b) × (b ≤ 191)

two_then : (c a b : ℕ) (w : List ℕ) → c + 12416 ≡ a * 64 + b → 194 ≤ a → a ≤ 223 → Follows b → IsUtf8 w → IsUtf8 (a ∷ b ∷ w)
two_then c a b w is l h f u =
    let first : 192 + c / 64 ≡ a = omega (arith, is, l, f.0, f.1) in
    let second : next c ≡ b = omega (arith, is, l, f.0, f.1) in
    let small : c < 2048 = omega (arith, is, h, f.1) in
    char_then c (a ∷ b ∷ []) w (low_scalar c (omega (arith, small))) (two c (omega (arith, is, l, f.0)) small ∙ ap (λ x. x ∷ next c ∷ []) first ∙ ap (λ y. a ∷ y ∷ []) second) u

three_then : (c a b d : ℕ) (w : List ℕ) → c + 925824 ≡ a * 4096 + b * 64 + d → a < 240 → Follows b → Follows d → 2048 ≤ c → scalar c ≡ true → IsUtf8 w → IsUtf8 (a ∷ b ∷ d ∷ w)
three_then c a b d w is h f g least s u =
    let first : 224 + c / 4096 ≡ a = omega (arith, is, f.0, f.1, g.0, g.1, least) in
    let second : next (c / 64) ≡ b = omega (arith, is, f.0, f.1, g.0, g.1, least) in
    let third : next c ≡ d = omega (arith, is, f.0, f.1, g.0, g.1, least) in
    char_then c (a ∷ b ∷ d ∷ []) w s
    (three c least (omega (arith, is, h, f.1, g.1)) ∙ ap (λ x. x ∷ next (c / 64) ∷ next c ∷ []) first ∙ ap (λ y. a ∷ y ∷ next c ∷ []) second ∙ ap (λ z. a ∷ b ∷ z ∷ []) third) u

four_then : (c a b d e : ℕ) (w : List ℕ) → c + 63447168 ≡ a * 262144 + b * 4096 + d * 64 + e → Follows b → Follows d → Follows e → 65536 ≤ c → c < 1114112 → IsUtf8 w → IsUtf8 (a ∷ b ∷ d ∷ e ∷ w)
four_then c a b d e w is f g k least most u =
    let first : 240 + c / 262144 ≡ a = omega (arith, is, f.0, f.1, g.0, g.1, k.0, k.1, least) in
    let second : next (c / 4096) ≡ b = omega (arith, is, f.0, f.1, g.0, g.1, k.0, k.1, least) in
    let third : next (c / 64) ≡ d = omega (arith, is, f.0, f.1, g.0, g.1, k.0, k.1, least) in
    let fourth : next c ≡ e = omega (arith, is, f.0, f.1, g.0, g.1, k.0, k.1, least) in
    char_then c (a ∷ b ∷ d ∷ e ∷ []) w (high_scalar c (omega (arith, least)) most)
    (four c least
    ∙ ap (λ x. x ∷ next (c / 4096) ∷ next (c / 64) ∷ next c ∷ []) first
    ∙ ap (λ x. a ∷ x ∷ next (c / 64) ∷ next c ∷ []) second
    ∙ ap (λ x. a ∷ b ∷ x ∷ next c ∷ []) third
    ∙ ap (λ x. a ∷ b ∷ d ∷ x ∷ []) fourth) u

-- characters past ASCII, where what follows is UTF-8
module _ (m : ℕ) (more : (w : List ℕ) → length w ≤ m → AreChars false 0 128 191 w → IsUtf8 w) where
  two_bytes : (c : ℕ) → 194 ≤ c → c ≤ 223 → (w : List ℕ) → length w ≤ m → AreChars false 1 128 191 w → IsUtf8 (c ∷ w)
  unfolding AreChars
  two_bytes c l h [] k a = absurd a
  two_bytes c l h (d ∷ w) k a =
      let x = between 128 191 d a.0 in
      two_then ((c * 64 + d) - 12416) c d w (omega (arith, l, x.0)) l h x (more w (omega (arith, k)) a.1)

  -- the second byte is from low to high
  three_bytes : (c low high : ℕ) → 224 ≤ c → c < 240 → 128 ≤ low → high ≤ 191 → 927872 ≤ c * 4096 + low * 64 + 128 → (c * 4096 + high * 64 + 191 < 981120) ⊎ (238 ≤ c)
      → (w : List ℕ) → length w ≤ m → AreChars false 2 low high w → IsUtf8 (c ∷ w)
  unfolding AreChars
  three_bytes c low high l h b t least most [] k a = absurd a
  three_bytes c low high l h b t least most (d ∷ []) k a = absurd a.1
  three_bytes c low high l h b t least most (d ∷ e ∷ w) k a =
      let x = between low high d a.0 in
      let y = between 128 191 e a.1.0 in
      let code = (c * 4096 + d * 64 + e) - 925824 in
      let is : code + 925824 ≡ c * 4096 + d * 64 + e = sum_of c d e l (omega (arith, b, x.0)) y.0 in
      let s = ⊎_elim (λ (below : c * 4096 + high * 64 + 191 < 981120). low_scalar code (omega (arith, is, below, x.1, y.1))) (λ (above : 238 ≤ c). high_scalar code (omega (arith, is, above, b, x.0, y.0)) (omega (arith, is, h, t, x.1, y.1))) most in
      three_then code c d e w is h (omega (arith, b, x.0), omega (arith, t, x.1)) y (omega (arith, is, least, x.0, y.0)) s (more w (omega (arith, k)) a.1.1)
    where
      sum_of : (c d e : ℕ) → 224 ≤ c → 128 ≤ d → 128 ≤ e → ((c * 4096 + d * 64 + e) - 925824) + 925824 ≡ c * 4096 + d * 64 + e
      sum_of c d e l p q = omega (arith, l, p, q)

  four_bytes : (c low high : ℕ) → 240 ≤ c → 128 ≤ low → high ≤ 191 → 63512704 ≤ c * 262144 + low * 4096 + 8320 → c * 262144 + high * 4096 + 12415 < 64561280
      → (w : List ℕ) → length w ≤ m → AreChars false 3 low high w → IsUtf8 (c ∷ w)
  unfolding AreChars
  four_bytes c low high l b t least most [] k a = absurd a
  four_bytes c low high l b t least most (d ∷ []) k a = absurd a.1
  four_bytes c low high l b t least most (d ∷ e ∷ []) k a = absurd a.1.1
  four_bytes c low high l b t least most (d ∷ e ∷ f ∷ w) k a =
      let x = between low high d a.0 in
      let y = between 128 191 e a.1.0 in
      let z = between 128 191 f a.1.1.0 in
      let code = (c * 262144 + d * 4096 + e * 64 + f) - 63447168 in
      let is : code + 63447168 ≡ c * 262144 + d * 4096 + e * 64 + f = sum_of c d e f l (omega (arith, b, x.0)) y.0 z.0 in
      four_then code c d e f w is (omega (arith, b, x.0), omega (arith, t, x.1)) y z (omega (arith, is, least, x.0, y.0, z.0)) (omega (arith, is, most, x.1, y.1, z.1)) (more w (omega (arith, k)) a.1.1.1)
    where
      sum_of : (c d e f : ℕ) → 240 ≤ c → 128 ≤ d → 128 ≤ e → 128 ≤ f → ((c * 262144 + d * 4096 + e * 64 + f) - 63447168) + 63447168 ≡ c * 262144 + d * 4096 + e * 64 + f
      sum_of c d e f l p q r = omega (arith, l, p, q, r)

or_cases : (a b : Bool) → (a || b) ≡ true → (a ≡ true) ⊎ (b ≡ true)
or_cases true b e = inl refl
or_cases false b e = inr e

letter_small : (c : ℕ) → is_letter c ≡ true → c < 128
letter_small c e =
    ⊎_elim (λ (h : is_between 65 90 c ≡ true). let x = between 65 90 c h in omega (arith, x.1))
    (λ (h : (is_between 97 122 c || c == 95) ≡ true).
    ⊎_elim (λ (g : is_between 97 122 c ≡ true). let x = between 97 122 c g in omega (arith, x.1)) (λ (g : (c == 95) ≡ true). let is = eqb-true c 95 g in omega (arith, is)) (or_cases (is_between 97 122 c) (c == 95) h))
    (or_cases (is_between 65 90 c) (is_between 97 122 c || c == 95) e)

letter_or_digit : (first : Bool) (c : ℕ) → (is_letter c || (is_digit c && not first)) ≡ true → c < 128
letter_or_digit first c e =
    ⊎_elim (λ (h : is_letter c ≡ true). letter_small c h) (λ (h : (is_digit c && not first) ≡ true). let x = between 48 57 c (and_parts (is_digit c) (not first) h).0 in omega (arith, x.1))
    (or_cases (is_letter c) (is_digit c && not first) e)

by_test : {A Q : Type 0} (z : Bool) (o other : Option A) (P : A → Type 0) → IsSomeWith (cond z o other) P → (z ≡ true → IsSomeWith o P → Q) → (z ≡ false → IsSomeWith other P → Q) → Q
by_test true o other P h f g = f refl h
by_test false o other P h f g = g refl h

not_237 : (c : ℕ) → (c == 237) ≡ false → c ≢ 237
not_237 c e = λ is. grind (arith, e, is)

-- a first byte before or past the one whose characters may be surrogates
around : (c : ℕ) → c ≢ 237 → (c * 4096 + 191 * 64 + 191 < 981120) ⊎ (238 ≤ c)
around c h = ⊎_elim (λ (l : c < 237). inl (omega (arith, l))) (λ (l : 237 ≤ c). inr (⊎_elim (λ (m : 237 < c). omega (arith, m)) (λ (m : c ≤ 237). absurd (h (omega (arith, l, m)))) (cases_lt 237 c))) (cases_lt c 237)

-- characters of a word, as many as there are bytes at most
chars_utf8 : (m : ℕ) (w : List ℕ) (first : Bool) → length w ≤ m → AreChars first 0 128 191 w → IsUtf8 w
unfolding AreChars
chars_utf8 m [] first k a = IsUtf8-nil
chars_utf8 zero (c ∷ w) first k a = absurd (omega (arith, k))
chars_utf8 (suc m) (c ∷ w) first k a =
    let more = λ (v : List ℕ) (l : length v ≤ m) (b : AreChars false 0 128 191 v). chars_utf8 m v false l b in
    let short : length w ≤ m = omega (arith, k) in
    by_test (is_letter c || (is_digit c && not first)) _ _ _ a (λ e h. utf8_cons c w (letter_or_digit first c e) (more w short h))
    (λ _ a1. by_test (is_between 194 223 c) _ _ _ a1 (λ e h. let x = between 194 223 c e in two_bytes m more c x.0 x.1 w short h)
    (λ _ a2. by_test (c == 224) _ _ _ a2 (λ e h. let is = eqb-true c 224 e in three_bytes m more c 160 191 (omega (arith, is)) (omega (arith, is)) (lit≤ tt) (lit≤ tt) (omega (arith, is)) (inl (omega (arith, is))) w short h)
    (λ _ a3. by_test (c == 237) _ _ _ a3 (λ e h. let is = eqb-true c 237 e in three_bytes m more c 128 159 (omega (arith, is)) (omega (arith, is)) (lit≤ tt) (lit≤ tt) (omega (arith, is)) (inl (omega (arith, is))) w short h)
    (λ other a4. by_test (is_between 225 239 c) _ _ _ a4 (λ e h. let x = between 225 239 c e in three_bytes m more c 128 191 (omega (arith, x.0)) (omega (arith, x.1)) (lit≤ tt) (lit≤ tt) (omega (arith, x.0)) (around c (not_237 c other)) w short h)
    (λ _ a5. by_test (c == 240) _ _ _ a5 (λ e h. let is = eqb-true c 240 e in four_bytes m more c 144 191 (omega (arith, is)) (lit≤ tt) (lit≤ tt) (omega (arith, is)) (omega (arith, is)) w short h)
    (λ _ a6. by_test (is_between 241 243 c) _ _ _ a6 (λ e h. let x = between 241 243 c e in four_bytes m more c 128 191 (omega (arith, x.0)) (lit≤ tt) (lit≤ tt) (omega (arith, x.0)) (omega (arith, x.1)) w short h)
    (λ _ a7. by_test (c == 244) _ _ _ a7 (λ e h. let is = eqb-true c 244 e in four_bytes m more c 128 143 (omega (arith, is)) (lit≤ tt) (lit≤ tt) (omega (arith, is)) (omega (arith, is)) w short h)
    (λ _ a8. absurd a8))))))))

-- the state at the beginning of a word says nothing of the next byte
begun : (w : List ℕ) → AreChars true 0 0 0 w → AreChars true 0 128 191 w
unfolding AreChars
begun [] a = a
begun (c ∷ w) a = a

pub word_utf8 : (w : List ℕ) → IsWord w → IsUtf8 w
word_utf8 w h = chars_utf8 (length w) w true (omega arith) (begun w h.0)

-- UTF-8 without an end of a line
abbrev pub IsOneLine : List ℕ → Type 0
IsOneLine bytes = Lacks 10 bytes × IsUtf8 bytes

pub line_nil : IsOneLine []
line_nil = (lacks_nil 10, IsUtf8-nil)

pub line_cons : (c : ℕ) (bytes : List ℕ) → c < 128 → c ≢ 10 → IsOneLine bytes → IsOneLine (c ∷ bytes)
line_cons c bytes small other h = (lacks_cons 10 c bytes other h.0, utf8_cons c bytes small h.1)

pub line_append : (xs ys : List ℕ) → IsOneLine xs → IsOneLine ys → IsOneLine (xs ++ ys)
line_append xs ys h k = (lacks_append 10 xs ys h.0 k.0, IsUtf8-append xs ys h.1 k.1)

visible_utf8 : (least : ℕ) (bytes : List ℕ) → IsFrom least bytes → IsUtf8 bytes
visible_utf8 least [] h = IsUtf8-nil
visible_utf8 least (b ∷ bytes) h =
    utf8_cons b bytes (All-head (λ x. (least ≤ x) × (x < 128)) b bytes h).1 (visible_utf8 least bytes (All-tail (λ x. (least ≤ x) × (x < 128)) b bytes h))

pub line_visible : (least : ℕ) (bytes : List ℕ) → 10 < least → IsFrom least bytes → IsOneLine bytes
line_visible least bytes l h = (from_lacks least 10 bytes l h, visible_utf8 least bytes h)

pub line_word : (w : List ℕ) → IsWord w → IsOneLine w
line_word w h = (word_lacks 10 (lit< tt) no_end w h, word_utf8 w h)
