-- Texts that lack a byte.
use Rattle.std.proofs.Common.{◌≡◌, ◌≢◌, ◌∙◌, ap, refl, ℕ, zero, suc, ◌<◌, ◌≤◌, Bool, true, false, cond, ◌==◌, ◌&&◌, ◌||◌, not, nat_le, List, [], ◌∷◌, ◌++◌, Option, Some, None, arith, lit≤, ◌^◌, ◌⊎◌, inl, inr, ⊎_elim}
use Rattle.std.proofs.lemmas.Bool.{leb-true}
use Rattle.std.proofs.lemmas.List.Elements.{All-nil, All-cons, All-append}
use Rattle.std.specs.Char.{digit_value}
use Rattle.std.specs.Fmt.{decimal}
use Rattle.std.specs.Str.Parse.{AllDigits}
use Rattle.readers.specs.Lines.{Lacks}
use Rattle.names.specs.Words.{is_between, is_letter, is_digit, lead_of, IsSomeWith, AreChars, IsWord}
use Rattle.layout_words.proofs.Decimals.{numeral}

pub lacks_nil : (c : ℕ) → Lacks c []
lacks_nil c = All-nil (λ b. b ≢ c)

pub lacks_cons : (c b : ℕ) (bytes : List ℕ) → b ≢ c → Lacks c bytes → Lacks c (b ∷ bytes)
lacks_cons c b bytes h k = All-cons (λ x. x ≢ c) b bytes h k

pub lacks_append : (c : ℕ) (xs ys : List ℕ) → Lacks c xs → Lacks c ys → Lacks c (xs ++ ys)
lacks_append c xs ys h k = All-append (λ b. b ≢ c) xs ys h k

-- the same as a test, for literals
abbrev pub is_free : ℕ → List ℕ → Bool
is_free c [] = true
is_free c (b ∷ bytes) = not (b == c) && is_free c bytes

not_same : (b c : ℕ) → not (b == c) ≡ true → b ≢ c
not_same b c e = λ h. grind (arith, e, h)

and_parts : (a b : Bool) → (a && b) ≡ true → (a ≡ true) × (b ≡ true)
and_parts true b e = (refl, e)
and_parts false b e = absurd (cc)

pub free_lacks : (c : ℕ) (bytes : List ℕ) → is_free c bytes ≡ true → Lacks c bytes
free_lacks c [] e = lacks_nil c
free_lacks c (b ∷ bytes) e = let parts = and_parts (not (b == c)) (is_free c bytes) e in lacks_cons c b bytes (not_same b c parts.0) (free_lacks c bytes parts.1)

digits_lack : (c : ℕ) (ds : List ℕ) → 10 ≤ digit_value c → AllDigits 10 ds → Lacks c ds
digits_lack c [] h d = lacks_nil c
digits_lack c (x ∷ ds) h d = lacks_cons c x ds (λ e. let same = ap digit_value e in omega (arith, d.0)) (digits_lack c ds h d.1)

-- a number of at most 128 bits has digits alone
pub decimal_lacks : (c bits n : ℕ) → 10 ≤ digit_value c → bits ≤ 128 → n < 2 ^ bits → Lacks c (decimal n)
decimal_lacks c bits n h k l = digits_lack c (decimal n) h (numeral bits n k l).0.1

-- no character begins with the byte
abbrev pub NoLead : ℕ → Type 0
NoLead b = (first : Bool) → lead_of first b ≡ None

no_some : {A : Type 0} (o : Option A) (P : A → Type 0) → o ≡ None → IsSomeWith o P → ⊥
no_some None P e h = h
no_some (Some x) P e h = absurd (cc)

some_if : {A Q : Type 0} (z : Bool) (o o' : Option A) (P : A → Type 0) → IsSomeWith (cond z o o') P → (IsSomeWith o P → Q) → (IsSomeWith o' P → Q) → Q
some_if true o o' P h f g = f h
some_if false o o' P h f g = g h

module _ (b : ℕ) (small : b < 128) (none : NoLead b) where
  -- the later bytes of a character are past ASCII
  chars_lack : (w : List ℕ) (first : Bool) (n low high : ℕ) → (n ≡ 0) ⊎ (128 ≤ low) → AreChars first n low high w → Lacks b w
  unfolding AreChars
  chars_lack [] first n low high h k = lacks_nil b
  chars_lack (c ∷ w) first (suc n) low high h k =
      let above = leb-true low c (and_parts (nat_le low c) (nat_le c high) k.0).0 in
      let past : 128 ≤ low = ⊎_elim (λ (e : suc n ≡ 0). absurd (omega arith)) (λ (l : 128 ≤ low). l) h in
      lacks_cons b c w (λ e. omega (arith, above, past, e)) (chars_lack w first n 128 191 (inr (lit≤ tt)) k.1)
  chars_lack (c ∷ w) first zero low high h k =
      lacks_cons b c w (λ e. no_some (lead_of first c) _ (ap (lead_of first) e ∙ none first) k)
      (some_if (is_letter c || (is_digit c && not first)) _ _ _ k (λ h0. chars_lack w false 0 128 191 (inr (lit≤ tt)) h0)
      (λ k1. some_if (is_between 194 223 c) _ _ _ k1 (λ h1. chars_lack w false 1 128 191 (inr (lit≤ tt)) h1)
      (λ k2. some_if (c == 224) _ _ _ k2 (λ h2. chars_lack w false 2 160 191 (inr (lit≤ tt)) h2)
      (λ k3. some_if (c == 237) _ _ _ k3 (λ h3. chars_lack w false 2 128 159 (inr (lit≤ tt)) h3)
      (λ k4. some_if (is_between 225 239 c) _ _ _ k4 (λ h4. chars_lack w false 2 128 191 (inr (lit≤ tt)) h4)
      (λ k5. some_if (c == 240) _ _ _ k5 (λ h5. chars_lack w false 3 144 191 (inr (lit≤ tt)) h5)
      (λ k6. some_if (is_between 241 243 c) _ _ _ k6 (λ h6. chars_lack w false 3 128 191 (inr (lit≤ tt)) h6)
      (λ k7. some_if (c == 244) _ _ _ k7 (λ h7. chars_lack w false 3 128 143 (inr (lit≤ tt)) h7)
      (λ k8. absurd k8)))))))))

  -- a word has no byte below 128 with which no character begins
  pub word_lacks : (w : List ℕ) → IsWord w → Lacks b w
  word_lacks w h = chars_lack w true 0 0 0 (inl refl) h.0

pub no_space : NoLead 32
no_space true = refl
no_space false = refl

pub no_end : NoLead 10
no_end true = refl
no_end false = refl
