-- A word is read as far as it goes.
use Rattle.std.proofs.Common.{◌≡◌, ℕ, zero, suc, ◌+◌, ◌-◌, ◌<◌, ◌≤◌, Bool, true, false, ◌==◌, ◌&&◌, ◌||◌, not, nat_lt, if◌then◌else◌, List}
use Rattle.std.proofs.Common.{[], ◌∷◌, ◌++◌, length, Option, Some, None, ◌⊎◌, inl, inr, refl, sym, ap, subst, ◌∙◌, arith}
use Rattle.std.proofs.lemmas.Bool.{ltb-true, lt-ltb}
use Rattle.names.specs.declared.word.Lead.{Lead}
use Rattle.names.specs.Words.{is_between, is_letter, is_digit, wide_lead, lead_of, led, IsSomeWith, AreChars, IsWord}
use Rattle.names.specs.Reading.{Res, got, bad, if_some, cons, no_char, chars, word}
use Rattle.names.proofs.Readers.{Suffix, Follows, Viable, Right, IsReader, Suffix-right, Follows-then, Follows-if, Follows-got, Follows-bad, Follows-past}

-- no character of a word begins here
abbrev pub NoChar : List ℕ → Type 0
NoChar [] = Unit {0}
NoChar (c ∷ k) = lead_of false c ≡ None

abbrev Fits : Lead → Type 0
Fits l = (is_between l.low l.high l.low ≡ true) × (l.count ≤ 3)

fits_if : (z : Bool) (o o' : Option Lead) → ((l : Lead) → o ≡ Some l → Fits l) → ((l : Lead) → o' ≡ Some l → Fits l) → (l : Lead) →
    (if z then o else o') ≡ Some l → Fits l
fits_if true o o' h g l e = h l e
fits_if false o o' h g l e = g l e

fits_led : (n low high : ℕ) → is_between low high low ≡ true → n ≤ 3 → (l : Lead) → led n low high ≡ Some l → Fits l
fits_led n low high ok small l e = let same : record { count = n; low = low; high = high } ≡ l = cc in subst Fits same (ok, small)

fits_none : (l : Lead) → None ≡ Some l → Fits l
fits_none l e = cc

fits_wide : (c : ℕ) (l : Lead) → wide_lead c ≡ Some l → Fits l
fits_wide c =
    fits_if (is_between 194 223 c) _ _ (fits_led 1 128 191 refl (omega arith))
    (fits_if (c == 224) _ _ (fits_led 2 160 191 refl (omega arith))
    (fits_if (c == 237) _ _ (fits_led 2 128 159 refl (omega arith))
    (fits_if (is_between 225 239 c) _ _ (fits_led 2 128 191 refl (omega arith))
    (fits_if (c == 240) _ _ (fits_led 3 144 191 refl (omega arith))
    (fits_if (is_between 241 243 c) _ _ (fits_led 3 128 191 refl (omega arith))
    (fits_if (c == 244) _ _ (fits_led 3 128 143 refl (omega arith)) fits_none))))))

fits : (first : Bool) (c : ℕ) (l : Lead) → lead_of first c ≡ Some l → Fits l
fits first c = fits_if (is_letter c || (is_digit c && not first)) _ _ (fits_led 0 128 191 refl (omega arith)) (fits_wide c)

-- the bytes that are still to come do come
pending : (first : Bool) (n low high : ℕ) (t : List ℕ) → AreChars first n low high t → n ≤ length t
unfolding AreChars
pending first zero low high t h = omega arith
pending first (suc n) low high [] h = absurd h
pending first (suc n) low high (c ∷ t) h = let more = pending first n 128 191 t h.1 in omega arith

by_lead : {P : Type 0} (o : Option Lead) → (o ≡ None → P) → ((l : Lead) → o ≡ Some l → P) → P
by_lead None f g = f refl
by_lead (Some l) f g = g l refl

ends_here : (first : Bool) (room low high : ℕ) (k : List ℕ) → first ≡ false → NoChar k → chars first room 0 low high k ≡ got [] k
unfolding chars
ends_here true room low high k e h = cc
ends_here false room low high [] e h = refl
ends_here false room low high (c ∷ k) e h =
    ap (λ o. if_some o (λ l. if nat_lt l.count room then cons c (chars false (room - suc l.count) l.count l.low l.high k) else got [] (c ∷ k))
    (got [] (c ∷ k))) h

chars_complete : (t k : List ℕ) (first : Bool) (room n low high : ℕ) → AreChars first n low high t → length t ≤ room + n → NoChar k →
    chars first room n low high (t ++ k) ≡ got t k
unfolding chars AreChars
chars_complete [] k first room zero low high h short stops = ends_here first room low high k h stops
chars_complete [] k first room (suc n) low high h short stops = absurd h
chars_complete (c ∷ t) k first room (suc n) low high h short stops =
    ap (λ z. if z then cons c (chars first room n 128 191 (t ++ k)) else bad (c ∷ (t ++ k))) h.0
    ∙ ap (cons c) (chars_complete t k first room n 128 191 h.1 (omega arith) stops)
chars_complete (c ∷ t) k first room zero low high h short stops =
    by_lead (lead_of first c) (λ e. absurd (subst (λ o. IsSomeWith o (λ l. AreChars false l.count l.low l.high t)) e h))
    (λ l e.
    let chars_of = subst (λ o. IsSomeWith o (λ l. AreChars false l.count l.low l.high t)) e h in
    let there = pending false l.count l.low l.high t chars_of in
    ap (λ o. if_some o (λ l.
    if nat_lt l.count room then cons c (chars false (room - suc l.count) l.count l.low l.high (t ++ k)) else no_char first (c ∷ (t ++ k)))
    (no_char first (c ∷ (t ++ k)))) e
    ∙ ap (λ z. if z then cons c (chars false (room - suc l.count) l.count l.low l.high (t ++ k)) else no_char first (c ∷ (t ++ k)))
    (lt-ltb l.count room (omega arith))
    ∙ ap (cons c) (chars_complete t k false (room - suc l.count) l.count l.low l.high chars_of (omega arith) stops))

abbrev CharsOf : Bool → ℕ → ℕ → ℕ → ℕ → List ℕ → List ℕ → Type 0
CharsOf first room n low high w t = (AreChars first n low high w × (length w ≤ room + n)) × (t ≡ w)

-- bytes that are still to come
rest_of_char : ℕ → ℕ → List ℕ
rest_of_char zero low = []
rest_of_char (suc n) low = low ∷ rest_of_char n 128

come : (n low high : ℕ) → is_between low high low ≡ true → AreChars false n low high (rest_of_char n low) × (length (rest_of_char n low) ≤ n)
unfolding AreChars rest_of_char
come zero low high e = (refl, omega arith)
come (suc n) low high e = let more = come n 128 191 refl in ((e, more.0), omega (arith, more.1))

-- a word that goes on from here, where there is room for a character or none must come
abbrev HasRoom : Bool → ℕ → ℕ → Type 0
HasRoom first room n = (first ≡ true → 0 < room) × (first ≡ true → n ≡ 0)

some_chars : (first : Bool) (room n low high : ℕ) → is_between low high low ≡ true → HasRoom first room n → Viable (CharsOf first room n low high) []
unfolding AreChars
some_chars false room n low high e h = let w = come n low high e in (rest_of_char n low, (rest_of_char n low, ((w.0, omega (arith, w.1)), refl)))
some_chars true room (suc n) low high e h = absurd (omega (arith, h.1 refl))
some_chars true room zero low high e h = (97 ∷ [], (97 ∷ [], ((refl, omega (arith, h.0 refl)), refl)))

-- what is read is right
abbrev RightChars : Bool → ℕ → ℕ → ℕ → ℕ → List ℕ → Res (List ℕ) → Type 0
RightChars first room n low high = Right (CharsOf first room n low high)

right_cons : (first first' : Bool) (room room' n n' low low' high high' c : ℕ) (s : List ℕ) (x : Res (List ℕ)) → RightChars first' room' n' low' high' s x
    → ((w : List ℕ) → CharsOf first' room' n' low' high' w w → CharsOf first room n low high (c ∷ w) (c ∷ w))
    → Viable (CharsOf first room n low high) (c ∷ []) → RightChars first room n low high (c ∷ s) (cons c x)
right_cons first first' room room' n n' low low' high high' c s (got w k) h more some =
    (c ∷ w, (more w (h.1.0.0, refl), ap (λ l. c ∷ l) (h.1.1 ∙ ap (λ l. l ++ k) h.1.0.1)))
right_cons first first' room room' n n' low low' high high' c s (bad k) h more some =
    (c ∷ h.0, (ap (λ l. c ∷ l) h.1.0, inr (viable h.0 h.1.1)))
  where
    viable : (p : List ℕ) → (p ≡ []) ⊎ Viable (CharsOf first' room' n' low' high') p → Viable (CharsOf first room n low high) (c ∷ p)
    viable p (inl e) = subst (λ l. Viable (CharsOf first room n low high) (c ∷ l)) (sym e) some
    viable p (inr (v, (r, h))) = (c ∷ (p ++ r), (r, more (p ++ r) (subst (λ w. CharsOf first' room' n' low' high' w w) (sym h.1) (h.0, refl))))

right_none : (first : Bool) (room low high : ℕ) (s : List ℕ) → RightChars first room 0 low high s (no_char first s)
unfolding AreChars
right_none true room low high s = ([], (refl, inl refl))
right_none false room low high s = ([], (((refl, omega arith), refl), refl))

abbrev Led : Bool → ℕ → ℕ → List ℕ → Lead → Res (List ℕ)
Led first room c s l = if nat_lt l.count room then cons c (chars false (room - suc l.count) l.count l.low l.high s) else no_char first (c ∷ s)

chars_right : (s : List ℕ) (first : Bool) (room n low high : ℕ) → is_between low high low ≡ true → (first ≡ true → n ≡ 0) →
    RightChars first room n low high s (chars first room n low high s)
unfolding chars AreChars
chars_right [] first room zero low high ok only = right_none first room low high []
chars_right [] first room (suc n) low high ok only = ([], (refl, inl refl))
chars_right (c ∷ s) true room (suc n) low high ok only = absurd (omega (arith, only refl))
chars_right (c ∷ s) false room (suc n) low high ok only = within (chars_right s false room n 128 191 refl (λ z. cc)) (is_between low high c) refl
  where
    step : is_between low high c ≡ true → (w : List ℕ) → CharsOf false room n 128 191 w w → CharsOf false room (suc n) low high (c ∷ w) (c ∷ w)
    step e w h = (((e, h.0.0), omega (arith, h.0.1)), refl)

    within : RightChars false room n 128 191 s (chars false room n 128 191 s) → (z : Bool) → is_between low high c ≡ z →
        RightChars false room (suc n) low high (c ∷ s) (if z then cons c (chars false room n 128 191 s) else bad (c ∷ s))
    within ih true e =
        right_cons false false room room (suc n) n low 128 high 191 c s (chars false room n 128 191 s) ih (step e)
        (let v = some_chars false room n 128 191 refl ((λ z. cc), (λ z. cc)) in
        (c ∷ v.1.0, (v.1.0, step e v.1.0 (subst (λ w. CharsOf false room n 128 191 w w) (sym v.1.1.1) (v.1.1.0, refl)))))
    within ih false e = ([], (refl, inl refl))
chars_right (c ∷ s) first room zero low high ok only =
    by_lead (lead_of first c) none (some (λ l ok. chars_right s false (room - suc l.count) l.count l.low l.high ok (λ z. cc)))
  where
    none : lead_of first c ≡ None → RightChars first room 0 low high (c ∷ s) (if_some (lead_of first c) (Led first room c s) (no_char first (c ∷ s)))
    none e = subst (λ o. RightChars first room 0 low high (c ∷ s) (if_some o (Led first room c s) (no_char first (c ∷ s)))) (sym e)
        (right_none first room low high (c ∷ s))

    step : (l : Lead) → lead_of first c ≡ Some l → l.count < room → (w : List ℕ) → CharsOf false (room - suc l.count) l.count l.low l.high w w →
        CharsOf first room 0 low high (c ∷ w) (c ∷ w)
    step l e less w h = ((subst (λ o. IsSomeWith o (λ l. AreChars false l.count l.low l.high w)) (sym e) h.0.0, omega (arith, h.0.1)), refl)

    fit : ((l : Lead) → is_between l.low l.high l.low ≡ true →
        RightChars false (room - suc l.count) l.count l.low l.high s (chars false (room - suc l.count) l.count l.low l.high s)) → (l : Lead) →
        lead_of first c ≡ Some l → (z : Bool) → nat_lt l.count room ≡ z →
        RightChars first room 0 low high (c ∷ s) (if z then cons c (chars false (room - suc l.count) l.count l.low l.high s) else no_char first (c ∷ s))
    fit ih l e true less =
        right_cons first false room (room - suc l.count) 0 l.count low l.low high l.high c s _ (ih l (fits first c l e).0)
        (step l e (ltb-true l.count room less))
        (let v = some_chars false (room - suc l.count) l.count l.low l.high (fits first c l e).0 ((λ z. cc), (λ z. cc)) in (
          c ∷ v.1.0,
          (
            v.1.0,
            step l e (ltb-true l.count room less) v.1.0
                (subst (λ w. CharsOf false (room - suc l.count) l.count l.low l.high w w) (sym v.1.1.1) (v.1.1.0, refl)),
          ),
        ))
    fit ih l e false less = right_none first room low high (c ∷ s)

    some : ((l : Lead) → is_between l.low l.high l.low ≡ true →
        RightChars false (room - suc l.count) l.count l.low l.high s (chars false (room - suc l.count) l.count l.low l.high s)) → (l : Lead) →
        lead_of first c ≡ Some l → RightChars first room 0 low high (c ∷ s) (if_some (lead_of first c) (Led first room c s) (no_char first (c ∷ s)))
    some ih l e = subst (λ o. RightChars first room 0 low high (c ∷ s) (if_some o (Led first room c s) (no_char first (c ∷ s)))) (sym e)
        (fit ih l e (nat_lt l.count room) refl)

-- the reader does not look ahead
chars_suffix : (s : List ℕ) (first : Bool) (room n low high : ℕ) → is_between low high low ≡ true → (first ≡ true → n ≡ 0) →
    Suffix s (chars first room n low high s)
chars_suffix s first room n low high ok only =
    Suffix-right (CharsOf first room n low high) s (chars first room n low high s) (chars_right s first room n low high ok only)

follows_cons : (c : ℕ) (k r : List ℕ) (x y : Res (List ℕ)) (a : ℕ) → Follows c k r x y → Follows c k r (cons a x) (cons a y)
follows_cons c k r x y a h = Follows-then c k r x y (λ w k. got (a ∷ w) k) h (λ v m e. ([], refl)) (λ v m e q. Follows-got c k r q (a ∷ v))

follows_none : (first : Bool) (c : ℕ) (k r p : List ℕ) → Follows c k r (no_char first (p ++ c ∷ k)) (no_char first (p ++ c ∷ r))
follows_none true c k r p = Follows-bad c k r p
follows_none false c k r p = Follows-got c k r p []

follows_lead : (o : Option Lead) (c : ℕ) (k r : List ℕ) (f f' : Lead → Res (List ℕ)) (d d' : Res (List ℕ)) →
    ((l : Lead) → o ≡ Some l → Follows c k r (f l) (f' l)) → Follows c k r d d' → Follows c k r (if_some o f d) (if_some o f' d')
follows_lead None c k r f f' d d' h g = g
follows_lead (Some l) c k r f f' d d' h g = h l refl

suffix_cons : (s : List ℕ) (x : Res (List ℕ)) (c : ℕ) → Suffix s x → Suffix s (cons c x)
suffix_cons s (got w k) c h = h
suffix_cons s (bad k) c h = h

chars_local : (p : List ℕ) (c : ℕ) (k r : List ℕ) (first : Bool) (room n low high : ℕ) → is_between low high low ≡ true → (first ≡ true → n ≡ 0) →
    Follows c k r (chars first room n low high (p ++ c ∷ k)) (chars first room n low high (p ++ c ∷ r))
unfolding chars
chars_local [] c k r true room (suc n) low high ok only = absurd (omega (arith, only refl))
chars_local [] c k r false room (suc n) low high ok only =
    Follows-if c k r _ _ _ _ _ _ refl (λ e. Follows-past c k r _ _ (suffix_cons k _ c (chars_suffix k false room n 128 191 refl (λ z. cc))))
    (λ e. Follows-bad c k r [])
chars_local (a ∷ p) c k r true room (suc n) low high ok only = absurd (omega (arith, only refl))
chars_local (a ∷ p) c k r false room (suc n) low high ok only =
    Follows-if c k r _ _ _ _ _ _ refl (λ e. follows_cons c k r _ _ a (chars_local p c k r false room n 128 191 refl (λ z. cc))) (λ e. Follows-bad c k r (a ∷ p))
chars_local [] c k r first room zero low high ok only =
    follows_lead (lead_of first c) c k r _ _ _ _
    (λ l e. Follows-if c k r _ _ _ _ _ _ refl
    (λ z. Follows-past c k r _ _ (suffix_cons k _ c (chars_suffix k false (room - suc l.count) l.count l.low l.high (fits first c l e).0 (λ z. cc))))
    (λ z. follows_none first c k r [])) (follows_none first c k r [])
chars_local (a ∷ p) c k r first room zero low high ok only =
    follows_lead (lead_of first a) c k r _ _ _ _
    (λ l e. Follows-if c k r _ _ _ _ _ _ refl
    (λ z. follows_cons c k r _ _ a (chars_local p c k r false (room - suc l.count) l.count l.low l.high (fits first a l e).0 (λ z. cc)))
    (λ z. follows_none first c k r (a ∷ p))) (follows_none first c k r (a ∷ p))

abbrev Of : List ℕ → List ℕ → Type 0
Of = CharsOf true 255 0 0 0

pub word_reader : IsReader NoChar word
word_reader = record {
  complete = λ w t k h stops. ap (λ l. chars true 255 0 0 0 (l ++ k)) h.1 ∙ chars_complete w k true 255 0 0 0 h.0.0 (omega (arith, h.0.1)) stops;
  right = λ s. each s (chars true 255 0 0 0 s) (chars_right s true 255 0 0 0 refl (λ e. refl));
  local = λ c k r p. chars_local p c k r true 255 0 0 0 refl (λ e. refl);
}
  where
    plain : (w t : List ℕ) → Of w t → IsWord w × (t ≡ w)
    plain w t h = ((h.0.0, omega (arith, h.0.1)), h.1)

    viable : (p : List ℕ) → (p ≡ []) ⊎ Viable Of p → (p ≡ []) ⊎ Viable word.Spells p
    viable p (inl e) = inl e
    viable p (inr v) = inr (v.0, (v.1.0, plain v.0 (p ++ v.1.0) v.1.1))

    each : (s : List ℕ) (x : Res (List ℕ)) → Right Of s x → Right word.Spells s x
    each s (got w k) h = (h.0, (plain w h.0 h.1.0, h.1.1))
    each s (bad k) h = (h.0, (h.1.0, viable h.0 h.1.1))
