-- A word is read byte by byte.
use Rattle.std.proofs.Common.{◌≡◌, ℕ, zero, suc, ◌+◌, ◌-◌, ◌<◌, ◌≤◌, Bool, true, false, ◌||◌, ◌&&◌, ◌==◌, ◌*◌, ◌^◌, nat_lt, nat_le, eq-eqb}
use Rattle.std.proofs.Common.{if◌then◌else◌, List, [], ◌∷◌, ◌++◌, length, take, drop, Some, None, Ok, Err, refl, sym, ap, subst, ◌∙◌, arith}
use Rattle.std.proofs.Common.{append_assoc, append-nil}
use Rattle.std.proofs.lemmas.Bool.{lt-ltb, leb-true, eqb-true}
use Rattle.names.specs.declared.word.Lead.{Lead}
use Rattle.names.specs.declared.word.Scan.{Scan}
use Rattle.names.specs.Words.{is_between, is_digit, lead_of, IsWord}
use Rattle.names.specs.Reading.{Res, got, bad, if_some, cons, no_char, chars, word, prepend, literal, begins, tail, digits_after, number_at, number}
use Rattle.names.specs.Steps.{Stepped, digit_at, grown}
use Rattle.names.specs.declared.rest.StepErr.{StepErr}
use Rattle.names.specs.declared.rest.StepErr.TheVariants.{Bad, Memory}
use Rattle.names.specs.Scan.{scanned, ended, StepsOver, WordEnd}
use Rattle.names.proofs.Readers.{Right}
use Rattle.names.proofs.Words.{word_reader}
use Rattle.names.proofs.Decimals.{number_reader}

and_left : (a b : Bool) → (a && b) ≡ true → a ≡ true
and_left true b e = refl
and_left false b e = cc

-- nothing goes on inside a character
pub end_inside : (first : Bool) (n : ℕ) (text : List ℕ) → 0 < n → ◌≡◌ {A = Res (List ℕ)} (bad text) (if first || nat_lt 0 n then bad text else got [] text)
end_inside true n text h = refl
end_inside false n text h = ap (λ z. if z then bad text else got [] text) (sym (lt-ltb 0 n h))

pub end_between : (first : Bool) (n : ℕ) (text : List ℕ) → n ≡ 0 → no_char first text ≡ (if first || nat_lt 0 n then bad text else got [] text)
end_between true n text h = refl
end_between false n text h = ap (λ i. if nat_lt 0 i then bad text else got [] text) (sym h)

pub over_bad : (first : Bool) (room n low high c : ℕ) (text : List ℕ) → 0 < n → is_between low high c ≡ false →
    chars first room n low high (c ∷ text) ≡ (if first || nat_lt 0 n then bad (c ∷ text) else got [] (c ∷ text))
unfolding chars
over_bad first room zero low high c text h e = absurd (omega arith)
over_bad first room (suc n) low high c text h e =
    ap (λ z. if z then cons c (chars first room n 128 191 text) else bad (c ∷ text)) e ∙ end_inside first (suc n) (c ∷ text) h

pub over_inside : (first : Bool) (room n low high c : ℕ) (text : List ℕ) → 0 < n → is_between low high c ≡ true →
    chars first room n low high (c ∷ text) ≡ cons c (chars first room (n - 1) 128 191 text)
unfolding chars
over_inside first room zero low high c text h e = absurd (omega arith)
over_inside first room (suc n) low high c text h e =
    ap (λ z. if z then cons c (chars first room n 128 191 text) else bad (c ∷ text)) e ∙
    ap (λ i. cons c (chars first room i 128 191 text)) (let same : n ≡ suc n - 1 = omega arith in same)

pub over_none : (first : Bool) (room n low high c : ℕ) (text : List ℕ) → n ≡ 0 → lead_of first c ≡ None →
    chars first room n low high (c ∷ text) ≡ (if first || nat_lt 0 n then bad (c ∷ text) else got [] (c ∷ text))
unfolding chars
over_none first room zero low high c text h e =
    ap (λ o. if_some o (λ l. if nat_lt l.count room then cons c (chars false (room - suc l.count) l.count l.low l.high text) else no_char first (c ∷ text))
    (no_char first (c ∷ text))) e ∙ end_between first zero (c ∷ text) refl
over_none first room (suc n) low high c text h e = absurd (omega arith)

lead_then : Bool → ℕ → ℕ → List ℕ → Lead → Bool → Res (List ℕ)
lead_then first room c text l z = if z then cons c (chars false (room - suc l.count) l.count l.low l.high text) else no_char first (c ∷ text)

at_lead : (first : Bool) (room low high c : ℕ) (text : List ℕ) (l : Lead) → lead_of first c ≡ Some l →
    chars first room 0 low high (c ∷ text) ≡ lead_then first room c text l (nat_lt l.count room)
unfolding chars lead_then
at_lead first room low high c text l e =
    ap (λ o. if_some o (λ l. if nat_lt l.count room then cons c (chars false (room - suc l.count) l.count l.low l.high text) else no_char first (c ∷ text))
    (no_char first (c ∷ text))) e

-- after a first byte
pub over_lead : (s : Scan) (c : ℕ) (l : Lead) → s.count ≡ 0 → lead_of s.first c ≡ Some l
    → StepsOver s c (if nat_lt l.count s.room then Some
    (record { first = false; room = s.room - suc l.count; count = l.count; low = l.low; high = l.high }) else None)
unfolding lead_then
over_lead s c l h e = each (nat_lt l.count s.room) refl
  where
    at : (z : Bool) → nat_lt l.count s.room ≡ z → (text : List ℕ) → chars s.first s.room s.count s.low s.high (c ∷ text) ≡ lead_then s.first s.room c text l z
    at z f text = ap (λ n. chars s.first s.room n s.low s.high (c ∷ text)) h ∙ at_lead s.first s.room s.low s.high c text l e ∙
        ap (lead_then s.first s.room c text l) f

    each : (z : Bool) → nat_lt l.count s.room ≡ z →
        StepsOver s c (if z then Some (record { first = false; room = s.room - suc l.count; count = l.count; low = l.low; high = l.high }) else None)
    each true f = λ text. at true f text
    each false f = λ text. at false f text ∙ end_between s.first s.count (c ∷ text) h

pub at_end : (s : Scan) → scanned s [] ≡ ended s []
unfolding chars
at_end s = each s.first s.count
  where
    each : (first : Bool) (n : ℕ) → chars first s.room n s.low s.high [] ≡ (if first || nat_lt 0 n then bad [] else got [] [])
    each first zero = end_between first zero [] refl
    each first (suc n) = end_inside first (suc n) [] (omega arith)

-- what the bytes so far, and then the rest, are read as
pub cons_prepend : (front : List ℕ) (c : ℕ) (r : Res (List ℕ)) → prepend front (cons c r) ≡ prepend (front ++ c ∷ []) r
cons_prepend front c (got w k) = ap (λ l. got l k) (sym (append_assoc front (c ∷ []) w))
cons_prepend front c (bad k) = refl

pub prepend_none : (r : Res (List ℕ)) → prepend [] r ≡ r
prepend_none (got w k) = refl
prepend_none (bad k) = refl

-- where the scan ends, so does the word
pub ends_word : (text : List ℕ) (s : Scan) (n : ℕ) → n ≤ length text → prepend (take n text) (ended s (drop n text)) ≡ word.read text →
    WordEnd text (if s.first || nat_lt 0 s.count then Err n else Ok n)
ends_word text s n h e = each (s.first || nat_lt 0 s.count) e
  where
    each : (z : Bool) → prepend (take n text) (if z then bad (drop n text) else got [] (drop n text)) ≡ word.read text →
        WordEnd text (if z then Err n else Ok n)
    each true e = (h, sym e)
    each false e = (h, sym e ∙ ap (λ w. got w (drop n text)) (append-nil (take n text)))

-- a word that was read is one
pub word_is : (text w k : List ℕ) → word.read text ≡ got w k → IsWord w
word_is text w k e = (subst (Right word.Spells text) e (word_reader.right text)).1.0.0

-- one byte of a literal
pub literal_step : (b : ℕ) (bs s : List ℕ) → begins b s ≡ true → (literal (b ∷ bs)).read s ≡ (literal bs).read (tail s)
literal_step b bs s e = ap (λ z. if z then (literal bs).read (tail s) else bad s) e

pub literal_stop : (b : ℕ) (bs s : List ℕ) → begins b s ≡ false → (literal (b ∷ bs)).read s ≡ bad s
literal_stop b bs s e = ap (λ z. if z then (literal bs).read (tail s) else bad s) e

-- digits
pub number_none : (zeroed : Bool) (most : ℕ) (s : List ℕ) → digit_at s ≡ None → number_at zeroed most s ≡ bad s
unfolding number_at
number_none zeroed most [] e = refl
number_none zeroed most (c ∷ s) e = each (is_digit c) e
  where
    each : (z : Bool) → (if z then Some (c - 48) else None) ≡ None →
        (if z then (if c == 48 then (if zeroed then got 0 s else bad (c ∷ s)) else digits_after most (c - 48) s) else bad (c ∷ s)) ≡ bad (c ∷ s)
    each true e = cc
    each false e = refl

digit_is : (c d : ℕ) → (if is_digit c then Some (c - 48) else None) ≡ Some d → (is_digit c ≡ true) × (c ≡ 48 + d)
digit_is c d e = each (is_digit c) refl e
  where
    each : (z : Bool) → is_digit c ≡ z → (if z then Some (c - 48) else None) ≡ Some d → (is_digit c ≡ true) × (c ≡ 48 + d)
    each true f e = let low : 48 ≤ c = leb-true 48 c (and_left (nat_le 48 c) (nat_le c 57) f) in let same : c - 48 ≡ d = cc in (f, omega arith)
    each false f e = cc

digit_then : Bool → ℕ → List ℕ → ℕ → Bool → Bool → Res ℕ
digit_then zeroed most s c z y = if z then (if y then (if zeroed then got 0 s else bad (c ∷ s)) else digits_after most (c - 48) s) else bad (c ∷ s)

pub number_zero : (zeroed : Bool) (most : ℕ) (s : List ℕ) → digit_at s ≡ Some 0 → number_at zeroed most s ≡ (if zeroed then got 0 (tail s) else bad s)
unfolding number_at digit_then
number_zero zeroed most [] e = cc
number_zero zeroed most (c ∷ s) e = let h =
    digit_is c 0 e in ap (λ z. digit_then zeroed most s c z (c == 48)) h.0 ∙
    ap (λ y. digit_then zeroed most s c true y) (eq-eqb c 48 (let same : c ≡ 48 = omega (arith, h.1) in same))

pub number_more : (zeroed : Bool) (most d : ℕ) (s : List ℕ) → digit_at s ≡ Some d → (d ≡ 0 → ⊥) → number_at zeroed most s ≡ digits_after most d (tail s)
unfolding number_at digit_then
number_more zeroed most d [] e ne = cc
number_more zeroed most d (c ∷ s) e ne =
    let h = digit_is c d e in
    ap (λ z. digit_then zeroed most s c z (c == 48)) h.0 ∙ other (c == 48) refl ∙
    ap (λ n. digits_after most n s) (let same : c - 48 ≡ d = omega (arith, h.1) in same)
  where
    other : (y : Bool) → (c == 48) ≡ y → digit_then zeroed most s c true y ≡ digits_after most (c - 48) s
    other true f = absurd (ne (let h = digit_is c d e in let same = eqb-true c 48 f in let zero : d ≡ 0 = omega (arith, h.1, same) in zero))
    other false f = refl

pub digits_more : (most n m : ℕ) (s : List ℕ) → grown most n s ≡ Some m → (digits_after most n s ≡ digits_after most m (tail s)) × (length (tail s) < length s)
unfolding digits_after
digits_more most n m [] e = cc
digits_more most n m (c ∷ s) e = each (is_digit c && nat_le (n * 10 + (c - 48)) most) e
  where
    each : (z : Bool) → (if z then Some (n * 10 + (c - 48)) else None) ≡ Some m →
        ((if z then digits_after most (n * 10 + (c - 48)) s else got n (c ∷ s)) ≡ digits_after most m s) × (length s < length (c ∷ s))
    each true e = (ap (λ i. digits_after most i s) (let same : n * 10 + (c - 48) ≡ m = cc in same), omega arith)
    each false e = cc

pub digits_end : (most n : ℕ) (s : List ℕ) → grown most n s ≡ None → digits_after most n s ≡ got n s
unfolding digits_after
digits_end most n [] e = refl
digits_end most n (c ∷ s) e = each (is_digit c && nat_le (n * 10 + (c - 48)) most) e
  where
    each : (z : Bool) → (if z then Some (n * 10 + (c - 48)) else None) ≡ None →
        (if z then digits_after most (n * 10 + (c - 48)) s else got n (c ∷ s)) ≡ got n (c ∷ s)
    each true e = cc
    each false e = refl

drop_all : (xs : List ℕ) → drop (length xs) xs ≡ []
drop_all [] = refl
drop_all (x ∷ xs) = drop_all xs

-- the scan of a whole text
pub whole_scan : (text : List ℕ) (s : Scan) (n : ℕ) → n ≤ length text → length text ≤ n → prepend (take n text) (scanned s (drop n text)) ≡ word.read text
    → WordEnd text (if s.first || nat_lt 0 s.count then Err (length text) else Ok (length text))
whole_scan text s n h g e =
    let same : n ≡ length text = omega arith in
    let here = subst (λ i. prepend (take i text) (scanned s (drop i text)) ≡ word.read text) same e in
    ends_word text s (length text) (omega arith)
    (ap (λ l. prepend (take (length text) text) (ended s l)) (drop_all text) ∙ ap (prepend (take (length text) text)) (sym (at_end s)) ∙
    ap (λ l. prepend (take (length text) text) (scanned s l)) (sym (drop_all text)) ∙ here)

-- a number that was read is at most the greatest
pub number_fits : (most n : ℕ) (s k : List ℕ) → 9 ≤ most → most < 10 ^ 64 → number_at true most s ≡ got n k → n ≤ most
number_fits most n s k wide bounded e = (subst (Right (number true most).Spells s) e ((number_reader true most wide bounded).right s)).1.0.0

-- what a step that stopped hands on
pub Stepped-err : {A B : Type 0} (r : Res A) (r' : Res B) (e : StepErr) (k : List ℕ) → Stepped r (Err e) k → ((m : List ℕ) → r ≡ bad m → r' ≡ bad m) →
    Stepped r' (Err e) k
Stepped-err r r' Bad k h f = f k h
Stepped-err r r' Memory k h f = tt
