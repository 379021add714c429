-- Readers put together, where each part begins as the one before it asks.
use Rattle.std.proofs.Common.{◌≡◌, ◌≢◌, ℕ, ◌<◌, ◌≤◌, ◌^◌, Bool, true, false, ◌==◌, ◌&&◌, ◌||◌, nat_le, if◌then◌else◌, List, [], ◌∷◌, ◌++◌}
use Rattle.std.proofs.Common.{inl, inr, refl, sym, ap, subst, ◌∙◌, arith, append_assoc, append-nil}
use Rattle.std.proofs.lemmas.Bool.{eqb-true, eqb-false, leb-true}
use Rattle.names.specs.Joined.{IsJoined}
use Rattle.names.specs.Words.{is_digit, AreChars}
use Rattle.names.specs.Reading.{Res, got, bad, Reader, begins, give, bind, on, either, where_first, literal, many, word, number, number_at}
use Rattle.names.specs.Reading.{starts_word, starts_digit}
use Rattle.names.proofs.Readers.{IsReader, Inhabited, Any, bind_reader, on_reader, where_reader, literal_reader, literal_some}
use Rattle.names.proofs.Decimals.{number_reader}
use Rattle.names.proofs.Starts.{Starts, starts_first, starts_literal}

abbrev pub Not : ℕ → List ℕ → Type 0
Not b l = begins b l ≡ false

abbrev pub NoWord : List ℕ → Type 0
NoWord l = starts_word l ≡ false

pub starts_then : {A B : Type 0} {H StopsA StopsB : List ℕ → Type 0} (R : Reader A) (f : A → Reader B) → Starts H StopsA R →
    ((a : A) → Starts StopsA StopsB (f a)) → Starts H StopsB (bind R f)
starts_then {B = B} {H = H} {StopsB = Stops} R f h g = record { at = each }
  where
    each : (w : B) (t k : List ℕ) → (bind R f).Spells w t → Stops k → H (t ++ k)
    each w t k (a, (p, (q, (x, (y, e))))) stops = subst H (sym (ap (λ l. l ++ k) e ∙ append_assoc p q k)) (h.at a p (q ++ k) x ((g a).at w q k y stops))

pub starts_many : {A : Type 0} {H Stops : List ℕ → Type 0} (item : Reader A) (b : ℕ) (bs : List ℕ) → Starts H Stops item → ((m : List ℕ) → Stops (b ∷ m)) →
    Starts H Stops (many item b bs)
starts_many {A = A} {H = H} {Stops = Stops} item b bs h between = record { at = λ vs t k e stops. each vs t k e.0 e.1 stops }
  where
    each : (vs : List A) (t k : List ℕ) → vs ≢ [] → IsJoined item.Spells (b ∷ bs) vs t → Stops k → H (t ++ k)
    each [] t k ne x stops = absurd (ne refl)
    each (v ∷ []) t k ne x stops = h.at v t k x stops
    each (v ∷ w ∷ ws) t k ne (a, (r, (x, (y, e)))) stops =
        subst H (sym (ap (λ l. l ++ k) e ∙ append_assoc a ((b ∷ bs) ++ r) k)) (h.at v a (b ∷ ((bs ++ r) ++ k)) x (between ((bs ++ r) ++ k)))

pub then_reader : {A B : Type 0} {StopsA StopsB : List ℕ → Type 0} (R : Reader A) (f : A → Reader B) → IsReader StopsA R →
    ((a : A) → IsReader StopsB (f a)) → ((a : A) → Inhabited (f a)) → ((a : A) → Starts StopsA StopsB (f a)) → IsReader StopsB (bind R f)
then_reader R f is next some follow = bind_reader R f is (λ a p h. next a) (λ a p h. some a) (λ a p h. (follow a).at)

pub then_some : {A B : Type 0} (R : Reader A) (f : A → Reader B) → Inhabited R → ((a : A) → Inhabited (f a)) → Inhabited (bind R f)
then_some R f some next =
    let more = next some.0 in (more.0, (some.1.0 ++ more.1.0, (some.0, (some.1.0, (more.1.0, (some.1.1, (more.1.1, refl)))))))

pub give_some : {A : Type 0} (v : A) → Inhabited (give v)
give_some v = (v, ([], (refl, refl)))

pub choice_reader : {A : Type 0} {Stops : List ℕ → Type 0} (flag : Bool) (b : ℕ) (R R' : Reader A) → (flag ≡ true → IsReader Stops R) →
    (flag ≡ true → Inhabited R) → IsReader Stops R' → (flag ≡ true → Starts (Not b) Stops R') → IsReader Stops (on flag b R R')
choice_reader flag b R R' is some is' other = on_reader flag b R R' is some is' (λ f. (other f).at)

pub choice_some : {A : Type 0} (b : ℕ) (R R' : Reader A) → Inhabited R → Inhabited (on true b R R')
choice_some b R R' some = (some.0, (b ∷ some.1.0, inl (refl, (some.1.0, (some.1.1, refl)))))

pub choice_other : {A : Type 0} (flag : Bool) (b : ℕ) (R R' : Reader A) → Inhabited R' → Inhabited (on flag b R R')
choice_other flag b R R' some = (some.0, (some.1.0, inr some.1.1))

pub either_some : {A : Type 0} (flag : Bool) (R R' : Reader A) → Inhabited R → Inhabited R' → Inhabited (either flag R R')
either_some true R R' x y = (x.0, (x.1.0, inl (refl, x.1.1)))
either_some false R R' x y = (y.0, (y.1.0, inr (refl, y.1.1)))

pub where_some : {A : Type 0} (test : List ℕ → Bool) (R R' : Reader A) → Inhabited R → Inhabited (where_first test R R')
where_some test R R' x = (x.0, (x.1.0, inl x.1.1))

word_first : (c : ℕ) (k r p : List ℕ) → starts_word (p ++ c ∷ k) ≡ starts_word (p ++ c ∷ r)
word_first c k r [] = refl
word_first c k r (a ∷ p) = refl

digit_first : (c : ℕ) (k r p : List ℕ) → starts_digit (p ++ c ∷ k) ≡ starts_digit (p ++ c ∷ r)
digit_first c k r [] = refl
digit_first c k r (a ∷ p) = refl

pub at_word : {A : Type 0} {Stops : List ℕ → Type 0} (R R' : Reader A) → IsReader Stops R → IsReader Stops R' → Starts (λ l. starts_word l ≡ true) Stops R
    → Starts NoWord Stops R' → IsReader Stops (where_first starts_word R R')
at_word R R' is is' holds fails = where_reader starts_word R R' word_first is is' holds.at fails.at

pub at_digit : {A : Type 0} {Stops : List ℕ → Type 0} (R R' : Reader A) → IsReader Stops R → IsReader Stops R' →
    Starts (λ l. starts_digit l ≡ true) Stops R → Starts (λ l. starts_digit l ≡ false) Stops R' → IsReader Stops (where_first starts_digit R R')
at_digit R R' is is' holds fails = where_reader starts_digit R R' digit_first is is' holds.at fails.at

pub a_word : Inhabited word
unfolding AreChars
a_word = (97 ∷ [], (97 ∷ [], ((refl, omega arith), refl)))

-- a decimal begins with a digit
pub starts_number : {H Stops : List ℕ → Type 0} (zeroed : Bool) (most : ℕ) → 9 ≤ most → most < 10 ^ 64 →
    ((c : ℕ) (m : List ℕ) → is_digit c ≡ true → H (c ∷ m)) → Starts H Stops (number zeroed most)
unfolding number_at
starts_number {H = H} zeroed most wide bounded h =
    record {
      at = λ n t k e stops.
          each n t k (sym (ap (number_at zeroed most) (append-nil t)) ∙ (number_reader zeroed most wide bounded).complete n t [] e tt);
    }
  where
    digit : (n c : ℕ) (x y : Res ℕ) (s : List ℕ) (z : Bool) → (if z then x else bad s) ≡ got n [] → z ≡ true
    digit n c x y s true e = refl
    digit n c x y s false e = cc

    each : (n : ℕ) (t k : List ℕ) → number_at zeroed most t ≡ got n [] → H (t ++ k)
    each n [] k e = cc
    each n (c ∷ t) k e = h c (t ++ k) (digit n c _ (bad t) (c ∷ t) (is_digit c) e)

at_byte : (P : ℕ → Type 0) (c b : ℕ) → P b → ((c ≡ b → ⊥) → P c) → P c
at_byte P c b h g = each (c == b) refl
  where
    each : (z : Bool) → (c == b) ≡ z → P c
    each true e = subst P (sym (eqb-true c b e)) h
    each false e = g (eqb-false c b e)

digit_cases : (P : ℕ → Type 0) → P 48 → P 49 → P 50 → P 51 → P 52 → P 53 → P 54 → P 55 → P 56 → P 57 → (c : ℕ) → 48 ≤ c → c ≤ 57 → P c
digit_cases P a0 a1 a2 a3 a4 a5 a6 a7 a8 a9 c low high =
    at_byte P c 48 a0 (λ n0. at_byte P c 49 a1 (λ n1. at_byte P c 50 a2 (λ n2. at_byte P c 51 a3 (λ n3. at_byte P c 52 a4
    (λ n4. at_byte P c 53 a5 (λ n5. at_byte P c 54 a6 (λ n6. at_byte P c 55 a7 (λ n7. at_byte P c 56 a8 (λ n8. at_byte P c 57 a9
    (λ n9. absurd (omega (arith, n0, n1, n2, n3, n4, n5, n6, n7, n8, n9))))))))))))

-- what begins with a digit begins with no other byte
pub digit_starts : (c : ℕ) (m : List ℕ) → is_digit c ≡ true → Not 45 (c ∷ m) × (NoWord (c ∷ m) × Not 60 (c ∷ m))
digit_starts c m h =
    let p = and_both (nat_le 48 c) (nat_le c 57) h in
    digit_cases (λ c. Not 45 (c ∷ m) × (NoWord (c ∷ m) × Not 60 (c ∷ m))) (refl, (refl, refl)) (refl, (refl, refl)) (refl, (refl, refl))
    (refl, (refl, refl)) (refl, (refl, refl)) (refl, (refl, refl)) (refl, (refl, refl)) (refl, (refl, refl)) (refl, (refl, refl))
    (refl, (refl, refl)) c (leb-true 48 c p.0) (leb-true c 57 p.1)
  where
    and_both : (a b : Bool) → (a && b) ≡ true → (a ≡ true) × (b ≡ true)
    and_both true b e = (refl, e)
    and_both false b e = cc

-- one of some bytes
pub or_cases : (P : ℕ → Type 0) (b : ℕ) (rest : ℕ → Bool) → P b → ((c : ℕ) → rest c ≡ true → P c) → (c : ℕ) → (c == b || rest c) ≡ true → P c
or_cases P b rest h g c e = each (c == b) refl e
  where
    each : (z : Bool) → (c == b) ≡ z → (z || rest c) ≡ true → P c
    each true f e = subst P (sym (eqb-true c b f)) h
    each false f e = g c e

-- a literal, and then a value
pub after_literal : {A : Type 0} {Stops : List ℕ → Type 0} (bs : List ℕ) (R : Reader A) → IsReader Stops R → Inhabited R →
    IsReader Stops (bind (literal bs) (λ _. R))
after_literal bs R is some = then_reader (literal bs) (λ _. R) (literal_reader Any bs) (λ u. is) (λ u. some) (λ u. record { at = λ w t k h stops. tt })

pub after_literal_some : {A : Type 0} (bs : List ℕ) (R : Reader A) → Inhabited R → Inhabited (bind (literal bs) (λ _. R))
after_literal_some bs R some = then_some (literal bs) (λ _. R) (literal_some bs) (λ u. some)

pub starts_after : {A : Type 0} {H Stops : List ℕ → Type 0} (b : ℕ) (bs : List ℕ) (R : Reader A) → ((m : List ℕ) → H (b ∷ m)) →
    Starts H Stops (bind (literal (b ∷ bs)) (λ _. R))
starts_after b bs R h = starts_first (literal (b ∷ bs)) (λ _. R) (starts_literal b bs h)
