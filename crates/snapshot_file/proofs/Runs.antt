-- What stands at an address, where runs rise.
use Rattle.std.proofs.Common.{◌≡◌, ◌∙◌, sym, ap, refl, ℕ, zero, suc, ◌+◌, ◌-◌, ◌<◌, ◌≤◌, ◌^◌, ◌&&◌, true, false, cond, List, [], ◌∷◌, length, drop, get_or, Option, None, nat_le, nat_lt, arith, ⊎_elim, length-drop}
use Rattle.std.proofs.lemmas.Bool.{cases_lt}
use Rattle.std.specs.Prelude.{slice_get}
use Rattle.snapshot_file.specs.Memory.{Run, end_of, byte_at, Rise, AreApart}
use Rattle.snapshot_file.specs.Spans.{IsRest}

pub inside : {A : Type 0} (run : Run) (a : ℕ) (x y : A) → run.at ≤ a → a < end_of run → cond (nat_le run.at a && nat_lt a (end_of run)) x y ≡ x
inside run a x y h k =
    let p : nat_le run.at a ≡ true = grind arith in
    let q : nat_lt a (end_of run) ≡ true = grind arith in
    rw (p, q) refl

pub before : {A : Type 0} (run : Run) (a : ℕ) (x y : A) → a < run.at → cond (nat_le run.at a && nat_lt a (end_of run)) x y ≡ y
before run a x y h =
    let p : nat_le run.at a ≡ false = grind arith in
    rw p refl

pub behind : {A : Type 0} (run : Run) (a : ℕ) (x y : A) → end_of run ≤ a → cond (nat_le run.at a && nat_lt a (end_of run)) x y ≡ y
behind run a x y h =
    let p : nat_le run.at a ≡ true = grind arith in
    let q : nat_lt a (end_of run) ≡ false = grind arith in
    rw (p, q) refl

-- no byte stands below the first address
pub below_from : (gap from a : ℕ) (runs : List Run) → Rise gap from runs → a < from → byte_at runs a ≡ None
below_from gap from a [] h l = refl
below_from gap from a (run ∷ runs) h l =
    before run a (slice_get run.bytes (a - run.at)) (byte_at runs a) (omega (arith, h.0))
    ∙ below_from gap (end_of run + gap) a runs h.3 (omega (arith, h.0))

below_first : (gap from a : ℕ) (d : Run) (runs : List Run) → Rise gap from runs → (0 < length runs → a < (get_or runs 0 d).at) → byte_at runs a ≡ None
below_first gap from a d [] h l = refl
below_first gap from a d (run ∷ runs) h l =
    let first : a < run.at = l (omega arith) in
    before run a (slice_get run.bytes (a - run.at)) (byte_at runs a) first
    ∙ below_from gap (end_of run + gap) a runs h.3 (omega arith)

-- each run begins at the first address or above it
pub begins : (gap from i : ℕ) (d : Run) (runs : List Run) → Rise gap from runs → i < length runs → from ≤ (get_or runs i d).at
begins gap from i d [] h l = absurd (omega arith)
begins gap from zero d (run ∷ runs) h l = h.0
begins gap from (suc i) d (run ∷ runs) h l = let rest = begins gap (end_of run + gap) i d runs h.3 (omega arith) in omega (arith, rest, h.0)

-- the byte of a run, if the address lies in it
abbrev in_run : Run → ℕ → Option ℕ
in_run run a = cond (nat_lt a (end_of run)) (slice_get run.bytes (a - run.at)) None

-- at an address, only the last run that begins at or below it can have a byte
pub at_run : (gap from i a : ℕ) (d : Run) (runs : List Run) → Rise gap from runs → i < length runs → (get_or runs i d).at ≤ a → (suc i < length runs → a < (get_or runs (suc i) d).at)
    → byte_at runs a ≡ in_run (get_or runs i d) a
at_run gap from i a d [] h l low high = absurd (omega arith)
at_run gap from zero a d (run ∷ runs) h l low high =
    let none = below_first gap (end_of run + gap) a d runs h.3 (λ p. high (omega arith)) in
    ⊎_elim
    (λ q. inside run a (slice_get run.bytes (a - run.at)) (byte_at runs a) low q ∙ (let t : nat_lt a (end_of run) ≡ true = grind arith in ap (λ b. cond b (slice_get run.bytes (a - run.at)) None) (sym t)))
    (λ q. behind run a (slice_get run.bytes (a - run.at)) (byte_at runs a) q ∙ none ∙ (let t : nat_lt a (end_of run) ≡ false = grind arith in ap (λ b. cond b (slice_get run.bytes (a - run.at)) None) (sym t)))
    (cases_lt a (end_of run))
at_run gap from (suc i) a d (run ∷ runs) h l low high =
    let above = begins gap (end_of run + gap) i d runs h.3 (omega arith) in
    behind run a (slice_get run.bytes (a - run.at)) (byte_at runs a) (omega arith)
    ∙ at_run gap (end_of run + gap) i a d runs h.3 (omega arith) low (λ p. high (omega arith))

-- each run ends after the first address, and below the next run
pub gap_after : (gap from i : ℕ) (d : Run) (runs : List Run) → Rise gap from runs → suc i < length runs → end_of (get_or runs i d) + gap ≤ (get_or runs (suc i) d).at
gap_after gap from i d [] h l = absurd (omega arith)
gap_after gap from zero d (run ∷ runs) h l = begins gap (end_of run + gap) 0 d runs h.3 (omega arith)
gap_after gap from (suc i) d (run ∷ runs) h l = gap_after gap (end_of run + gap) i d runs h.3 (omega arith)

pub ends : (gap from i : ℕ) (d : Run) (runs : List Run) → Rise gap from runs → i < length runs → end_of (get_or runs i d) ≤ 2 ^ 64
ends gap from i d [] h l = absurd (omega arith)
ends gap from zero d (run ∷ runs) h l = h.2
ends gap from (suc i) d (run ∷ runs) h l = ends gap (end_of run + gap) i d runs h.3 (omega arith)

slice_get-drop : (n j : ℕ) (xs : List ℕ) → slice_get (drop n xs) j ≡ slice_get xs (n + j)
slice_get-drop zero j xs = let e : 0 + j ≡ j = omega arith in ap (slice_get xs) (sym e)
slice_get-drop (suc n) j [] = refl
slice_get-drop (suc n) j (x ∷ xs) = let e : suc n + j ≡ suc (n + j) = omega arith in slice_get-drop n j xs ∙ ap (slice_get (x ∷ xs)) (sym e)

-- what stands from an address on to the end of the last run that begins at or below it
pub rest_is : (runs : List Run) (i a : ℕ) (d : Run) → AreApart runs → i < length runs → (get_or runs i d).at ≤ a → (suc i < length runs → a < (get_or runs (suc i) d).at)
    → IsRest runs a (drop (a - (get_or runs i d).at) (get_or runs i d).bytes)
rest_is runs i a d h l low high =
    let run = get_or runs i d in
    let off = a - run.at in
    let size = length-drop off run.bytes in
    let gap : suc i < length runs → end_of run + 1 ≤ (get_or runs (suc i) d).at = gap_after 1 0 i d runs h in
    let end = ends 1 0 i d runs h l in
    record {
      there = λ j k.
          let t : nat_lt (a + j) (end_of run) ≡ true = grind (arith, size) in
          let place : a + j - run.at ≡ off + j = omega arith in
          at_run 1 0 i (a + j) d runs h l (omega arith) (λ p. omega (arith, gap p, size))
          ∙ ap (λ b. cond b (slice_get run.bytes (a + j - run.at)) None) t
          ∙ ap (slice_get run.bytes) place ∙ sym (slice_get-drop off j run.bytes);
      past =
          let t : nat_lt (a + length (drop off run.bytes)) (end_of run) ≡ false = grind (arith, size) in
          at_run 1 0 i (a + length (drop off run.bytes)) d runs h l (omega arith) (λ p. omega (arith, gap p, high p, size))
          ∙ ap (λ b. cond b (slice_get run.bytes (a + length (drop off run.bytes) - run.at)) None) t;
      below = λ p. omega (arith, end, size);
    }

-- no run begins at or below the address
pub no_rest : (runs : List Run) (a : ℕ) (d : Run) → AreApart runs → (0 < length runs → a < (get_or runs 0 d).at) → IsRest runs a []
no_rest runs a d h l = record {
  there = λ j k. absurd (omega arith);
  past = let e : a + 0 ≡ a = omega arith in rw e (below_first 1 0 a d runs h l);
  below = λ p. absurd (omega arith);
}
