-- A run after others.
use Rattle.std.proofs.Common.{◌≡◌, ◌≢◌, ◌∙◌, sym, ap, refl, ℕ, zero, suc, ◌+◌, ◌-◌, ◌<◌, ◌≤◌, ◌^◌, ◌&&◌, ◌==◌, Bool, true, false, cond, List, [], ◌∷◌, ◌++◌, length, None, nat_le, nat_lt, arith, ⊎_elim, length-append}
use Rattle.std.proofs.lemmas.Bool.{cases_lt}
use Rattle.std.proofs.lemmas.Option.{slice_get-get_or}
use Rattle.std.specs.Prelude.{slice_get}
use Rattle.snapshot_file.specs.Memory.{Run, end_of, byte_at, Rise, AreApart}
use Rattle.snapshot_file.specs.Spans.{with_run}
use Rattle.snapshot_file.proofs.Runs.{inside, before, behind}

-- every run ends at the address or below it
abbrev pub EndBy : ℕ → List Run → Type 0
EndBy at [] = Unit {0}
EndBy at (run ∷ runs) = (end_of run ≤ at) × EndBy at runs

last_byte : (xs : List ℕ) (k : ℕ) → k < length xs → slice_get xs k ≡ None → ⊥
last_byte xs k l e = let some = slice_get-get_or xs k 0 l in cc

-- where no byte stands from an address on, the runs end by it
pub ends_by : (at from : ℕ) (runs : List Run) → Rise 1 from runs → ((a : ℕ) → at ≤ a → byte_at runs a ≡ None) → EndBy at runs
ends_by at from [] h none = tt
ends_by at from (run ∷ runs) h none =
    let end : end_of run ≤ at = ⊎_elim
    (λ (l : at < end_of run).
    let a = end_of run - 1 in
    absurd (last_byte run.bytes (a - run.at) (omega (arith, h.1)) (sym (inside run a (slice_get run.bytes (a - run.at)) (byte_at runs a) (omega (arith, h.1)) (omega (arith, h.1))) ∙ none a (omega arith))))
    (λ l. l) (cases_lt at (end_of run)) in
    (end, ends_by at (end_of run + 1) runs h.3 (λ a l. sym (behind run a (slice_get run.bytes (a - run.at)) (byte_at runs a) (omega (arith, end))) ∙ none a l))

-- runs with a run after them still rise
pub with_run_rises : (from : ℕ) (runs : List Run) (new : Run) → Rise 1 from runs → EndBy new.at runs → from ≤ new.at → 0 < length new.bytes → end_of new ≤ 2 ^ 64 → Rise 1 from (with_run runs new)
with_run_rises from [] new h e f some end = (f, some, end, tt)
with_run_rises from (run ∷ []) new h e f some end =
    let test = end_of run == new.at in
    elim test as (λ b. test ≡ b → Rise 1 from (cond b (record { at = run.at; bytes = run.bytes ++ new.bytes } ∷ []) (run ∷ new ∷ []))) [
      | true ↦ λ t.
          let abut : end_of run ≡ new.at = grind arith in
          let size = length-append run.bytes new.bytes in
          (h.0, omega (arith, size, h.1), omega (arith, size, abut), tt)
      | false ↦ λ t.
          let apart : end_of run ≢ new.at = λ q. grind (arith, t, q) in
          (h.0, h.1, h.2, (omega (arith, e.0, apart), some, end, tt))
    ] refl
with_run_rises from (run ∷ next ∷ runs) new h e f some end =
    (h.0, h.1, h.2, with_run_rises (end_of run + 1) (next ∷ runs) new h.3 e.1 (omega (arith, h.3.0, e.1.0)) some end)

joined_front : (xs ys : List ℕ) (k : ℕ) → k < length xs → slice_get (xs ++ ys) k ≡ slice_get xs k
joined_front [] ys k l = absurd (omega arith)
joined_front (x ∷ xs) ys zero l = refl
joined_front (x ∷ xs) ys (suc k) l = joined_front xs ys k (omega arith)

joined_back : (xs ys : List ℕ) (k j : ℕ) → k ≡ length xs + j → slice_get (xs ++ ys) k ≡ slice_get ys j
joined_back [] ys k j e = ap (slice_get ys) (omega arith)
joined_back (x ∷ xs) ys zero j e = absurd (omega arith)
joined_back (x ∷ xs) ys (suc k) j e = joined_back xs ys k j (omega arith)

-- which of two runs apart is asked first doesn't matter
swapped : (run new : Run) (runs : List Run) (a : ℕ) → end_of run ≤ new.at → byte_at (run ∷ new ∷ runs) a ≡ byte_at (new ∷ run ∷ runs) a
swapped run new runs a e =
    let old = slice_get run.bytes (a - run.at) in
    let put = slice_get new.bytes (a - new.at) in
    ⊎_elim
    (λ (l : a < new.at). ap (λ o. cond (nat_le run.at a && nat_lt a (end_of run)) old o) (before new a put (byte_at runs a) l) ∙ sym (before new a put (byte_at (run ∷ runs) a) l))
    (λ (l : new.at ≤ a). behind run a old (byte_at (new ∷ runs) a) (omega (arith, e)) ∙ ap (λ o. cond (nat_le new.at a && nat_lt a (end_of new)) put o) (sym (behind run a old (byte_at runs a) (omega (arith, e)))))
    (cases_lt a new.at)

-- at each address stands the byte of the new run, or else the byte that was there
pub with_run_adds : (runs : List Run) (new : Run) (a : ℕ) → EndBy new.at runs → byte_at (with_run runs new) a ≡ byte_at (new ∷ runs) a
with_run_adds [] new a e = refl
with_run_adds (run ∷ []) new a e =
    let test = end_of run == new.at in
    let old = slice_get run.bytes (a - run.at) in
    let put = slice_get new.bytes (a - new.at) in
    let both : Run = record { at = run.at; bytes = run.bytes ++ new.bytes } in
    let size = length-append run.bytes new.bytes in
    elim test as (λ b. test ≡ b → byte_at (cond b (both ∷ []) (run ∷ new ∷ [])) a ≡ byte_at (new ∷ run ∷ []) a) [
      | true ↦ λ t.
          let abut : end_of run ≡ new.at = grind arith in
          ⊎_elim
          (λ (l : a < new.at). sym (before new a put (byte_at (run ∷ []) a) l ∙ ⊎_elim
          (λ (k : a < run.at). before run a old None k ∙ sym (before both a (slice_get both.bytes (a - run.at)) None k))
          (λ (k : run.at ≤ a). inside run a old None k (omega (arith, abut)) ∙ sym (inside both a (slice_get both.bytes (a - run.at)) None k (omega (arith, abut, size)) ∙ joined_front run.bytes new.bytes (a - run.at) (omega (arith, abut))))
          (cases_lt a run.at)))
          (λ (l : new.at ≤ a). ⊎_elim
          (λ (k : a < end_of new). inside both a (slice_get both.bytes (a - run.at)) None (omega (arith, abut)) (omega (arith, abut, size)) ∙ joined_back run.bytes new.bytes (a - run.at) (a - new.at) (omega (arith, abut)) ∙ sym (inside new a put (byte_at (run ∷ []) a) l k))
          (λ (k : end_of new ≤ a). behind both a (slice_get both.bytes (a - run.at)) None (omega (arith, abut, size)) ∙ sym (behind new a put (byte_at (run ∷ []) a) k ∙ behind run a old None (omega (arith, abut))))
          (cases_lt a (end_of new)))
          (cases_lt a new.at)
      | false ↦ λ t. swapped run new [] a e.0
    ] refl
with_run_adds (run ∷ next ∷ runs) new a e =
    let rest = with_run_adds (next ∷ runs) new a e.1 in
    ap (λ o. cond (nat_le run.at a && nat_lt a (end_of run)) (slice_get run.bytes (a - run.at)) o) rest ∙ swapped run new (next ∷ runs) a e.0

some_bytes : (bytes : List ℕ) (empty : Bool) → empty ≡ false → empty ≡ (length bytes == 0) → 0 < length bytes
some_bytes [] empty f e = absurd (cc)
some_bytes (b ∷ bytes) empty f e = omega arith

-- what `add` leaves is apart
pub put_apart : (runs : List Run) (at : ℕ) (bytes : List ℕ) {empty : Bool} → AreApart runs → ((a : ℕ) → at ≤ a → byte_at runs a ≡ None) → empty ≡ false → empty ≡ (length bytes == 0) → at + length bytes ≤ 2 ^ 64
    → AreApart (with_run runs (record { at = at; bytes = bytes }))
put_apart runs at bytes {empty} h none f e fits =
    with_run_rises 0 runs (record { at = at; bytes = bytes }) h (ends_by at 0 runs h none) (omega arith) (some_bytes bytes empty f e) fits

-- and has just the bytes that were added
pub put_adds : (runs : List Run) (at : ℕ) (bytes : List ℕ) → AreApart runs → ((a : ℕ) → at ≤ a → byte_at runs a ≡ None) → (a : ℕ)
    → byte_at (with_run runs (record { at = at; bytes = bytes })) a ≡ byte_at (record { at = at; bytes = bytes } ∷ runs) a
put_adds runs at bytes h none a = with_run_adds runs (record { at = at; bytes = bytes }) a (ends_by at 0 runs h none)
