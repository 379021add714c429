-- Segments, each added after those before it.
use Rattle.std.proofs.Common.{◌≡◌, ◌∙◌, sym, ap, subst, refl, ℕ, ◌+◌, ◌-◌, ◌<◌, ◌≤◌, ◌^◌, ◌==◌, true, false, cond, List, [], ◌∷◌, ◌++◌, length, Option, Some, None, arith, ⊎_elim, length-append}
use Rattle.std.proofs.lemmas.Bool.{cases_lt}
use Rattle.std.proofs.lemmas.Option.{slice_get-get_or}
use Rattle.std.specs.Prelude.{slice_get}
use Rattle.snapshot_file.specs.Memory.{Run, end_of, byte_at, Rise, AreApart}
use Rattle.snapshot_file.specs.Spans.{with_run, with_bytes, last_end}
use Rattle.snapshot_file.specs.Snapshots.{IsMemoryOf}
use Rattle.snapshot_file.proofs.Runs.{inside, before, behind, below_from}
use Rattle.snapshot_file.proofs.Laid.{past_last}
use Rattle.snapshot_file.proofs.Adding.{EndBy, ends_by, with_run_rises, with_run_adds}
use Rattle.snapshot_file.proofs.Canonical.{same_runs}

-- the segments added, the first one first
abbrev pub put_all : List Run → List Run → List Run
put_all runs [] = runs
put_all runs (new ∷ segments) = put_all (with_bytes runs new.at new.bytes) segments

pub with_some : (runs : List Run) (at : ℕ) (bytes : List ℕ) → 0 < length bytes → with_bytes runs at bytes ≡ with_run runs (record { at = at; bytes = bytes })
with_some runs at [] l = absurd (omega arith)
with_some runs at (b ∷ bytes) l = refl

pub some_runs : (runs : List Run) (new : Run) → 0 < length (with_run runs new)
some_runs [] new = omega arith
some_runs (run ∷ []) new =
    let both : List Run = record { at = run.at; bytes = run.bytes ++ new.bytes } ∷ [] in
    elim (end_of run == new.at) as (λ b. 0 < length (cond b both (run ∷ new ∷ []))) [ true ↦ omega arith | false ↦ omega arith ]
some_runs (run ∷ next ∷ runs) new = omega arith

later_end : (run : Run) (runs : List Run) → 0 < length runs → last_end (run ∷ runs) ≡ last_end runs
later_end run [] l = absurd (omega arith)
later_end run (next ∷ runs) l = refl

-- what was added last ends last
pub end_with : (runs : List Run) (new : Run) → last_end (with_run runs new) ≡ end_of new
end_with [] new = refl
end_with (run ∷ []) new =
    let test = end_of run == new.at in
    let both : List Run = record { at = run.at; bytes = run.bytes ++ new.bytes } ∷ [] in
    elim test as (λ b. test ≡ b → last_end (cond b both (run ∷ new ∷ [])) ≡ end_of new) [
      | true ↦ λ t. let abut : end_of run ≡ new.at = grind arith in omega (arith, length-append run.bytes new.bytes, abut)
      | false ↦ λ t. refl
    ] refl
end_with (run ∷ next ∷ runs) new = later_end run (with_run (next ∷ runs) new) (some_runs (next ∷ runs) new) ∙ end_with (next ∷ runs) new

pub end_with_bytes : (runs : List Run) (at : ℕ) (bytes : List ℕ) → 0 < length bytes → last_end (with_bytes runs at bytes) ≡ at + length bytes
end_with_bytes runs at bytes l = ap last_end (with_some runs at bytes l) ∙ end_with runs (record { at = at; bytes = bytes })

ends_last : (runs : List Run) (at : ℕ) → AreApart runs → last_end runs ≤ at → EndBy at runs
ends_last runs at h l = ends_by at 0 runs h (λ a p. past_last 1 0 a runs h (omega arith))

with_apart : (runs : List Run) (new : Run) → AreApart runs → last_end runs ≤ new.at → 0 < length new.bytes → end_of new ≤ 2 ^ 64 → AreApart (with_run runs new)
with_apart runs new h l some end = with_run_rises 0 runs new h (ends_last runs new.at h l) (omega arith) some end

abbrev or_else : Option ℕ → Option ℕ → Option ℕ
or_else (Some x) o = Some x
or_else None o = o

only_first : (o : Option ℕ) → or_else o None ≡ o
only_first None = refl
only_first (Some x) = refl

-- the byte of a segment, or what stood there
pub put_all_apart : (runs segments : List Run) → AreApart runs → Rise 0 (last_end runs) segments → AreApart (put_all runs segments)
put_all_apart runs [] h k = h
put_all_apart runs (new ∷ segments) h k =
    let same = with_some runs new.at new.bytes k.1 in
    let apart : AreApart (with_bytes runs new.at new.bytes) = subst AreApart (sym same) (with_apart runs new h k.0 k.1 k.2) in
    let end : end_of new + 0 ≡ last_end (with_bytes runs new.at new.bytes) = omega (arith, end_with_bytes runs new.at new.bytes k.1) in
    put_all_apart (with_bytes runs new.at new.bytes) segments apart (subst (λ n. Rise 0 n segments) end k.3)

in_new : (runs segments : List Run) (new : Run) (a : ℕ) → new.at ≤ a → a < end_of new → byte_at segments a ≡ None → or_else (byte_at segments a) (byte_at (new ∷ runs) a) ≡ or_else (byte_at (new ∷ segments) a) (byte_at runs a)
in_new runs segments new a l k none =
    let some = slice_get-get_or new.bytes (a - new.at) 0 (omega arith) in
    let here = inside new a (slice_get new.bytes (a - new.at)) (byte_at runs a) l k in
    let there = inside new a (slice_get new.bytes (a - new.at)) (byte_at segments a) l k in
    ap (λ o. or_else o (byte_at (new ∷ runs) a)) none ∙ here ∙ some ∙ sym (ap (λ o. or_else o (byte_at runs a)) (there ∙ some))

not_in_new : (runs segments : List Run) (new : Run) (a : ℕ) → byte_at (new ∷ runs) a ≡ byte_at runs a → byte_at (new ∷ segments) a ≡ byte_at segments a → or_else (byte_at segments a) (byte_at (new ∷ runs) a) ≡ or_else (byte_at (new ∷ segments) a) (byte_at runs a)
not_in_new runs segments new a p q = ap (or_else (byte_at segments a)) p ∙ ap (λ o. or_else o (byte_at runs a)) (sym q)

pub put_all_bytes : (runs segments : List Run) (a : ℕ) → AreApart runs → Rise 0 (last_end runs) segments → byte_at (put_all runs segments) a ≡ or_else (byte_at segments a) (byte_at runs a)
put_all_bytes runs [] a h k = refl
put_all_bytes runs (new ∷ segments) a h k =
    let same = with_some runs new.at new.bytes k.1 in
    let apart : AreApart (with_bytes runs new.at new.bytes) = subst AreApart (sym same) (with_apart runs new h k.0 k.1 k.2) in
    let end : end_of new + 0 ≡ last_end (with_bytes runs new.at new.bytes) = omega (arith, end_with_bytes runs new.at new.bytes k.1) in
    let adds = ap (λ rs. byte_at rs a) same ∙ with_run_adds runs new a (ends_last runs new.at h k.0) in
    put_all_bytes (with_bytes runs new.at new.bytes) segments a apart (subst (λ n. Rise 0 n segments) end k.3)
    ∙ ap (or_else (byte_at segments a)) adds
    ∙ ⊎_elim
    (λ (l : a < new.at). not_in_new runs segments new a (before new a (slice_get new.bytes (a - new.at)) (byte_at runs a) l) (before new a (slice_get new.bytes (a - new.at)) (byte_at segments a) l))
    (λ (l : new.at ≤ a). ⊎_elim
    (λ (m : a < end_of new). in_new runs segments new a l m (below_from 0 (end_of new + 0) a segments k.3 (omega arith)))
    (λ (m : end_of new ≤ a). not_in_new runs segments new a (behind new a (slice_get new.bytes (a - new.at)) (byte_at runs a) m) (behind new a (slice_get new.bytes (a - new.at)) (byte_at segments a) m))
    (cases_lt a (end_of new)))
    (cases_lt a new.at)

-- what the segments leave is their memory
pub memory_of : (segments : List Run) → Rise 0 0 segments → IsMemoryOf segments (put_all [] segments)
memory_of segments h = record {
  apart = put_all_apart [] segments tt h;
  same = λ a. put_all_bytes [] segments a tt h ∙ only_first (byte_at segments a);
}

-- and there is no other
pub only_memory : (segments runs : List Run) → Rise 0 0 segments → IsMemoryOf segments runs → runs ≡ put_all [] segments
only_memory segments runs h m =
    let known = memory_of segments h in
    same_runs 0 runs (put_all [] segments) m.apart known.apart (λ a. m.same a ∙ sym (known.same a))
