-- Bytes put after those of a buffer, and the spans of them.
use Rattle.std.proofs.Common.{◌≡◌, ◌∙◌, sym, ap, refl, ℕ, zero, suc, ◌+◌, ◌-◌, ◌<◌, ◌≤◌, ◌==◌, Bool, true, false, cond, List, [], ◌∷◌, ◌++◌, length, take, drop, get_or, set, arith, length-drop}
use Rattle.std.proofs.lemmas.List.{take-append-le, drop-append-le}
use Rattle.std.proofs.Math.Seq.{take-append-add, take-length, drop-append_seam}
use Rattle.std.proofs.Common.{Option, Some, None, eqb}
use Rattle.std.specs.Option.{SomeIff, option_eq}
use Rattle.snapshot_file.specs.declared.mem.Span.{Span}
use Rattle.snapshot_file.specs.Memory.{Run, end_of}
use Rattle.snapshot_file.specs.Spans.{run_of, runs_of, Fill, abuts, longer, with_run}
use Rattle.snapshot_file.proofs.Laid.{span_within}

-- the last span made longer
pub longer_set : (spans : List Span) (i n : ℕ) (d : Span) → i + 1 ≡ length spans
    → set spans i (record { at = (get_or spans i d).at; start = (get_or spans i d).start; len = (get_or spans i d).len + n }) ≡ longer spans n
longer_set [] i n d e = absurd (omega arith)
longer_set (s ∷ []) zero n d e = refl
longer_set (s ∷ []) (suc i) n d e = absurd (omega arith)
longer_set (s ∷ t ∷ spans) zero n d e = absurd (omega arith)
longer_set (s ∷ t ∷ spans) (suc i) n d e = ap (λ xs. s ∷ xs) (longer_set (t ∷ spans) i n d (omega arith))

-- what was in the buffer stays
same_run : (buffer bytes : List ℕ) (s : Span) → s.start + s.len ≤ length buffer → run_of (buffer ++ bytes) s ≡ run_of buffer s
same_run buffer bytes s h =
    let at : s.start ≤ length buffer = omega arith in
    let room : s.len ≤ length (drop s.start buffer) = omega (arith, length-drop s.start buffer) in
    ap (λ bs. record { at = s.at; bytes = bs }) (ap (take s.len) (drop-append-le s.start buffer bytes at) ∙ take-append-le s.len (drop s.start buffer) bytes room)

-- the last span of the buffer reaches its end
last_part : (buffer : List ℕ) (s : Span) → s.start + s.len ≡ length buffer → take s.len (drop s.start buffer) ≡ drop s.start buffer
last_part buffer s h = let e : s.len ≡ length (drop s.start buffer) = omega (arith, length-drop s.start buffer) in ap (λ k. take k (drop s.start buffer)) e ∙ take-length (drop s.start buffer)

last_size : (buffer : List ℕ) (s : Span) → s.start + s.len ≡ length buffer → end_of (run_of buffer s) ≡ s.at + s.len
last_size buffer s h = omega (arith, ap length (last_part buffer s h), length-drop s.start buffer)

longer_part : (buffer bytes : List ℕ) (s : Span) → s.start + s.len ≡ length buffer → take (s.len + length bytes) (drop s.start (buffer ++ bytes)) ≡ take s.len (drop s.start buffer) ++ bytes
longer_part buffer bytes s h =
    let at : s.start ≤ length buffer = omega arith in
    let e : s.len ≡ length (drop s.start buffer) = omega (arith, length-drop s.start buffer) in
    ap (take (s.len + length bytes)) (drop-append-le s.start buffer bytes at)
    ∙ ap (λ k. take (k + length bytes) (drop s.start buffer ++ bytes)) e
    ∙ take-append-add (drop s.start buffer) bytes (length bytes)
    ∙ ap (λ t. drop s.start buffer ++ t) (take-length bytes)
    ∙ ap (λ t. t ++ bytes) (sym (last_part buffer s h))

new_part : (buffer bytes : List ℕ) → take (length bytes) (drop (length buffer) (buffer ++ bytes)) ≡ bytes
new_part buffer bytes = ap (take (length bytes)) (drop-append_seam buffer bytes) ∙ take-length bytes

pub longer_runs : (buffer bytes : List ℕ) (place at : ℕ) (spans : List Span) → Fill place spans (length buffer) → abuts spans at ≡ true
    → runs_of (buffer ++ bytes) (longer spans (length bytes)) ≡ with_run (runs_of buffer spans) (record { at = at; bytes = bytes })
longer_runs buffer bytes place at [] h t = absurd (cc)
longer_runs buffer bytes place at (s ∷ []) h t =
    let whole : s.start + s.len ≡ length buffer = omega arith in
    let abut : (end_of (run_of buffer s) == at) ≡ true = ap (λ e. e == at) (last_size buffer s whole) ∙ t in
    let both : List Run = record { at = s.at; bytes = take s.len (drop s.start buffer) ++ bytes } ∷ [] in
    let two : List Run = run_of buffer s ∷ record { at = at; bytes = bytes } ∷ [] in
    ap (λ bs. record { at = s.at; bytes = bs } ∷ []) (longer_part buffer bytes s whole) ∙ ap (λ b. cond b both two) (sym abut)
longer_runs buffer bytes place at (s ∷ u ∷ spans) h t =
    ap (λ r. r ∷ runs_of (buffer ++ bytes) (longer (u ∷ spans) (length bytes))) (same_run buffer bytes s (span_within place (length buffer) 0 s (s ∷ u ∷ spans) h (omega arith)))
    ∙ ap (λ rs. run_of buffer s ∷ rs) (longer_runs buffer bytes (place + s.len) at (u ∷ spans) h.1 t)

pub longer_fills : (place size n : ℕ) (spans : List Span) → 0 < length spans → Fill place spans size → Fill place (longer spans n) (size + n)
longer_fills place size n [] l h = absurd (omega arith)
longer_fills place size n (s ∷ []) l h = (h.0, omega arith)
longer_fills place size n (s ∷ t ∷ spans) l h = (h.0, longer_fills (place + s.len) size n (t ∷ spans) (omega arith) h.1)

pub pushed_runs : (buffer bytes : List ℕ) (place at : ℕ) (spans : List Span) → Fill place spans (length buffer) → abuts spans at ≡ false
    → runs_of (buffer ++ bytes) (spans ++ record { at = at; start = length buffer; len = length bytes } ∷ []) ≡ with_run (runs_of buffer spans) (record { at = at; bytes = bytes })
pushed_runs buffer bytes place at [] h t = ap (λ bs. record { at = at; bytes = bs } ∷ []) (new_part buffer bytes)
pushed_runs buffer bytes place at (s ∷ []) h t =
    let whole : s.start + s.len ≡ length buffer = omega arith in
    let apart : (end_of (run_of buffer s) == at) ≡ false = ap (λ e. e == at) (last_size buffer s whole) ∙ t in
    let both : List Run = record { at = s.at; bytes = take s.len (drop s.start buffer) ++ bytes } ∷ [] in
    let two : List Run = run_of buffer s ∷ record { at = at; bytes = bytes } ∷ [] in
    ap (λ r. r ∷ run_of (buffer ++ bytes) (record { at = at; start = length buffer; len = length bytes }) ∷ []) (same_run buffer bytes s (omega arith))
    ∙ ap (λ bs. run_of buffer s ∷ record { at = at; bytes = bs } ∷ []) (new_part buffer bytes)
    ∙ ap (λ b. cond b both two) (sym apart)
pushed_runs buffer bytes place at (s ∷ u ∷ spans) h t =
    ap (λ r. r ∷ runs_of (buffer ++ bytes) ((u ∷ spans) ++ record { at = at; start = length buffer; len = length bytes } ∷ [])) (same_run buffer bytes s (span_within place (length buffer) 0 s (s ∷ u ∷ spans) h (omega arith)))
    ∙ ap (λ rs. run_of buffer s ∷ rs) (pushed_runs buffer bytes (place + s.len) at (u ∷ spans) h.1 t)

pub pushed_fills : (place size at n : ℕ) (spans : List Span) → Fill place spans size → Fill place (spans ++ record { at = at; start = size; len = n } ∷ []) (size + n)
pushed_fills place size at n [] h = (sym h, omega arith)
pushed_fills place size at n (s ∷ spans) h = (h.0, pushed_fills (place + s.len) size at n spans h.1)

abuts_at : (spans : List Span) (at i : ℕ) (d : Span) → i + 1 ≡ length spans → abuts spans at ≡ ((get_or spans i d).at + (get_or spans i d).len == at)
abuts_at [] at i d e = absurd (omega arith)
abuts_at (s ∷ []) at zero d e = refl
abuts_at (s ∷ []) at (suc i) d e = absurd (omega arith)
abuts_at (s ∷ t ∷ spans) at zero d e = absurd (omega arith)
abuts_at (s ∷ t ∷ spans) at (suc i) d e = abuts_at (t ∷ spans) at i d (omega arith)

difference : (r : Option ℕ) (a b n : ℕ) → SomeIff r (b ≤ a) (a - b) → option_eq eqb r (Some n) ≡ (b + n == a)
difference None a b n h = grind arith
difference (Some x) a b n h = grind arith

-- the test of the last span
pub abuts_test : (spans : List Span) (at : ℕ) (s : Span) (r : Option ℕ) (result : Bool) → 0 < length spans → s ≡ get_or spans (length spans - 1) s → SomeIff r (s.at ≤ at) (at - s.at)
    → result ≡ option_eq eqb r (Some s.len) → result ≡ abuts spans at
abuts_test spans at s r result l e d is =
    is ∙ difference r at s.at s.len d ∙ ap (λ (t : Span). t.at + t.len == at) e ∙ sym (abuts_at spans at (length spans - 1) s (omega arith))

-- the same of a span that was read there
pub set_longer : (spans : List Span) (i n : ℕ) (s : Span) → i + 1 ≡ length spans → s ≡ get_or spans i s → set spans i (record { at = s.at; start = s.start; len = s.len + n }) ≡ longer spans n
set_longer spans i n s e is = ap (λ (t : Span). set spans i (record { at = t.at; start = t.start; len = t.len + n })) is ∙ longer_set spans i n s e
