-- Spans of a buffer, and the runs that they are.
use Rattle.std.proofs.Math.Seq.{take-length}
use Rattle.std.proofs.Common.{◌≡◌, ◌∙◌, sym, ap, subst, refl, ℕ, zero, suc, ◌+◌, ◌-◌, ◌<◌, ◌≤◌, ◌^◌, List, [], ◌∷◌, length, take, drop, get_or, None, arith, lit≤, length-drop}
use Rattle.std.specs.Prelude.{slice_get}
use Rattle.std.proofs.lemmas.List.{get_or-map, length-map}
use Rattle.std.specs.List.Sorted.{IsNonDecreasingBy, IsPartitionPoint}
use Rattle.snapshot_file.specs.declared.mem.Span.{Span}
use Rattle.snapshot_file.specs.Memory.{Run, end_of, byte_at, Rise, AreApart}
use Rattle.snapshot_file.specs.Spans.{run_of, runs_of, Fill, IsRest, last_end}
use Rattle.snapshot_file.proofs.Runs.{rest_is, no_rest, behind}

nil_of : (xs : List ℕ) → length xs ≡ 0 → xs ≡ []
nil_of [] e = refl
nil_of (x ∷ xs) e = absurd (omega arith)

span_begins : (buffer : List ℕ) (gap from i : ℕ) (d : Span) (spans : List Span) → Rise gap from (runs_of buffer spans) → i < length spans → from ≤ (get_or spans i d).at
span_begins buffer gap from i d [] h l = absurd (omega arith)
span_begins buffer gap from zero d (s ∷ spans) h l = h.0
span_begins buffer gap from (suc i) d (s ∷ spans) h l =
    let rest = span_begins buffer gap (end_of (run_of buffer s) + gap) i d spans h.3 (omega arith) in
    omega (arith, rest, h.0)

-- the spans of runs that rise, rise
pub spans_rise : (buffer : List ℕ) (gap from : ℕ) (spans : List Span) → Rise gap from (runs_of buffer spans) → IsNonDecreasingBy (λ s. s.at) spans
spans_rise buffer gap from [] h i j d p q = absurd (omega arith)
spans_rise buffer gap from (s ∷ spans) h zero zero d p q = omega arith
spans_rise buffer gap from (s ∷ spans) h zero (suc j) d p q = omega (arith, span_begins buffer gap (end_of (run_of buffer s) + gap) j d spans h.3 (omega arith))
spans_rise buffer gap from (s ∷ spans) h (suc i) zero d p q = absurd (omega arith)
spans_rise buffer gap from (s ∷ spans) h (suc i) (suc j) d p q = spans_rise buffer gap (end_of (run_of buffer s) + gap) spans h.3 i j d (omega arith) (omega arith)

-- each span lies in the buffer
pub span_within : (place size i : ℕ) (d : Span) (spans : List Span) → Fill place spans size → i < length spans → (get_or spans i d).start + (get_or spans i d).len ≤ size
span_within place size i d [] h l = absurd (omega arith)
span_within place size zero d (s ∷ []) h l = omega arith
span_within place size zero d (s ∷ t ∷ spans) h l = omega (arith, span_within (place + s.len) size 0 d (t ∷ spans) h.1 (omega arith))
span_within place size (suc i) d (s ∷ spans) h l = span_within (place + s.len) size i d spans h.1 (omega arith)

-- what stands from an address on, where `place` spans begin at or below it
pub none_begun : (buffer : List ℕ) (spans : List Span) (a : ℕ) (d : Span) → AreApart (runs_of buffer spans) → IsPartitionPoint (λ s. s.at ≤ a) (λ s. a < s.at) spans 0 → IsRest (runs_of buffer spans) a []
none_begun buffer spans a d h p =
    no_rest (runs_of buffer spans) a (run_of buffer d) h (λ l.
    let some : 0 < length spans = omega (arith, length-map spans (run_of buffer)) in
    let e = ap (λ (r : Run). r.at) (get_or-map (run_of buffer) spans 0 d (run_of buffer d) some) in
    omega (arith, e, p.1 0 d (omega arith) some))

pub some_begun : (buffer : List ℕ) (spans : List Span) (a i : ℕ) (d : Span) → AreApart (runs_of buffer spans) → i < length spans → IsPartitionPoint (λ s. s.at ≤ a) (λ s. a < s.at) spans (i + 1)
    → IsRest (runs_of buffer spans) a (drop (a - (get_or spans i d).at) (take (get_or spans i d).len (drop (get_or spans i d).start buffer)))
some_begun buffer spans a i d h l p =
    let runs = runs_of buffer spans in
    let size = length-map spans (run_of buffer) in
    let e = get_or-map (run_of buffer) spans i d (run_of buffer d) l in
    let low : (get_or runs i (run_of buffer d)).at ≤ a = omega (arith, ap (λ (r : Run). r.at) e, p.0 i d (omega arith) (omega arith)) in
    let high : suc i < length runs → a < (get_or runs (suc i) (run_of buffer d)).at = λ k.
    let more : suc i < length spans = omega arith in
    omega (arith, ap (λ (r : Run). r.at) (get_or-map (run_of buffer) spans (suc i) d (run_of buffer d) more), p.1 (suc i) d (omega arith) more) in
    let is = rest_is runs i a (run_of buffer d) h (omega arith) low high in
    subst (λ (r : Run). IsRest runs a (drop (a - r.at) r.bytes)) e is

-- what `begun` says at one place is what it says at an equal one
begun_at : (spans : List Span) (a m n : ℕ) → m ≡ n → IsPartitionPoint (λ s. s.at ≤ a) (λ s. a < s.at) spans m → IsPartitionPoint (λ s. s.at ≤ a) (λ s. a < s.at) spans n
begun_at spans a m n e p = subst (λ k. IsPartitionPoint (λ (s : Span). s.at ≤ a) (λ s. a < s.at) spans k) e p

pub no_span : (buffer : List ℕ) (spans : List Span) (a m : ℕ) (d : Span) → AreApart (runs_of buffer spans) → m ≡ 0 → IsPartitionPoint (λ s. s.at ≤ a) (λ s. a < s.at) spans m → IsRest (runs_of buffer spans) a []
no_span buffer spans a m d h e p = none_begun buffer spans a d h (begun_at spans a m 0 e p)

pub last_span : (buffer : List ℕ) (spans : List Span) (a m : ℕ) (d : Span) (run : List ℕ) → AreApart (runs_of buffer spans) → (m ≡ 0 → ⊥) → m ≤ length spans → IsPartitionPoint (λ s. s.at ≤ a) (λ s. a < s.at) spans m
    → run ≡ take (get_or spans (m - 1) d).len (drop (get_or spans (m - 1) d).start buffer)
    → IsRest (runs_of buffer spans) a (drop (a - (get_or spans (m - 1) d).at) run)
last_span buffer spans a m d run h some l p e =
    let is = some_begun buffer spans a (m - 1) d h (omega arith) (begun_at spans a m (m - 1 + 1) (omega arith) p) in
    rw e is

-- all that stands after a place, and nothing
pub all_behind : (n : ℕ) (xs : List ℕ) → take (length xs - n) (drop n xs) ≡ drop n xs
all_behind n xs = ap (λ k. take k (drop n xs)) (sym (length-drop n xs)) ∙ take-length (drop n xs)

pub none_behind : (n : ℕ) (xs : List ℕ) → length xs ≤ n → drop n xs ≡ []
none_behind n xs h = nil_of (drop n xs) (omega (arith, length-drop n xs))

last_above : (gap from : ℕ) (run : Run) (runs : List Run) → Rise gap from (run ∷ runs) → end_of run ≤ last_end (run ∷ runs)
last_above gap from run [] h = omega arith
last_above gap from run (next ∷ runs) h = omega (arith, last_above gap (end_of run + gap) next runs h.3, h.3.0)

-- no byte stands from the end of the last run on
pub past_last : (gap from a : ℕ) (runs : List Run) → Rise gap from runs → last_end runs ≤ a → byte_at runs a ≡ None
past_last gap from a [] h l = refl
past_last gap from a (run ∷ []) h l = behind run a (slice_get run.bytes (a - run.at)) None l
past_last gap from a (run ∷ next ∷ runs) h l =
    behind run a (slice_get run.bytes (a - run.at)) (byte_at (next ∷ runs) a) (omega (arith, last_above gap from run (next ∷ runs) h))
    ∙ past_last gap (end_of run + gap) a (next ∷ runs) h.3 l

-- the end of the last span's run
pub last_span_end : (buffer : List ℕ) (spans : List Span) (i : ℕ) (d : Span) → i + 1 ≡ length spans → last_end (runs_of buffer spans) ≡ end_of (run_of buffer (get_or spans i d))
last_span_end buffer [] i d e = absurd (omega arith)
last_span_end buffer (s ∷ []) zero d e = refl
last_span_end buffer (s ∷ []) (suc i) d e = absurd (omega arith)
last_span_end buffer (s ∷ t ∷ spans) zero d e = absurd (omega arith)
last_span_end buffer (s ∷ t ∷ spans) (suc i) d e = last_span_end buffer (t ∷ spans) i d (omega arith)

pub last_small : (gap from : ℕ) (runs : List Run) → Rise gap from runs → last_end runs ≤ 2 ^ 64
last_small gap from [] h = lit≤ tt
last_small gap from (run ∷ []) h = h.2
last_small gap from (run ∷ next ∷ runs) h = last_small gap (end_of run + gap) (next ∷ runs) h.3

-- what `end_of` adds up
pub end_is : (buffer : List ℕ) (spans : List Span) (s : Span) (at : ℕ) (run : List ℕ) → 0 < length spans → s ≡ get_or spans (length spans - 1) s → at ≡ s.at → run ≡ (run_of buffer s).bytes
    → at + length run ≡ last_end (runs_of buffer spans)
end_is buffer spans s at run l e is part =
    let sum : at + length run ≡ end_of (run_of buffer s) = omega (arith, is, ap length part) in
    sum ∙ ap (λ t. end_of (run_of buffer t)) e ∙ sym (last_span_end buffer spans (length spans - 1) s (omega arith))
