-- A fault is what the reading tells: a file has at most one, and none where it spells a snapshot.
use Rattle.std.proofs.Common.{◌≡◌, ◌≢◌, ◌∙◌, sym, ap, subst, refl, ℕ, ◌+◌, ◌<◌, ◌≤◌, ◌^◌, ◌==◌, false, cond, List, [], ◌∷◌, ◌++◌, length, length-append, append_assoc, append-nil, arith, lit≤, Result, Ok, Err, codes}
use Rattle.std.specs.Prelude.{flat_map}
use Rattle.readers.specs.Lines.{lines, words, with_end}
use Rattle.readers.specs.Hex.{hex_text}
use Rattle.readers.proofs.HexWords.{one_number}
use Rattle.snapshot_file.specs.declared.fault.SnapErr.{SnapErr}
use Rattle.snapshot_file.specs.declared.fault.SnapErr.TheVariants as faults
use Rattle.snapshot_file.specs.declared.snapshot.Stage.{Stage}
use Rattle.snapshot_file.specs.declared.snapshot.Stage.TheVariants as stages
use Rattle.snapshot_file.specs.declared.snapshot.Reading.{Reading}
use Rattle.snapshot_file.specs.declared.snapshot.Snapshot.{Snapshot}
use Rattle.snapshot_file.specs.Memory.{Run, end_of, Rise}
use Rattle.snapshot_file.specs.Spans.{last_end}
use Rattle.snapshot_file.specs.Snapshots.{IsMemoryLine, Spells}
use Rattle.snapshot_file.specs.Reading.{◌>>=◌, bad, step, steps, start, finish, at_end, line_at, memory_line, snapshot_of}
use Rattle.snapshot_file.specs.Faults.{Front, first, second, behind, Breaks, IsLowest, Overlaps}
use Rattle.snapshot_file.specs.Claims.{IsBefore, MustGoOn, IsBroken, whole, endless, missing, IsFault, IsOverlap, IsReading, HaveNoFault, HaveOneFault}
use Rattle.snapshot_file.proofs.Chains.{bind_then}
use Rattle.snapshot_file.proofs.Steps.{steps_more}
use Rattle.snapshot_file.proofs.ReadLines.{same_ok, line_words, memory_says}
use Rattle.snapshot_file.proofs.SpelledFiles.{spelled_reads, version_steps, after_version, memory_words, low_address}
use Rattle.snapshot_file.proofs.Stages.{front_of}
use Rattle.snapshot_file.proofs.StepFaults.{OverlapsAt, LineTells, step_tells}
use Rattle.snapshot_file.proofs.Reached.{Reached, start_reached, next_reached}
use Rattle.snapshot_file.proofs.FileFaults.{lines_lack, lines_again, same_err}

-- the reading after these lines, which say what stands before
record Reaches (ls : List (List ℕ)) (front : Front) : Type 0 where
  pub reading : Reading
  pub reached : Reached ls reading
  pub is_front : front_of reading.stage reading.snapshot ≡ front

front_at : (stage : Stage) (r : Reading) (s : Snapshot) → at_end stage r ≡ Ok s → front_of stage r.snapshot ≡ behind s
front_at stages.Nothing r s e = absurd (cc)
front_at stages.Version r s e = absurd (cc)
front_at stages.Pc r s e = ap behind (same_ok r.snapshot s e)
front_at stages.Cfa r s e = ap behind (same_ok r.snapshot s e)
front_at (stages.Register last) r s e = ap behind (same_ok r.snapshot s e)
front_at stages.Memory r s e = ap behind (same_ok r.snapshot s e)

walk : (done ls : List (List ℕ)) (r : Reading) (s : Snapshot) → Reached done r → steps r (ls ++ [] ∷ []) ≡ Ok s → Reaches (done ++ ls) (behind s)
walk done [] r s h e = record { reading = r; reached = subst (λ xs. Reached xs r) (sym (append-nil done)) h; is_front = front_at r.stage r s e }
walk done (l ∷ ls) r s h e =
    let rest = ls ++ [] ∷ [] in
    let some : 0 < length rest = omega (arith, length-append ls ([] ∷ [])) in
    bind_then (step r l) (λ t. steps t rest) s (sym (steps_more r l rest some) ∙ e) (λ t e1 e2.
    subst (λ xs. Reaches xs (behind s)) (append_assoc done (l ∷ []) ls) (walk (done ++ l ∷ []) ls t s (next_reached done r t l h e1) e2))

reaches : (bytes : List ℕ) (front : Front) (before pieces : List (List ℕ)) → lines bytes ≡ before ++ pieces → IsBefore front before → Reaches before front
reaches bytes first before pieces c h = subst (λ xs. Reaches xs first) (sym h) (record { reading = start; reached = start_reached; is_front = refl })
reaches bytes second before pieces c h = subst (λ xs. Reaches xs second) (sym h) (record { reading = after_version; reached = next_reached [] start after_version (codes "rdbg-snapshot 1") start_reached version_steps; is_front = refl })
reaches bytes (behind s) before pieces c h =
    let again = lines_again before (lines_lack bytes before pieces c) in
    walk [] before start s start_reached (sym (ap (steps start) again) ∙ spelled_reads (flat_map with_end before) s h)

-- the reading of the whole file goes on from there
goes_on : (bytes : List ℕ) (front : Front) (before : List (List ℕ)) (text : List ℕ) (more : List (List ℕ)) (t : Reaches before front) → lines bytes ≡ before ++ text ∷ more → snapshot_of bytes ≡ steps t.reading (text ∷ more)
goes_on bytes front before text more t c = ap (steps start) c ∙ t.reached.same (text ∷ more) (omega arith)

one_lowest : (B : ℕ → Type 0) (m n : ℕ) → IsLowest B m → IsLowest B n → m ≡ n
one_lowest B m n h k = omega (arith, h.1 n k.0, k.1 m h.0)

not_faultless : (front : Front) (text : List ℕ) (rule : ℕ) → OverlapsAt front text → Breaks front text rule → ⊥
not_faultless first text rule o b = o
not_faultless second text rule o b = o
not_faultless (behind s) text rule o b = o.faultless rule b

-- the step tells the lowest rule
told_rule : (front : Front) (text : List ℕ) (n rule : ℕ) (a : Result Reading SnapErr) → IsLowest (Breaks front text) rule → LineTells front text n a → a ≡ Err (faults.BadLine n rule)
told_rule front text n rule (Ok t) h k = absurd (k rule h.0)
told_rule front text n rule (Err (faults.BadLine m other)) h k = ap (λ x. Err (faults.BadLine x other)) k.0 ∙ ap (λ x. Err (faults.BadLine n x)) (one_lowest (Breaks front text) other rule k.1 h)
told_rule front text n rule (Err (faults.Overlap m)) h k = absurd (not_faultless front text rule k.1 h.0)
told_rule front text n rule (Err faults.Memory) h k = absurd k

step_fails : (r : Reading) (text : List ℕ) (more : List (List ℕ)) (e : SnapErr) → more ≢ [] → step r text ≡ Err e → steps r (text ∷ more) ≡ Err e
step_fails r text [] e h f = absurd (h refl)
step_fails r text (next ∷ more) e h f = ap (λ a. a >>= λ t. steps t (next ∷ more)) f

test_nil : (text : List ℕ) → text ≢ [] → (length text == 0) ≡ false
test_nil [] h = absurd (h refl)
test_nil (x ∷ text) h = grind arith

must_go_on : (stage : Stage) (r : Reading) (front : Front) → front_of stage r.snapshot ≡ front → MustGoOn front → at_end stage r ≡ bad r.line 2
must_go_on stages.Nothing r front e m = refl
must_go_on stages.Version r front e m = refl
must_go_on stages.Pc r front e m = absurd (subst MustGoOn (sym e) m)
must_go_on stages.Cfa r front e m = absurd (subst MustGoOn (sym e) m)
must_go_on (stages.Register last) r front e m = absurd (subst MustGoOn (sym e) m)
must_go_on stages.Memory r front e m = absurd (subst MustGoOn (sym e) m)

broken_tells : (front : Front) (text : List ℕ) (more : List (List ℕ)) (rule : ℕ) (ls : List (List ℕ)) (t : Reaches ls front) → IsBroken front text more rule → steps t.reading (text ∷ more) ≡ Err (faults.BadLine t.reading.line rule)
broken_tells front text more rule ls t (whole some low) =
    let r = t.reading in
    let tells : LineTells front text r.line (step r text) = subst (λ f. LineTells f text r.line (step r text)) t.is_front (step_tells r text t.reached.keeps) in
    step_fails r text more (faults.BadLine r.line rule) some (told_rule front text r.line rule (step r text) low tells)
broken_tells front text more rule ls t (endless last some one) =
    let r = t.reading in
    ap (λ ms. steps r (text ∷ ms)) last ∙ ap (λ b. cond b (at_end r.stage r) (bad r.line 1)) (test_nil text some) ∙ ap (λ n. Err (faults.BadLine r.line n)) (sym one)
broken_tells front text more rule ls t (missing last none must two) =
    let r = t.reading in
    ap (λ ms. steps r (text ∷ ms)) last ∙ ap (finish r) none ∙ must_go_on r.stage r front t.is_front must ∙ ap (λ n. Err (faults.BadLine r.line n)) (sym two)

-- The reading tells the fault.
pub fault_reads : (bytes : List ℕ) (line rule : ℕ) → IsFault bytes line rule → snapshot_of bytes ≡ Err (faults.BadLine line rule)
fault_reads bytes line rule h =
    let s = h.stands in
    let t = reaches bytes h.front s.before (h.text ∷ h.more) s.cut s.is_before in
    let number : t.reading.line ≡ line = t.reached.number ∙ sym s.number in
    goes_on bytes h.front s.before h.text h.more t s.cut ∙ broken_tells h.front h.text h.more rule s.before t h.broken ∙ ap (λ n. Err (faults.BadLine n rule)) number

-- memory ends at 2 ^ 64 or below
end_low : (gap from : ℕ) (runs : List Run) → Rise gap from runs → last_end runs ≤ 2 ^ 64
end_low gap from [] h = omega arith
end_low gap from (run ∷ []) h = h.2
end_low gap from (run ∷ next ∷ runs) h = end_low gap (end_of run + gap) (next ∷ runs) h.3

memory_at : (stage : Stage) (r t : Reading) (s : Snapshot) (more : List (List ℕ)) → front_of stage r.snapshot ≡ behind s → line_at stage r (codes "mem") more ≡ Ok t → memory_line r more ≡ Ok t
memory_at stages.Nothing r t s more f e = absurd (cc)
memory_at stages.Version r t s more f e = absurd (cc)
memory_at stages.Pc r t s more f e = e
memory_at stages.Cfa r t s more f e = e
memory_at (stages.Register last) r t s more f e = e
memory_at stages.Memory r t s more f e = e

snapshot_at : (stage : Stage) (r : Reading) (s : Snapshot) → front_of stage r.snapshot ≡ behind s → r.snapshot ≡ s
snapshot_at stages.Nothing r s f = absurd (cc)
snapshot_at stages.Version r s f = absurd (cc)
snapshot_at stages.Pc r s f = cc
snapshot_at stages.Cfa r s f = cc
snapshot_at (stages.Register last) r s f = cc
snapshot_at stages.Memory r s f = cc

wide : (n : ℕ) → n < 2 ^ 64 → n < 2 ^ 128
wide n l = let more : 2 ^ 64 ≤ 2 ^ 128 = lit≤ tt in omega arith

-- a line tells one address
one_address : (line : List ℕ) (g k : Run) → IsMemoryLine line g → IsMemoryLine line k → g.at < 2 ^ 64 → k.at < 2 ^ 64 → g.at ≡ k.at
one_address line g k p q l m =
    let same : codes "mem" ∷ hex_text g.at ∷ p.digits ∷ [] ≡ codes "mem" ∷ hex_text k.at ∷ q.digits ∷ [] = sym (memory_words line g p l) ∙ memory_words line k q m in
    let text : hex_text g.at ≡ hex_text k.at = cc in
    one_number g.at k.at (wide g.at l) (wide k.at m) text

-- a line that overlaps is not read
not_read : (r t : Reading) (s : Snapshot) (line : List ℕ) → front_of r.stage r.snapshot ≡ behind s → last_end s.mem ≤ 2 ^ 64 → Overlaps s line → step r line ≡ Ok t → ⊥
not_read r t s line f low o e =
    let small : o.segment.at < 2 ^ 64 = omega (arith, low, o.below) in
    line_words r line t e (λ word more w e1.
    let ws = memory_words line o.segment o.is small in
    let head : word ≡ codes "mem" = (let same = sym w ∙ ws in cc) in
    let w2 : words line ≡ codes "mem" ∷ more = w ∙ ap (λ x. x ∷ more) head in
    let says = memory_says r line more t w2 (memory_at r.stage r t s more f (ap (λ x. line_at r.stage r x more) (sym head) ∙ e1)) in
    let at = one_address line o.segment says.segment o.is says.is small (low_address says.segment says.some says.end) in
    let ends : last_end r.snapshot.mem ≡ last_end s.mem = ap (λ (q : Snapshot). last_end q.mem) (snapshot_at r.stage r s f) in
    omega (arith, at, ends, says.later, o.below))

told_overlap : (r : Reading) (s : Snapshot) (text : List ℕ) (n : ℕ) (a : Result Reading SnapErr) → Overlaps s text → ((t : Reading) → a ≡ Ok t → ⊥) → LineTells (behind s) text n a → a ≡ Err (faults.Overlap n)
told_overlap r s text n (Ok t) o h k = absurd (h t refl)
told_overlap r s text n (Err (faults.BadLine m rule)) o h k = absurd (o.faultless rule k.1.0)
told_overlap r s text n (Err (faults.Overlap m)) o h k = ap (λ x. Err (faults.Overlap x)) k.0
told_overlap r s text n (Err faults.Memory) o h k = absurd k

-- The reading tells the overlap.
pub overlap_reads : (bytes : List ℕ) (line : ℕ) → IsOverlap bytes line → snapshot_of bytes ≡ Err (faults.Overlap line)
overlap_reads bytes line h =
    let s = h.stands in
    let t = reaches bytes (behind h.snapshot) s.before (h.text ∷ h.more) s.cut s.is_before in
    let r = t.reading in
    let spells : Spells (flat_map with_end s.before) h.snapshot = s.is_before in
    let low = end_low 1 0 h.snapshot.mem spells.memory.apart in
    let tells : LineTells (behind h.snapshot) h.text r.line (step r h.text) = subst (λ f. LineTells f h.text r.line (step r h.text)) t.is_front (step_tells r h.text t.reached.keeps) in
    let told = told_overlap r h.snapshot h.text r.line (step r h.text) h.overlaps (λ q e. not_read r q h.snapshot h.text t.is_front low h.overlaps e) tells in
    let number : r.line ≡ line = t.reached.number ∙ sym s.number in
    goes_on bytes (behind h.snapshot) s.before h.text h.more t s.cut ∙ step_fails r h.text h.more (faults.Overlap r.line) h.whole told ∙ ap (λ n. Err (faults.Overlap n)) number

pub reading_tells : (bytes : List ℕ) (e : SnapErr) → IsReading bytes (Err e) → e ≢ faults.Memory → snapshot_of bytes ≡ Err e
reading_tells bytes (faults.BadLine line rule) h n = fault_reads bytes line rule h
reading_tells bytes (faults.Overlap line) h n = overlap_reads bytes line h
reading_tells bytes faults.Memory h n = absurd (n refl)

no_fault : (s : Snapshot) (bytes : List ℕ) (e : SnapErr) → Spells bytes s → snapshot_of bytes ≡ Err e → ⊥
no_fault s bytes e h f = let reads = spelled_reads bytes s h in cc

-- A file that spells a snapshot has no fault.
pub have_no_fault : HaveNoFault
have_no_fault s bytes (faults.BadLine line rule) h k = absurd (no_fault s bytes (faults.BadLine line rule) h (fault_reads bytes line rule k))
have_no_fault s bytes (faults.Overlap line) h k = absurd (no_fault s bytes (faults.Overlap line) h (overlap_reads bytes line k))
have_no_fault s bytes faults.Memory h k = refl

-- A file has at most one fault.
pub have_one_fault : HaveOneFault
have_one_fault bytes e f h k m n = same_err e f (sym (reading_tells bytes e h m) ∙ reading_tells bytes f k n)
