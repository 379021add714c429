-- A file that is refused has the fault that is told.
use Rattle.std.proofs.Common.{◌≡◌, ◌≢◌, ◌∙◌, sym, ap, subst, refl, ℕ, ◌<◌, ◌==◌, Bool, true, false, cond, List, [], ◌∷◌, ◌++◌, length, append_assoc, arith, Result, Ok, Err}
use Rattle.std.specs.Prelude.{flat_map}
use Rattle.std.specs.List.{All}
use Rattle.std.proofs.lemmas.List.Elements.{All-nil, All-cons, All-head, All-tail}
use Rattle.std.proofs.lemmas.List.Splits.{length-slice_split}
use Rattle.readers.specs.Lines.{Lacks, lines, with_end}
use Rattle.readers.proofs.Cutting.{line_cut, parts_lack}
use Rattle.snapshot_file.specs.declared.fault.SnapErr.{SnapErr}
use Rattle.snapshot_file.specs.declared.fault.SnapErr.TheVariants as faults
use Rattle.snapshot_file.specs.declared.snapshot.Stage.{Stage}
use Rattle.snapshot_file.specs.declared.snapshot.Stage.TheVariants as stages
use Rattle.snapshot_file.specs.declared.snapshot.Reading.{Reading}
use Rattle.snapshot_file.specs.declared.snapshot.Snapshot.{Snapshot}
use Rattle.snapshot_file.specs.Snapshots.{Spells}
use Rattle.snapshot_file.specs.Reading.{◌>>=◌, bad, step, steps, start, at_end, snapshot_of, Gives}
use Rattle.snapshot_file.specs.Faults.{Front, first, second, behind}
use Rattle.snapshot_file.specs.Claims.{IsBefore, Stands, whole, endless, missing, IsReading}
use Rattle.snapshot_file.proofs.ReadFiles.{read_spells}
use Rattle.snapshot_file.proofs.Stages.{front_of}
use Rattle.snapshot_file.proofs.StepFaults.{OverlapsAt, LineTells, step_tells}
use Rattle.snapshot_file.proofs.Reached.{Head, Reached, start_reached, next_reached}

pub front_lacks : (c : ℕ) (xs ys : List (List ℕ)) → All (Lacks c) (xs ++ ys) → All (Lacks c) xs
front_lacks c [] ys h = All-nil (Lacks c)
front_lacks c (x ∷ xs) ys h = All-cons (Lacks c) x xs (All-head (Lacks c) x (xs ++ ys) h) (front_lacks c xs ys (All-tail (Lacks c) x (xs ++ ys) h))

-- lines that are put together are cut again
pub lines_again : (ls : List (List ℕ)) → All (Lacks 10) ls → lines (flat_map with_end ls) ≡ ls ++ [] ∷ []
lines_again [] h = refl
lines_again (l ∷ ls) h = line_cut l (flat_map with_end ls) (All-head (Lacks 10) l ls h) ∙ ap (λ ps. l ∷ ps) (lines_again ls (All-tail (Lacks 10) l ls h))

-- the lines before the others have no LF
pub lines_lack : (bytes : List ℕ) (ls pieces : List (List ℕ)) → lines bytes ≡ ls ++ pieces → All (Lacks 10) ls
lines_lack bytes ls pieces e = front_lacks 10 ls pieces (subst (All (Lacks 10)) e (parts_lack 10 bytes))

-- where the file might end after these lines, they spell what was read
spells_so_far : (ls : List (List ℕ)) (r : Reading) → All (Lacks 10) ls → Reached ls r → at_end r.stage r ≡ Ok r.snapshot → Spells (flat_map with_end ls) r.snapshot
spells_so_far ls r lack h e = read_spells (flat_map with_end ls) r.snapshot (ap (steps start) (lines_again ls lack) ∙ h.same ([] ∷ []) (omega arith) ∙ e)

before_at : (stage : Stage) (ls : List (List ℕ)) (r : Reading) → All (Lacks 10) ls → Reached ls r → Head stage ls → (at_end r.stage r ≡ at_end stage r) → IsBefore (front_of stage r.snapshot) ls
before_at stages.Nothing ls r lack h head e = head
before_at stages.Version ls r lack h head e = head
before_at stages.Pc ls r lack h head e = spells_so_far ls r lack h e
before_at stages.Cfa ls r lack h head e = spells_so_far ls r lack h e
before_at (stages.Register last) ls r lack h head e = spells_so_far ls r lack h e
before_at stages.Memory ls r lack h head e = spells_so_far ls r lack h e

stands_here : (bytes : List ℕ) (ls : List (List ℕ)) (text : List ℕ) (more : List (List ℕ)) (r : Reading) → lines bytes ≡ ls ++ text ∷ more → Reached ls r → Stands bytes (front_of r.stage r.snapshot) text more r.line
stands_here bytes ls text more r e h = record {
  before = ls;
  cut = e;
  is_before = before_at r.stage ls r (lines_lack bytes ls (text ∷ more) e) h h.head refl;
  number = h.number;
}

overlap_at : (bytes : List ℕ) (front : Front) (text next : List ℕ) (more : List (List ℕ)) (line : ℕ) → Stands bytes front text (next ∷ more) line → OverlapsAt front text → IsReading bytes (Err (faults.Overlap line))
overlap_at bytes first text next more line s o = absurd o
overlap_at bytes second text next more line s o = absurd o
overlap_at bytes (behind snapshot) text next more line s o = record { snapshot = snapshot; text = text; more = next ∷ more; stands = s; whole = λ e. cc; overlaps = o }

-- what a line with its LF tells
line_fault : (bytes : List ℕ) (front : Front) (text next : List ℕ) (more : List (List ℕ)) (line : ℕ) (e : SnapErr) → Stands bytes front text (next ∷ more) line → LineTells front text line (Err e) → IsReading bytes (Err e)
line_fault bytes front text next more line (faults.BadLine n rule) s h =
    subst (λ k. IsReading bytes (Err (faults.BadLine k rule))) (sym h.0) (record { front = front; text = text; more = next ∷ more; stands = s; broken = whole (λ e. cc) h.1 })
line_fault bytes front text next more line (faults.Overlap n) s h = subst (λ k. IsReading bytes (Err (faults.Overlap k))) (sym h.0) (overlap_at bytes front text next more line s h.1)
line_fault bytes front text next more line faults.Memory s h = tt

pub same_err : (e f : SnapErr) → ◌≡◌ {A = Result Snapshot SnapErr} (Err e) (Err f) → e ≡ f
same_err e f h = cc

not_nil : (text : List ℕ) → (length text == 0) ≡ false → text ≢ []
not_nil text e h = (let zero = ap (λ t. length t == 0) h in cc)

nil_of : (xs : List ℕ) → (length xs == 0) ≡ true → xs ≡ []
nil_of [] e = refl
nil_of (x ∷ xs) e = absurd (grind arith)

-- no line where one must stand
missing_at : (stage : Stage) (bytes text : List ℕ) (r : Reading) (e : SnapErr) → Stands bytes (front_of stage r.snapshot) text [] r.line → text ≡ [] → at_end stage r ≡ Err e → IsReading bytes (Err e)
missing_at stages.Nothing bytes text r e s empty h = subst (λ x. IsReading bytes (Err x)) (same_err (faults.BadLine r.line 2) e h) (record { front = first; text = text; more = []; stands = s; broken = missing refl empty tt refl })
missing_at stages.Version bytes text r e s empty h = subst (λ x. IsReading bytes (Err x)) (same_err (faults.BadLine r.line 2) e h) (record { front = second; text = text; more = []; stands = s; broken = missing refl empty tt refl })
missing_at stages.Pc bytes text r e s empty h = absurd (cc)
missing_at stages.Cfa bytes text r e s empty h = absurd (cc)
missing_at (stages.Register last) bytes text r e s empty h = absurd (cc)
missing_at stages.Memory bytes text r e s empty h = absurd (cc)

end_fault : (bytes text : List ℕ) (r : Reading) (e : SnapErr) (b : Bool) → (length text == 0) ≡ b → Stands bytes (front_of r.stage r.snapshot) text [] r.line → cond b (at_end r.stage r) (bad r.line 1) ≡ Err e → IsReading bytes (Err e)
end_fault bytes text r e true empty s h = missing_at r.stage bytes text r e s (nil_of text empty) h
end_fault bytes text r e false some s h =
    subst (λ x. IsReading bytes (Err x)) (same_err (faults.BadLine r.line 1) e h) (record { front = front_of r.stage r.snapshot; text = text; more = []; stands = s; broken = endless refl (not_nil text some) refl })

-- the first invalid line, after those that were read
fault_behind : (bytes : List ℕ) (ls pieces : List (List ℕ)) (r : Reading) (e : SnapErr) → lines bytes ≡ ls ++ pieces → 0 < length pieces → Reached ls r → steps r pieces ≡ Err e → IsReading bytes (Err e)
fault_behind bytes ls [] r e c l h f = absurd (omega arith)
fault_behind bytes ls (text ∷ []) r e c l h f = end_fault bytes text r e (length text == 0) refl (stands_here bytes ls text [] r c h) f
fault_behind bytes ls (text ∷ next ∷ more) r e c l h f =
    let tells = step_tells r text h.keeps in
    let res = step r text in
    elim res as (λ a. res ≡ a → LineTells (front_of r.stage r.snapshot) text r.line a → (a >>= λ t. steps t (next ∷ more)) ≡ Err e → IsReading bytes (Err e)) [
      | Ok t ↦ λ is told g. fault_behind bytes (ls ++ text ∷ []) (next ∷ more) t e (c ∙ sym (append_assoc ls (text ∷ []) (next ∷ more))) (omega arith) (next_reached ls r t text h is) g
      | Err x ↦ λ is told g. subst (λ y. IsReading bytes (Err y)) (same_err x e g) (line_fault bytes (front_of r.stage r.snapshot) text next more r.line x (stands_here bytes ls text (next ∷ more) r c h) told)
    ] refl tells f

-- What is refused has the fault that is told.
pub refused_at : (bytes : List ℕ) (e : SnapErr) → snapshot_of bytes ≡ Err e → IsReading bytes (Err e)
refused_at bytes e f = fault_behind bytes [] (lines bytes) start e refl (omega (arith, length-slice_split (λ b. b == 10) bytes)) start_reached f

pub is_reading : (bytes : List ℕ) (r : Result Snapshot SnapErr) → Gives r (snapshot_of bytes) → IsReading bytes r
is_reading bytes (Ok s) h = read_spells bytes s h
is_reading bytes (Err (faults.BadLine line rule)) h = refused_at bytes (faults.BadLine line rule) h
is_reading bytes (Err (faults.Overlap line)) h = refused_at bytes (faults.Overlap line) h
is_reading bytes (Err faults.Memory) h = tt
