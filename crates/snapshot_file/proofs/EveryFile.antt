-- Each file has a reading.
use Rattle.std.proofs.Common.{◌≡◌, ◌≢◌, ◌∙◌, refl, ℕ, ◌==◌, List, [], ◌∷◌, length, Result, Ok, Err}
use Rattle.snapshot_file.specs.declared.fault.SnapErr.{SnapErr}
use Rattle.snapshot_file.specs.declared.fault.SnapErr.TheVariants as faults
use Rattle.snapshot_file.specs.declared.snapshot.Stage.{Stage}
use Rattle.snapshot_file.specs.declared.snapshot.Stage.TheVariants as stages
use Rattle.snapshot_file.specs.declared.snapshot.Reading.{Reading}
use Rattle.snapshot_file.specs.declared.snapshot.Snapshot.{Snapshot}
use Rattle.readers.specs.Lines.{lines}
use Rattle.snapshot_file.specs.Reading.{◌>>=◌, bad, step, steps, start, at_end, snapshot_of}
use Rattle.snapshot_file.specs.Claims.{IsReading, HaveReading}
use Rattle.snapshot_file.proofs.Chains.{cond_then}
use Rattle.snapshot_file.proofs.ReadFiles.{read_spells}
use Rattle.snapshot_file.proofs.Stages.{Keeps, front_of}
use Rattle.snapshot_file.proofs.Kept.{step_keeps, start_keeps}
use Rattle.snapshot_file.proofs.StepFaults.{LineTells, step_tells}
use Rattle.snapshot_file.proofs.FileFaults.{same_err, refused_at}

end_holds : (stage : Stage) (r : Reading) → at_end stage r ≡ Err faults.Memory → ⊥
end_holds stages.Nothing r e = cc
end_holds stages.Version r e = cc
end_holds stages.Pc r e = cc
end_holds stages.Cfa r e = cc
end_holds (stages.Register last) r e = cc
end_holds stages.Memory r e = cc

-- the lines alone never want memory
never_memory : (pieces : List (List ℕ)) (r : Reading) → Keeps r → steps r pieces ≡ Err faults.Memory → ⊥
never_memory [] r k e = cc
never_memory (rest ∷ []) r k e = cond_then (length rest == 0) (at_end r.stage r) (bad r.line 1) (Err faults.Memory) e (λ t h. end_holds r.stage r h) (λ f h. cc)
never_memory (text ∷ next ∷ more) r k e =
    let tells = step_tells r text k in
    let res = step r text in
    elim res as (λ a. res ≡ a → LineTells (front_of r.stage r.snapshot) text r.line a → (a >>= λ t. steps t (next ∷ more)) ≡ Err faults.Memory → ⊥) [
      | Ok t ↦ λ is told h. never_memory (next ∷ more) t (step_keeps r t text k is).0 h
      | Err x ↦ λ is told h. elim x as (λ y. LineTells (front_of r.stage r.snapshot) text r.line (Err y) → y ≡ faults.Memory → ⊥) [
        | faults.BadLine n rule ↦ λ t q. cc
        | faults.Overlap n ↦ λ t q. cc
        | faults.Memory ↦ λ t q. t
      ] told (same_err x faults.Memory h)
    ] refl tells e

-- Each file has a reading.
pub have_reading : HaveReading
have_reading bytes =
    let res = snapshot_of bytes in
    elim res as (λ a. res ≡ a → (r : Result Snapshot SnapErr) × ((r ≢ Err faults.Memory) × IsReading bytes r)) [
      | Ok s ↦ λ is. (Ok s, (λ q. cc, read_spells bytes s is))
      | Err e ↦ λ is. (Err e, (λ q. never_memory (lines bytes) start start_keeps (is ∙ q), refused_at bytes e is))
    ] refl
