-- One line of a snapshot file after another.
use Rattle.std.proofs.Common.{◌≡◌, ◌∙◌, sym, ap, refl, ℕ, ◌<◌, ◌==◌, List, [], ◌∷◌, length, arith, subst, Result, Ok, Err}
use Rattle.std.specs.Result.{IsErr, IsErrAnd}
use Rattle.std.proofs.lemmas.List.Splits.{length-slice_split}
use Rattle.readers.specs.Lines.{lines}
use Rattle.snapshot_file.specs.declared.fault.SnapErr.{SnapErr}
use Rattle.snapshot_file.specs.declared.fault.SnapErr.TheVariants as faults
use Rattle.snapshot_file.specs.declared.snapshot.Reading.{Reading}
use Rattle.snapshot_file.specs.declared.snapshot.Snapshot.{Snapshot}
use Rattle.snapshot_file.specs.Reading.{◌>>=◌, step, steps, Gives, Fails}

-- a line with pieces after it
pub steps_more : (r : Reading) (line : List ℕ) (more : List (List ℕ)) → 0 < length more → steps r (line ∷ more) ≡ (step r line >>= λ s. steps s more)
steps_more r line [] h = absurd (omega arith)
steps_more r line (next ∷ more) h = refl

-- the first line, and those after it
pub one_line : (r : Reading) (rest line more : List ℕ) → lines rest ≡ line ∷ lines more → steps r (lines rest) ≡ (step r line >>= λ s. steps s (lines more))
one_line r rest line more e = ap (steps r) e ∙ steps_more r line (lines more) (omega (arith, length-slice_split (λ b. b == 10) more))

-- a line that cannot be read ends the reading
pub line_fails : (e : SnapErr) (a : Result Reading SnapErr) (f : Reading → Result Snapshot SnapErr) → Fails e a → Fails e (a >>= f)
line_fails faults.Memory a f h = tt
line_fails (faults.BadLine line rule) a f h = ap (λ x. x >>= f) h
line_fails (faults.Overlap line) a f h = ap (λ x. x >>= f) h

-- a line that is read leaves the rest
pub line_reads : (a : Result Reading SnapErr) (r : Reading) (f : Reading → Result Snapshot SnapErr) → a ≡ Ok r → (a >>= f) ≡ f r
line_reads a r f h = ap (λ x. x >>= f) h

-- the error that `?` hands on is the one that it was given
pub hands_on : (e : SnapErr) (r : Result Snapshot SnapErr) (read : Result Snapshot SnapErr) → IsErr r → IsErrAnd r (λ x. x ≡ e) → Fails e read → Gives r read
hands_on e (Ok s) read i a f = absurd (cc)
hands_on e (Err x) read i a f = subst (λ y. Fails y read) (sym a) f
