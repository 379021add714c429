-- What a step tells of the rules that its line breaks.
use Rattle.std.proofs.Common.{◌≡◌, ◌∙◌, sym, ap, refl, ℕ, true, false, List, [], ◌∷◌, Some, Result, codes}
use Rattle.std.specs.Str.{bytes_eq, is_utf8}
use Rattle.readers.specs.Lines.{words}
use Rattle.snapshot_file.specs.declared.fault.SnapErr.{SnapErr}
use Rattle.snapshot_file.specs.declared.registers.Reg.{Reg}
use Rattle.snapshot_file.specs.declared.snapshot.Stage.{Stage}
use Rattle.snapshot_file.specs.declared.snapshot.Stage.TheVariants as stages
use Rattle.snapshot_file.specs.declared.snapshot.Reading.{Reading}
use Rattle.snapshot_file.specs.Reading.{bad, after, number_of_line, version_line, pc_line, cfa_line, later_line, line_at, words_at, step, is_above}
use Rattle.snapshot_file.specs.Faults.{Front, first, second, behind, Version, Pc, Cfa, Register, Memory, first_word, MayStand, IsBare, IsPassed, BreaksNumber, Breaks, Overlaps}
use Rattle.snapshot_file.proofs.Lowest.{Tells, cond_tells, then_ok_tells}
use Rattle.snapshot_file.proofs.WordFaults.{version_tells, number_tells}
use Rattle.snapshot_file.proofs.LineFaults.{words_tell, none_stands, not_utf8, begins, does_not_begin, last_tells, later_tells}
use Rattle.snapshot_file.proofs.Stages.{front_of, Holds, Keeps, no_last, above_tells, passed_tells}

abbrev pub OverlapsAt : Front → List ℕ → Type 0
OverlapsAt (behind s) line = Overlaps s line
OverlapsAt front line = ⊥

-- what the step tells, where it has this line after this front
abbrev pub LineTells : Front → List ℕ → ℕ → Result Reading SnapErr → Type 0
LineTells front line n res = Tells (Breaks front line) (OverlapsAt front line) n res

first_tells : (r : Reading) (line word : List ℕ) (more : List (List ℕ)) → is_utf8 line ≡ true → words line ≡ word ∷ more → LineTells first line r.line (version_line r word more)
first_tells r line word more u w =
    let good : Reading = record r { stage = stages.Version; line = after r.line } in
    cond_tells (Breaks first line) ⊥ r.line (bytes_eq word (codes "rdbg-snapshot")) _ (bad r.line 2)
    (λ t. words_tell first Version line more ⊥ ⊥ r.line _ u tt (begins line word (codes "rdbg-snapshot") more w t) (λ o. o) (version_tells ⊥ r.line more good))
    (λ f. none_stands first line ⊥ r.line u (λ kind rest may v. elim kind as (λ k. MayStand first k → words line ≡ first_word k ∷ rest → ⊥) [
      | Version ↦ λ m e. does_not_begin line word (codes "rdbg-snapshot") more rest w f e
      | Pc ↦ λ m e. m
      | Cfa ↦ λ m e. m
      | Register ↦ λ m e. m
      | Memory ↦ λ m e. m
    ] may v))

second_tells : (r : Reading) (line word : List ℕ) (more : List (List ℕ)) → is_utf8 line ≡ true → words line ≡ word ∷ more → LineTells second line r.line (pc_line r word more)
second_tells r line word more u w =
    let good : ℕ → Reading = λ n. record { stage = stages.Pc; line = after r.line; snapshot = record r.snapshot { pc = n } } in
    cond_tells (Breaks second line) ⊥ r.line (bytes_eq word (codes "pc")) _ (bad r.line 2)
    (λ t. words_tell second Pc line more ⊥ ⊥ r.line _ u tt (begins line word (codes "pc") more w t) (λ o. o) (then_ok_tells (BreaksNumber more) ⊥ r.line (number_of_line r.line more) good (number_tells ⊥ r.line more)))
    (λ f. none_stands second line ⊥ r.line u (λ kind rest may v. elim kind as (λ k. MayStand second k → words line ≡ first_word k ∷ rest → ⊥) [
      | Version ↦ λ m e. m
      | Pc ↦ λ m e. does_not_begin line word (codes "pc") more rest w f e
      | Cfa ↦ λ m e. m
      | Register ↦ λ m e. m
      | Memory ↦ λ m e. m
    ] may v))

-- a register is judged by the last line
above_here : (r : Reading) (stage : Stage) (reg : Reg) → r.stage ≡ stage → Holds stage r.snapshot → r.snapshot.mem ≡ [] → is_above r.stage reg ≡ true → IsPassed r.snapshot.regs reg → ⊥
above_here r stage reg e h none t p = above_tells stage r.snapshot reg h none (ap (λ s. is_above s reg) (sym e) ∙ t) p

passed_here : (r : Reading) (stage : Stage) (reg : Reg) → r.stage ≡ stage → Holds stage r.snapshot → is_above r.stage reg ≡ false → IsPassed r.snapshot.regs reg
passed_here r stage reg e h f = passed_tells stage r.snapshot reg h (ap (λ s. is_above s reg) (sym e) ∙ f)

cfa_tells : (r : Reading) (line word : List ℕ) (more : List (List ℕ)) → is_utf8 line ≡ true → words line ≡ word ∷ more → r.stage ≡ stages.Pc → IsBare r.snapshot → LineTells (behind r.snapshot) line r.line (line_at stages.Pc r word more)
cfa_tells r line word more u w e h =
    let front = behind r.snapshot in
    let O = Overlaps r.snapshot line in
    let good : ℕ → Reading = λ n. record { stage = stages.Cfa; line = after r.line; snapshot = record r.snapshot { cfa = Some n } } in
    cond_tells (Breaks front line) O r.line (bytes_eq word (codes "cfa")) (cfa_line r more) (later_line r word more)
    (λ t. words_tell front Cfa line more O O r.line (cfa_line r more) u h (begins line word (codes "cfa") more w t) (λ o. o) (then_ok_tells (BreaksNumber more) O r.line (number_of_line r.line more) good (number_tells O r.line more)))
    (λ f. later_tells r line word more u w (λ rest m v. does_not_begin line word (codes "cfa") more rest w f v) h.2
    (λ reg t p. above_here r stages.Pc reg e h h.2 t p) (λ reg g. passed_here r stages.Pc reg e h g))

tells_at : (stage : Stage) (r : Reading) (line word : List ℕ) (more : List (List ℕ)) → is_utf8 line ≡ true → words line ≡ word ∷ more → r.stage ≡ stage → Holds stage r.snapshot → LineTells (front_of stage r.snapshot) line r.line (line_at stage r word more)
tells_at stages.Nothing r line word more u w e h = first_tells r line word more u w
tells_at stages.Version r line word more u w e h = second_tells r line word more u w
tells_at stages.Pc r line word more u w e h = cfa_tells r line word more u w e h
tells_at stages.Cfa r line word more u w e h =
    later_tells r line word more u w (λ rest m v. h.0 m.0) h.2 (λ reg t p. above_here r stages.Cfa reg e h h.2 t p) (λ reg g. passed_here r stages.Cfa reg e h g)
tells_at (stages.Register last) r line word more u w e h =
    later_tells r line word more u w (λ rest m v. no_last r.snapshot.regs last m.1 h.0.0) h.1 (λ reg t p. above_here r (stages.Register last) reg e h h.1 t p) (λ reg g. passed_here r (stages.Register last) reg e h g)
tells_at stages.Memory r line word more u w e h = last_tells r line word more u w (λ rest m v. h m.2) (λ rest m v. h m)

by_words : (r : Reading) (line : List ℕ) (ws : List (List ℕ)) → Keeps r → is_utf8 line ≡ true → words line ≡ ws → LineTells (front_of r.stage r.snapshot) line r.line (words_at r ws)
by_words r line [] k u w = none_stands (front_of r.stage r.snapshot) line (OverlapsAt (front_of r.stage r.snapshot) line) r.line u (λ kind rest may v. (let same = sym w ∙ v in cc))
by_words r line (word ∷ more) k u w = tells_at r.stage r line word more u w refl k.holds

pub step_tells : (r : Reading) (line : List ℕ) → Keeps r → LineTells (front_of r.stage r.snapshot) line r.line (step r line)
unfolding step
step_tells r line k =
    let front = front_of r.stage r.snapshot in
    cond_tells (Breaks front line) (OverlapsAt front line) r.line (is_utf8 line) (words_at r (words line)) (bad r.line 1)
    (λ u. by_words r line (words line) k u refl)
    (λ f. not_utf8 front line (OverlapsAt front line) r.line f)
