-- A line that is read leaves what its kind says.
use Rattle.std.proofs.Common.{◌≡◌, ◌∙◌, sym, ap, subst, refl, ℕ, ◌<◌, ⊎_elim, List, [], ◌∷◌, length, arith, Option, Some, None, Ok, codes}
use Rattle.std.specs.Str.{bytes_eq}
use Rattle.std.proofs.lemmas.Bool.{cases_lt}
use Rattle.std.proofs.lemmas.List.{get_or-set_same, get_or-set_other, length-set}
use Rattle.std.proofs.lemmas.Slice.Eq.{bytes_eq-Decides}
use Rattle.readers.specs.Lines.{words}
use Rattle.snapshot_file.specs.declared.registers.Reg.{Reg}
use Rattle.snapshot_file.specs.declared.snapshot.Stage.{Stage}
use Rattle.snapshot_file.specs.declared.snapshot.Stage.TheVariants as stages
use Rattle.snapshot_file.specs.declared.snapshot.Reading.{Reading}
use Rattle.snapshot_file.specs.Registers.{number_of, register, with_register, register_bytes}
use Rattle.snapshot_file.specs.Reading.{after, step, line_at, later_line, cfa_line, start}
use Rattle.snapshot_file.specs.Faults.{IsPassed}
use Rattle.snapshot_file.proofs.Chains.{cond_then}
use Rattle.snapshot_file.proofs.Segments.{with_some, some_runs}
use Rattle.snapshot_file.proofs.ReadLines.{SaysMemory, SaysRegister, line_words, version_says, pc_says, cfa_says, last_says, later_says}
use Rattle.snapshot_file.proofs.Stages.{Holds, Keeps, IsLast, number_low, above_tells}

-- what holds after the line, and its number
abbrev pub Kept : Reading → Reading → Type 0
Kept r t = Keeps t × (t.line ≡ after r.line)

kept_as : (r t s : Reading) → t ≡ s → Kept r s → Kept r t
kept_as r t s e h = subst (Kept r) (sym e) h

last_register : (values : List (Option (List ℕ))) (reg : Reg) (n : ℕ) → length values ≡ 32 → (IsPassed values reg → ⊥) → IsLast (with_register values reg n) reg
last_register values reg n size above =
    let low : number_of reg < length values = omega (arith, number_low reg, size) in
    let there : register (with_register values reg n) reg ≡ Some (register_bytes reg n) = get_or-set_same values (number_of reg) (Some (register_bytes reg n)) None low in (
      λ e. cc,
      λ other h. ⊎_elim
          (λ (l : number_of reg < number_of other).
          let same : register (with_register values reg n) other ≡ register values other = get_or-set_other values (number_of reg) (number_of other) (Some (register_bytes reg n)) None (λ q. omega (arith, l, q)) in
          absurd (above (other, (λ none. h (same ∙ none), omega (arith, l)))))
          (λ l. l)
          (cases_lt (number_of reg) (number_of other)),
    )

register_kept : (r t : Reading) (line : List ℕ) → Keeps r → r.snapshot.mem ≡ [] → SaysRegister r line t → Kept r t
register_kept r t line k none says =
    let v = says.value in
    let above = above_tells r.stage r.snapshot v.0 k.holds none says.above in
    kept_as r t _ says.next (record { holds = (last_register r.snapshot.regs v.0 v.1 k.size above, none); size = length-set r.snapshot.regs (number_of v.0) (Some (register_bytes v.0 v.1)) ∙ k.size }, refl)

memory_kept : (r t : Reading) (line : List ℕ) → Keeps r → SaysMemory r line t → Kept r t
memory_kept r t line k says =
    let g = says.segment in
    let some = some_runs r.snapshot.mem (record { at = g.at; bytes = g.bytes }) in
    let same = with_some r.snapshot.mem g.at g.bytes says.some in
    kept_as r t _ says.next (record { holds = λ e. (let empty = ap length (sym same ∙ e) in omega (arith, some, empty)); size = k.size }, refl)

later_kept : (r t : Reading) (line word : List ℕ) (more : List (List ℕ)) → Keeps r → r.snapshot.mem ≡ [] → words line ≡ word ∷ more → later_line r word more ≡ Ok t → Kept r t
later_kept r t line word more k none w e = ⊎_elim (register_kept r t line k none) (memory_kept r t line k) (later_says r line word more t w e)

third_kept : (r t : Reading) (line word : List ℕ) (more : List (List ℕ)) → Keeps r → Holds stages.Pc r.snapshot → words line ≡ word ∷ more → line_at stages.Pc r word more ≡ Ok t → Kept r t
third_kept r t line word more k h w e =
    cond_then (bytes_eq word (codes "cfa")) (cfa_line r more) (later_line r word more) (Ok t) e
    (λ f e1. let says = cfa_says r line more t (w ∙ ap (λ y. y ∷ more) ((bytes_eq-Decides word (codes "cfa")).0 f)) e1 in
    kept_as r t _ says.3 (record { holds = (λ q. cc, h.1, h.2); size = k.size }, refl))
    (λ f e1. later_kept r t line word more k h.2 w e1)

kept_at : (stage : Stage) (r t : Reading) (line word : List ℕ) (more : List (List ℕ)) → Keeps r → Holds stage r.snapshot → words line ≡ word ∷ more → line_at stage r word more ≡ Ok t → Kept r t
kept_at stages.Nothing r t line word more k h w e = kept_as r t _ (version_says r line word more t w e).1 (record { holds = h; size = k.size }, refl)
kept_at stages.Version r t line word more k h w e = kept_as r t _ (pc_says r line word more t w e).3 (record { holds = h; size = k.size }, refl)
kept_at stages.Pc r t line word more k h w e = third_kept r t line word more k h w e
kept_at stages.Cfa r t line word more k h w e = later_kept r t line word more k h.2 w e
kept_at (stages.Register last) r t line word more k h w e = later_kept r t line word more k h.1 w e
kept_at stages.Memory r t line word more k h w e = memory_kept r t line k (last_says r line word more t w e)

pub step_keeps : (r t : Reading) (line : List ℕ) → Keeps r → step r line ≡ Ok t → Kept r t
step_keeps r t line k e = line_words r line t e (λ word more w e1. kept_at r.stage r t line word more k k.holds w e1)

pub start_keeps : Keeps start
start_keeps = record { holds = (refl, refl, refl); size = refl }
