-- How far a file was read, by the lines that were read.
use Rattle.std.proofs.Common.{◌≡◌, ◌∙◌, sym, ap, subst, refl, ℕ, ◌+◌, ◌-◌, ◌<◌, ◌^◌, min, List, [], ◌∷◌, ◌++◌, length, length-append, append_assoc, arith, ⊎_elim, Ok, codes}
use Rattle.std.specs.Str.{bytes_eq}
use Rattle.std.proofs.lemmas.Slice.Eq.{bytes_eq-Decides}
use Rattle.readers.specs.Lines.{words}
use Rattle.snapshot_file.specs.declared.snapshot.Stage.{Stage}
use Rattle.snapshot_file.specs.declared.snapshot.Stage.TheVariants as stages
use Rattle.snapshot_file.specs.declared.snapshot.Reading.{Reading}
use Rattle.snapshot_file.specs.Reading.{after, step, steps, start, line_at, later_line, cfa_line}
use Rattle.snapshot_file.proofs.Chains.{cond_then}
use Rattle.snapshot_file.proofs.Steps.{steps_more, line_reads}
use Rattle.snapshot_file.proofs.ReadLines.{SaysMemory, SaysRegister, line_words, version_says, pc_says, cfa_says, last_says, later_says}
use Rattle.snapshot_file.proofs.Stages.{Keeps}
use Rattle.snapshot_file.proofs.Kept.{step_keeps, start_keeps}

-- the lines up to that of the version
abbrev pub Head : Stage → List (List ℕ) → Type 0
Head stages.Nothing ls = ls ≡ []
Head stages.Version ls = ls ≡ codes "rdbg-snapshot 1" ∷ []
Head stage ls = Unit {0}

-- these lines were read, and then the reading is this one
pub record Reached (ls : List (List ℕ)) (r : Reading) : Type 0 where
  pub keeps : Keeps r
  pub head : Head r.stage ls
  pub number : r.line ≡ min (length ls + 1) (2 ^ 32 - 1)
  pub same : (pieces : List (List ℕ)) → 0 < length pieces → steps start (ls ++ pieces) ≡ steps r pieces

pub start_reached : Reached [] start
start_reached = record { keeps = start_keeps; head = refl; number = refl; same = λ pieces l. refl }

head_as : (t s : Reading) (ls : List (List ℕ)) → t ≡ s → Head s.stage ls → Head t.stage ls
head_as t s ls e h = subst (λ (q : Reading). Head q.stage ls) (sym e) h

later_head : (r t : Reading) (line word : List ℕ) (more ls : List (List ℕ)) → words line ≡ word ∷ more → later_line r word more ≡ Ok t → Head t.stage ls
later_head r t line word more ls w e = ⊎_elim (λ (says : SaysRegister r line t). head_as t _ ls says.next tt) (λ (says : SaysMemory r line t). head_as t _ ls says.next tt) (later_says r line word more t w e)

head_at : (stage : Stage) (r t : Reading) (line word : List ℕ) (more ls : List (List ℕ)) → Head stage ls → words line ≡ word ∷ more → line_at stage r word more ≡ Ok t → Head t.stage (ls ++ line ∷ [])
head_at stages.Nothing r t line word more ls h w e =
    let says = version_says r line word more t w e in
    head_as t _ (ls ++ line ∷ []) says.1 (ap (λ xs. xs ++ line ∷ []) h ∙ ap (λ x. x ∷ []) says.0)
head_at stages.Version r t line word more ls h w e = head_as t _ (ls ++ line ∷ []) (pc_says r line word more t w e).3 tt
head_at stages.Pc r t line word more ls h w e =
    cond_then (bytes_eq word (codes "cfa")) (cfa_line r more) (later_line r word more) (Ok t) e
    (λ f e1. head_as t _ (ls ++ line ∷ []) (cfa_says r line more t (w ∙ ap (λ y. y ∷ more) ((bytes_eq-Decides word (codes "cfa")).0 f)) e1).3 tt)
    (λ f e1. later_head r t line word more (ls ++ line ∷ []) w e1)
head_at stages.Cfa r t line word more ls h w e = later_head r t line word more (ls ++ line ∷ []) w e
head_at (stages.Register last) r t line word more ls h w e = later_head r t line word more (ls ++ line ∷ []) w e
head_at stages.Memory r t line word more ls h w e = head_as t _ (ls ++ line ∷ []) (last_says r line word more t w e).next tt

next_number : (a b : ℕ) (ls : List (List ℕ)) (line : List ℕ) → a ≡ min (length ls + 1) (2 ^ 32 - 1) → b ≡ after a → b ≡ min (length (ls ++ line ∷ []) + 1) (2 ^ 32 - 1)
next_number a b ls line e f = let size = length-append ls (line ∷ []) in grind (arith, e, f, size)

pub next_reached : (ls : List (List ℕ)) (r t : Reading) (line : List ℕ) → Reached ls r → step r line ≡ Ok t → Reached (ls ++ line ∷ []) t
next_reached ls r t line h e =
    let kept = step_keeps r t line h.keeps e in
    record {
      keeps = kept.0;
      head = line_words r line t e (λ word more w e1. head_at r.stage r t line word more ls h.head w e1);
      number = next_number r.line t.line ls line h.number kept.1;
      same = λ pieces l. ap (steps start) (append_assoc ls (line ∷ []) pieces) ∙ h.same (line ∷ pieces) (omega arith) ∙ steps_more r line pieces l ∙ line_reads (step r line) t (λ s. steps s pieces) e;
    }
