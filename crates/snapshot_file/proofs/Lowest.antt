-- What a step that may fail tells of the rules that are broken.
use Rattle.std.proofs.Common.{◌≡◌, refl, ℕ, Bool, true, false, cond, Option, Some, None, Result, Ok, Err}
use Rattle.snapshot_file.specs.declared.fault.SnapErr.{SnapErr}
use Rattle.snapshot_file.specs.declared.fault.SnapErr.TheVariants as faults
use Rattle.snapshot_file.specs.Reading.{◌>>=◌, or_bad}
use Rattle.snapshot_file.specs.Faults.{IsLowest}

-- where it goes on, no rule is broken; where a rule is told, it is the lowest
abbrev pub Tells : {X : Type 0} → (ℕ → Type 0) → Type 0 → ℕ → Result X SnapErr → Type 0
Tells Broken Over line (Ok x) = (rule : ℕ) → Broken rule → ⊥
Tells Broken Over line (Err (faults.BadLine n rule)) = (n ≡ line) × IsLowest Broken rule
Tells Broken Over line (Err (faults.Overlap n)) = (n ≡ line) × Over
Tells Broken Over line (Err faults.Memory) = ⊥

module _ (B : ℕ → Type 0) (O : Type 0) (line : ℕ) where
  pub or_bad_tells : {X Y : Type 0} (rule : ℕ) (o : Option X) (f : X → Result Y SnapErr) → (o ≡ None → IsLowest B rule) → ((x : X) → o ≡ Some x → Tells B O line (f x)) → Tells B O line (or_bad line rule o >>= f)
  or_bad_tells rule None f h k = (refl, h refl)
  or_bad_tells rule (Some x) f h k = k x refl

  pub or_bad_last : {X : Type 0} (rule : ℕ) (o : Option X) → (o ≡ None → IsLowest B rule) → ((x : X) → o ≡ Some x → (n : ℕ) → B n → ⊥) → Tells B O line (or_bad line rule o)
  or_bad_last rule None h k = (refl, h refl)
  or_bad_last rule (Some x) h k = k x refl

  pub cond_tells : {Y : Type 0} (b : Bool) (x y : Result Y SnapErr) → (b ≡ true → Tells B O line x) → (b ≡ false → Tells B O line y) → Tells B O line (cond b x y)
  cond_tells true x y h k = h refl
  cond_tells false x y h k = k refl

  pub bind_tells : {X Y : Type 0} (a : Result X SnapErr) (f : X → Result Y SnapErr) → Tells B O line a → ((x : X) → a ≡ Ok x → Tells B O line (f x)) → Tells B O line (a >>= f)
  bind_tells (Ok x) f h k = k x refl
  bind_tells (Err (faults.BadLine n rule)) f h k = h
  bind_tells (Err (faults.Overlap n)) f h k = h
  bind_tells (Err faults.Memory) f h k = h

-- the same of rules that are broken together
pub tells_same : {X : Type 0} (B C : ℕ → Type 0) (O P : Type 0) (line : ℕ) (r : Result X SnapErr) → ((n : ℕ) → B n → C n) → ((n : ℕ) → C n → B n) → (O → P) → Tells B O line r → Tells C P line r
tells_same B C O P line (Ok x) to from over h = λ n c. h n (from n c)
tells_same B C O P line (Err (faults.BadLine n rule)) to from over h = (h.0, (to rule h.1.0, λ m c. h.1.1 m (from m c)))
tells_same B C O P line (Err (faults.Overlap n)) to from over h = (h.0, over h.1)
tells_same B C O P line (Err faults.Memory) to from over h = h

-- a value that is put to use
pub then_ok_tells : {X Y : Type 0} (B : ℕ → Type 0) (O : Type 0) (line : ℕ) (a : Result X SnapErr) (f : X → Y) → Tells B O line a → Tells B O line (a >>= λ x. Ok (f x))
then_ok_tells B O line (Ok x) f h = h
then_ok_tells B O line (Err (faults.BadLine n rule)) f h = h
then_ok_tells B O line (Err (faults.Overlap n)) f h = h
then_ok_tells B O line (Err faults.Memory) f h = h
