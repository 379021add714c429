-- What an exact reader answers at a place of a section, as a call shows it, in the words of forms.
use Rattle.std.proofs.Common.{◌≡◌, ◌<◌, ℕ, List, length, drop, inr, Result, Ok, Err, IfOk, IfErr, subst}
use Rattle.rv_bytes.specs.Places.{Place}
use Rattle.rv_bytes.specs.Forms.{Form}
use Rattle.rv_bytes.specs.Readers.{Res, bad, Reader}
use Rattle.rv_bytes.specs.Results.{ReadsBy}
use Rattle.rv_bytes.specs.Sections.{BeginsAt, IsFaultAt}
use Rattle.rv_bytes.specs.declared.err.DwErr.{DwErr}
use Rattle.rv_bytes.proofs.Exact.{Right, Exact}

-- what it gives begins there
pub begins_by : {A B : Type 0} (F : Form ℕ A) (read : Reader ℕ A) → Exact F read → (view : B → A) (section : List ℕ) (at : ℕ) → at < length section → (new : Place) (result : Result B DwErr)
    → ReadsBy view (read at (drop at section)) result new → IfOk result (λ v. BeginsAt F section at (view v))
begins_by F read e view section at i new (Ok v) h =
    let w = subst (Right F at (drop at section)) h (e.right at (drop at section)) in
    record { inside = i; begins = record { front = w.0; back = new.rest; split = w.1.1.0; is_front = w.1.0; is_back = tt } }
begins_by F read e view section at i new (Err d) h = tt

-- what it refuses is invalid there
pub is_fault_by : {A B : Type 0} (rule : ℕ) (F : Form ℕ A) (read : Reader ℕ A) → Exact F read → (view : B → A) (section : List ℕ) (at : ℕ) → at < length section → (new : Place) (result : Result B DwErr)
    → ReadsBy view (read at (drop at section)) result new → IfErr result (IsFaultAt rule F section at)
is_fault_by rule F read e view section at i new (Ok v) h = tt
is_fault_by rule F read e view section at i new (Err (DwErr.Refused m r)) h = inr (i, subst (Right F at (drop at section)) h (e.right at (drop at section)))
is_fault_by rule F read e view section at i new (Err DwErr.Memory) h = tt

-- a refusal is handed on where the second reader refuses as the first does
pub refused_on : {A B C D : Type 0} (x : Res ℕ A) (y : Res ℕ C) (view : B → A) (show : D → C) (e : DwErr) (p q : Place) → ReadsBy view x (Err e) p → ((r m : ℕ) → x ≡ bad r m → y ≡ bad r m) → ReadsBy show y (Err e) q
refused_on x y view show (DwErr.Refused m r) p q h f = f r m h
refused_on x y view show DwErr.Memory p q h f = tt
