-- What a call tells in the words of readers, in the words of forms.
use Rattle.std.proofs.Common.{◌≡◌, ℕ, Result, Ok, Err, IfOk, IfErr, subst}
use Rattle.rv_bytes.specs.Places.{Place}
use Rattle.rv_bytes.specs.Forms.{Form}
use Rattle.rv_bytes.specs.Readers.{Res, bad, Reader}
use Rattle.rv_bytes.specs.Reads.{Takes, IsRefused, IsRefusedBy}
use Rattle.rv_bytes.specs.Results.{GivesBy, ReadsBy, Reads}
use Rattle.rv_bytes.specs.declared.err.CutErr.{CutErr}
use Rattle.rv_bytes.specs.declared.err.DwErr.{DwErr}
use Rattle.rv_bytes.proofs.Exact.{Right, Exact}

-- what an exact reader gives is taken
pub taken : {A B : Type 0} (F : Form ℕ A) (read : Reader ℕ A) → Exact F read → (view : B → A) (old new : Place) (r : Result B CutErr) → GivesBy view (read old.at old.rest) r new → IfOk r (λ v. Takes F old new (view v))
taken F read e view old new (Ok v) h =
    let w = subst (Right F old.at old.rest) h (e.right old.at old.rest) in
    record { spelling = w.0; spells = w.1.0; bytes = w.1.1.0; past = w.1.1.1 }
taken F read e view old new (Err d) h = tt

-- what an exact reader refuses is refused
pub refused : {A B : Type 0} (F : Form ℕ A) (read : Reader ℕ A) → Exact F read → (view : B → A) (old new : Place) (r : Result B CutErr) → GivesBy view (read old.at old.rest) r new → IfErr r (IsRefused F old)
refused F read e view old new (Ok v) h = tt
refused F read e view old new (Err d) h = subst (Right F old.at old.rest) h (e.right old.at old.rest)

-- the same for debug information
pub taken_by : {A B : Type 0} (F : Form ℕ A) (read : Reader ℕ A) → Exact F read → (view : B → A) (old new : Place) (r : Result B DwErr) → ReadsBy view (read old.at old.rest) r new → IfOk r (λ v. Takes F old new (view v))
taken_by F read e view old new (Ok v) h =
    let w = subst (Right F old.at old.rest) h (e.right old.at old.rest) in
    record { spelling = w.0; spells = w.1.0; bytes = w.1.1.0; past = w.1.1.1 }
taken_by F read e view old new (Err d) h = tt

pub refused_by : {A B : Type 0} (F : Form ℕ A) (read : Reader ℕ A) → Exact F read → (view : B → A) (old new : Place) (r : Result B DwErr) → ReadsBy view (read old.at old.rest) r new → IfErr r (IsRefusedBy F old)
refused_by F read e view old new (Ok v) h = tt
refused_by F read e view old new (Err (DwErr.Refused m r)) h = subst (Right F old.at old.rest) h (e.right old.at old.rest)
refused_by F read e view old new (Err DwErr.Memory) h = tt

-- a refusal is handed on where the second reader refuses as the first does
pub refusal_on : {A C : Type 0} (x : Res ℕ A) (y : Res ℕ C) (e : DwErr) (p q : Place) → Reads x (Err e) p → ((r m : ℕ) → x ≡ bad r m → y ≡ bad r m) → Reads y (Err e) q
refusal_on x y (DwErr.Refused m r) p q h f = f r m h
refusal_on x y DwErr.Memory p q h f = tt
