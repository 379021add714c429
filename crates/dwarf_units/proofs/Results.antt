-- What a reader gave, from what was kept of it; and refusals that are handed on.
use Rattle.std.proofs.Common.{◌≡◌, ℕ, List, Result, Ok, Err, refl}
use Rattle.rv_bytes.specs.Places.{Place}
use Rattle.rv_bytes.specs.Readers.{Res, got, bad, with_value}
use Rattle.rv_bytes.specs.Results.{ReadsBy}
use Rattle.rv_bytes.specs.declared.err.DwErr.{DwErr}

-- the value of which only a part was kept
pub got_back : {M A B : Type 0} (g : A → B) (w : B) (m : ℕ) (k : List ℕ) (x : Res M A) → with_value g x ≡ got w m k → (v : A) × ((x ≡ got v m k) × (g v ≡ w))
got_back g w m k (got v j l) h = let e : g v ≡ w = cc in let a : j ≡ m = cc in let b : l ≡ k = cc in (v, (rw (a, b) refl, e))
got_back g w m k (bad r j) h = absurd (cc)

-- a refusal is handed on where the second reader refuses as the first does
pub handed_on : {A B C D : Type 0} (view : B → A) (show : D → C) (x : Res ℕ A) (y : Res ℕ C) (e : DwErr) (p q : Place) → ReadsBy view x (Err e) p → ((r m : ℕ) → x ≡ bad r m → y ≡ bad r m) → ReadsBy show y (Err e) q
handed_on view show x y (DwErr.Refused m r) p q h f = f r m h
handed_on view show x y DwErr.Memory p q h f = tt
