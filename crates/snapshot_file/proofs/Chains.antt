-- Steps that may fail, one after another.
use Rattle.std.proofs.Common.{◌≡◌, refl, ℕ, Bool, true, false, cond, Option, Some, None, Result, Ok, Err}
use Rattle.snapshot_file.specs.declared.fault.SnapErr.{SnapErr}
use Rattle.snapshot_file.specs.Reading.{◌>>=◌, or_bad}

pub bind_then : {A B P : Type 0} (a : Result A SnapErr) (f : A → Result B SnapErr) (y : B) → (a >>= f) ≡ Ok y → ((x : A) → a ≡ Ok x → f x ≡ Ok y → P) → P
bind_then (Ok x) f y e k = k x refl e
bind_then (Err x) f y e k = absurd (cc)

pub bind_ok : {A B : Type 0} (a : Result A SnapErr) (f : A → Result B SnapErr) (x : A) (y : Result B SnapErr) → a ≡ Ok x → f x ≡ y → (a >>= f) ≡ y
bind_ok (Ok z) f x y e h = cc
bind_ok (Err z) f x y e h = absurd (cc)

pub cond_then : {A P : Type 0} (b : Bool) (x y z : A) → cond b x y ≡ z → (b ≡ true → x ≡ z → P) → (b ≡ false → y ≡ z → P) → P
cond_then true x y z e p q = p refl e
cond_then false x y z e p q = q refl e

pub or_bad_then : {A : Type 0} (line rule : ℕ) (o : Option A) (x : A) → or_bad line rule o ≡ Ok x → o ≡ Some x
or_bad_then line rule None x e = absurd (cc)
or_bad_then line rule (Some y) x e = cc
