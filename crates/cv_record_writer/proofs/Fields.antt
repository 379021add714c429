-- Fields that were appended one after the other.
use Rattle.std.proofs.Common.{◌≡◌, ◌<◌, ℕ, ◌^◌, ℤ, List, ◌++◌, refl, ◌∙◌}
use Rattle.byteorder.specs.Endian.{little_bytes}
use Rattle.rv_bytes.specs.Forms.{Form, follow}
use Rattle.rv_bytes.specs.Numbers.{number, text}
use Rattle.rv_bytes.specs.Leaves.{numeric, numeric_bytes}
use Rattle.rv_bytes.specs.Writers.{SpellsEverywhere}
use Rattle.cv_parts.specs.Puts.{Puts, name_bytes}
use Rattle.cv_parts.proofs.PutForms.{puts_number, puts_then}

-- a number, and what follows it
pub number_then : {B : Type 0} (w v : ℕ) (G : ℕ → Form ℕ B) (x : B) (b old mid new : List ℕ) → v < 256 ^ w → mid ≡ old ++ little_bytes w v → Puts (G v) x b mid new → Puts (follow (number w) G) x (little_bytes w v ++ b) old new
number_then w v G x b old mid new h e p = puts_then (number w) G v x (little_bytes w v) b old mid new (puts_number w v old mid h e) p

-- a numeric leaf, and what follows it
pub numeric_then : {B : Type 0} (z : ℤ) (G : ℤ → Form ℕ B) (x : B) (b old mid new : List ℕ) → SpellsEverywhere numeric z (numeric_bytes z) → mid ≡ old ++ numeric_bytes z → Puts (G z) x b mid new
    → Puts (follow numeric G) x (numeric_bytes z ++ b) old new
numeric_then z G x b old mid new s e p = puts_then numeric G z x (numeric_bytes z) b old mid new (record { appended = e; spells = s }) p

-- a name, and what follows it
pub name_then : {B : Type 0} (t : List ℕ) (G : List ℕ → Form ℕ B) (x : B) (b old mid new : List ℕ) → Puts text t (name_bytes t) old mid → Puts (G t) x b mid new → Puts (follow text G) x (name_bytes t ++ b) old new
name_then t G x b old mid new p q = puts_then text G t x (name_bytes t) b old mid new p q
