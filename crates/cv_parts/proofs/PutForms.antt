-- What is appended part by part is spelled.
use Rattle.std.proofs.Common.{◌≡◌, ◌<◌, ◌≤◌, ℕ, zero, suc, ◌+◌, ◌-◌, ◌^◌, ℤ, List, [], ◌∷◌, ◌++◌, length, refl, sym, ap, subst, ◌∙◌, append_assoc, append-nil}
use Rattle.byteorder.specs.Endian.{little_bytes}
use Rattle.rv_bytes.specs.Forms.{Form, Splits, nothing, follow, made}
use Rattle.rv_bytes.specs.Numbers.{number, text}
use Rattle.rv_bytes.specs.Writers.{IsPut, SpellsEverywhere}
use Rattle.rv_bytes.proofs.Puts.{put_number}
use Rattle.cv_parts.specs.Puts.{Puts, IsName, name_bytes}

-- a number of so many bytes
pub number_spelled : (w v : ℕ) → v < 256 ^ w → SpellsEverywhere (number w) v (little_bytes w v)
number_spelled w v h = let p : IsPut (number w) v [] (little_bytes w v) = put_number w v [] (little_bytes w v) h refl in subst (SpellsEverywhere (number w) v) (sym p.appended) p.spelled

pub puts_number : (w v : ℕ) (old new : List ℕ) → v < 256 ^ w → new ≡ old ++ little_bytes w v → Puts (number w) v (little_bytes w v) old new
puts_number w v old new h e = record { appended = e; spells = number_spelled w v h }

-- one value and the next
pub puts_then : {A B : Type 0} (F : Form ℕ A) (G : A → Form ℕ B) (v : A) (w : B) (a b old mid new : List ℕ) → Puts F v a old mid → Puts (G v) w b mid new → Puts (follow F G) w (a ++ b) old new
puts_then F G v w a b old mid new p q = record {
  appended = q.appended ∙ ap (λ l. l ++ b) p.appended ∙ append_assoc old a b;
  spells = λ n. (v, record { front = a; back = b; split = refl; is_front = p.spells n; is_back = q.spells (n + length a) });
}

-- the value that f makes of one
pub puts_made : {A B : Type 0} (f : A → B) (F : Form ℕ A) (v : A) (a old new : List ℕ) → Puts F v a old new → Puts (made f F) (f v) a old new
puts_made f F v a old new p = record { appended = p.appended; spells = λ n. (v, (refl, p.spells n)) }

-- a value in no bytes
pub puts_nothing : {A : Type 0} (v : A) (old : List ℕ) → Puts (nothing v) v [] old old
puts_nothing v old = record { appended = sym (append-nil old); spells = λ n. (refl, refl) }

-- a name
pub name_spelled : (t : List ℕ) → IsName t → SpellsEverywhere text t (name_bytes t)
name_spelled t h n = ((refl, h.lacks_zero), h.is_text)

pub puts_name : (t old mid new : List ℕ) → IsName t → mid ≡ old ++ t → new ≡ mid ++ little_bytes 1 0 → Puts text t (name_bytes t) old new
puts_name t old mid new h e f = record { appended = f ∙ ap (λ l. l ++ 0 ∷ []) e ∙ append_assoc old t (0 ∷ []); spells = name_spelled t h }
