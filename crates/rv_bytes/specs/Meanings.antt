-- What bytes say: they split, no later pass finds a fault in the split, and this is said by it.
use Rattle.std.specs.Prelude.{◌≡◌, ℕ, List, Option, Some, None, ◌⊎◌}
use Rattle.rv_bytes.specs.Forms.{Form}

-- how bytes split into an A, and what the split says, a B; M says where a fault stands
pub record Meaning (M A B : Type 0) : Type 1 where
  pub form : Form M A
  -- the first fault of the later passes over a whole split: the rule, and where it stands
  pub fault : A → Option (ℕ × M)
  pub said : A → B

-- the bytes split without a fault, and say this
abbrev pub Says : {M A B : Type 0} → Meaning M A B → List ℕ → B → Type 0
Says {A = A} P s b = (v : A) × (P.form.spells 0 v s × ((P.fault v ≡ None) × (b ≡ P.said v)))

-- the first fault: the bytes don't split, or they do, and a later pass finds it
abbrev pub IsOutside : {M A B : Type 0} → Meaning M A B → List ℕ → ℕ → M → Type 0
IsOutside {A = A} P s r m = P.form.faults 0 s r m ⊎ ((v : A) × (P.form.spells 0 v s × (P.fault v ≡ Some (r, m))))

-- bytes say at most one thing, have at most one first fault, and never both
pub record IsOneMeaning {M A B : Type 0} (P : Meaning M A B) : Type 0 where
  pub one_said : (s : List ℕ) (a b : B) → Says P s a → Says P s b → a ≡ b
  pub one_fault : (s : List ℕ) (r q : ℕ) (m k : M) → IsOutside P s r m → IsOutside P s q k → (r ≡ q) × (m ≡ k)
  pub never_both : (s : List ℕ) (b : B) (r : ℕ) (m : M) → Says P s b → IsOutside P s r m → ⊥
