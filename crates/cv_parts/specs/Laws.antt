-- A theorem on sections.
use Rattle.std.specs.Prelude.{◌≡◌, ℕ, List, length}
use Rattle.rv_bytes.specs.Forms.{Form}

-- a section is at most one value, has at most one first error, and never both; the form is told how many bytes the section has
pub record HasOneReading {A : Type 0} (F : ℕ → Form ℕ A) : Type 0 where
  pub one_value : (s : List ℕ) (v w : A) → (F (length s)).spells 0 v s → (F (length s)).spells 0 w s → v ≡ w
  pub one_fault : (s : List ℕ) (r q m k : ℕ) → (F (length s)).faults 0 s r m → (F (length s)).faults 0 s q k → (r ≡ q) × (m ≡ k)
  pub never_both : (s : List ℕ) (v : A) (r m : ℕ) → (F (length s)).spells 0 v s → (F (length s)).faults 0 s r m → ⊥
