-- Forms in other bytes: in the first so many, or in those of another section.
use Rattle.std.specs.Prelude.{◌≡◌, ◌<◌, ◌≤◌, ℕ, List, [], length, take, drop, ◌⊎◌}
use Rattle.rv_bytes.specs.Rules.{short}
use Rattle.rv_bytes.specs.Forms.{Form, Splits}

-- so many bytes, which begin with a value; too few are short, and M says where that stands
abbrev pub boxed : {M A : Type 0} → M → ℕ → Form M A → Form M A
boxed place size F = record {
  spells = λ n v t. (length t ≡ size) × Splits (F.spells n v) (λ _ _. Unit {0}) n t;
  faults = λ n s r m. ((length s < size) × ((r ≡ short) × (m ≡ place))) ⊎ ((size ≤ length s) × F.faults n (take size s) r m);
}

-- no bytes of these: a value that begins at a place of other bytes
abbrev pub elsewhere : {M A : Type 0} → List ℕ → ℕ → Form M A → Form M A
elsewhere other at F = record {
  spells = λ n v t. (t ≡ []) × Splits (F.spells at v) (λ _ _. Unit {0}) at (drop at other);
  faults = λ n s r m. F.faults at (drop at other) r m;
}

-- the same form, whose faults stand at places of another kind
abbrev pub within : {M N A : Type 0} → (M → N) → Form M A → Form N A
within {M = M} spot F = record {
  spells = F.spells;
  faults = λ n s r j. (m : M) × ((j ≡ spot m) × F.faults n s r m);
}
