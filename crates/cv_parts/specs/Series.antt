-- Values one after the other: up to the end of some bytes, or so many.
use Rattle.std.specs.Prelude.{ℕ, ◌≡◌, ◌-◌, ◌==◌, List, map, length}
use Rattle.rv_bytes.specs.Forms.{Form, made, Steps, row}

-- a value, and how many bytes it has
pub record Sized (A : Type 0) : Type 0 where
  pub value : A
  pub size : ℕ

-- a value with the count of its bytes
abbrev pub sized : {A : Type 0} → Form ℕ A → Form ℕ (Sized A)
sized F = record {
  spells = λ n w t. F.spells n w.value t × (w.size ≡ length t);
  faults = F.faults;
}

-- values until no byte is left; the state is the count of the bytes left, which each form is told
abbrev pub series : {A : Type 0} → (ℕ → Form ℕ A) → Steps ℕ (Sized A) ℕ
series F = record { over = λ left. left == 0; due = λ left. sized (F left); next = λ left w. left - w.size }

-- the values alone
abbrev pub values : {A : Type 0} → List (Sized A) → List A
values ws = map (λ w. w.value) ws

-- values one after the other, to the end of so many bytes
abbrev pub to_end : {A : Type 0} → (ℕ → Form ℕ A) → ℕ → Form ℕ (List A)
to_end F size = made values (row (series F) size)

-- values until none is left; the state is the count of the values left
abbrev pub count_down : {A : Type 0} → Form ℕ A → Steps ℕ A ℕ
count_down F = record { over = λ left. left == 0; due = λ _. F; next = λ left _. left - 1 }

-- so many values, one after the other
abbrev pub so_many : {A : Type 0} → Form ℕ A → ℕ → Form ℕ (List A)
so_many F count = row (count_down F) count
