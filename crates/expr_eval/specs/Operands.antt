-- What an expression finds on the stack at its operations, and what alone may be missing there.
use Rattle.std.specs.Prelude.{◌≡◌, ℕ, ◌+◌, ◌≤◌, ◌<◌, List, ◌∷◌, ◌++◌, length, Some, None, ◌↔◌}
use Rattle.snapshot_file.specs.declared.snapshot.Snapshot.{Snapshot}
use Rattle.snapshot_file.specs.Memory.{item_at}
use Rattle.snapshot_file.specs.Registers.{register}
use Rattle.expr_eval.specs.declared.operation.Op.{Op}
use Rattle.expr_eval.specs.declared.operation.Op.TheVariants as op
use Rattle.expr_eval.specs.Results.{step, meaning, result_of}
use Rattle.expr_eval.specs.Invariant.{needs, AreOps}

-- in the snapshot, where addresses have `ptr` bytes, the operations come to this one with this stack, which those before it leave
pub record ComeTo (ptr : ℕ) (snap : Snapshot) (ops : List Op) (o : Op) (stack : List ℕ) : Type 0 where
  pub before : List Op
  pub after : List Op
  pub parts : ops ≡ before ++ o ∷ after
  pub left : meaning ptr snap before ≡ Some stack

-- each operation that an expression comes to finds the numbers that it needs, on a stack of at most 64
abbrev pub FindOperands : Type 0
FindOperands = (ptr : ℕ) (ops : List Op) (snap : Snapshot) (o : Op) (stack : List ℕ) → AreOps ops → ComeTo ptr snap ops o stack → (needs o ≤ length stack) × (length stack ≤ 64)

-- what the operation names is missing: a byte from the address on the top on, the register, the `cfa`, or the function's entry
abbrev pub IsMissing : Snapshot → Op → List ℕ → Type 0
IsMissing snap (op.Deref width) (top ∷ stack) = (i : ℕ) × (i < width) × (item_at snap.mem (top + i) ≡ None)
IsMissing snap (op.RegPlus reg n) stack = register snap.regs reg ≡ None
IsMissing snap op.Cfa stack = snap.cfa ≡ None
IsMissing snap op.Entry stack = Unit {0}
IsMissing snap _ _ = ⊥

-- the operations come to one that names what is missing
pub record ComeToMissing (ptr : ℕ) (snap : Snapshot) (ops : List Op) : Type 0 where
  pub o : Op
  pub stack : List ℕ
  pub come : ComeTo ptr snap ops o stack
  pub missing : IsMissing snap o stack

-- An operation that finds its operands has no result exactly where what it names is missing, and an expression exactly
-- where it comes to such an operation.
pub record LackOnlyMissing : Type 0 where
  pub one : (ptr : ℕ) (snap : Snapshot) (o : Op) (stack : List ℕ) → needs o ≤ length stack → step ptr snap o stack ≡ None ↔ IsMissing snap o stack
  pub all : (ptr : ℕ) (snap : Snapshot) (ops : List Op) → AreOps ops → result_of ptr ops snap ≡ None ↔ ComeToMissing ptr snap ops
