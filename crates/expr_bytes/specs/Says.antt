-- What the parts of the reading of a place answer, for proofs.
use Rattle.std.specs.Prelude.{◌≡◌, true, false, Bool, List, ◌++◌, Option, Some, None}
use Rattle.expr_eval.specs.declared.operation.Op.{Op}
use Rattle.expr_bytes.specs.Operations.{Oper, on_stack}
use Rattle.expr_bytes.specs.declared.place.Simple.{Simple}

-- what an operation does on the stack was added, or it is a place only by itself
abbrev pub OnStack : List Op → List Op → Oper → Bool → Type 0
OnStack old new o true = (ops : List Op) × ((on_stack o ≡ Some ops) × (new ≡ old ++ ops))
OnStack old new o false = on_stack o ≡ None

-- the place that is so, or none is
abbrev pub AnswersPlace : (Simple → Type 0) → Option Simple → Type 0
AnswersPlace P (Some place) = P place
AnswersPlace P None = (place : Simple) → ¬ P place
