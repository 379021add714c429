-- Which operations say a place, and which are the beginning of some that do, in parts, for proofs.
use Rattle.std.specs.Prelude.{◌≡◌, List, [], ◌∷◌, ◌++◌, Option, Some, None}
use Rattle.expr_eval.specs.Invariant.{AreOps}
use Rattle.expr_eval.specs.declared.operation.Op.{Op}
use Rattle.expr_eval.specs.declared.operation.Op.TheVariants as op
use Rattle.expr_bytes.specs.Operations.{Oper, all_on_stack}
use Rattle.expr_bytes.specs.Places.{IsAlone}
use Rattle.expr_bytes.specs.declared.place.Simple.{Simple}

-- an operation is some place by itself
abbrev pub IsSomePlace : Oper → Type 0
IsSomePlace o = (place : Simple) × IsAlone o place

-- the operations are one, which by itself is this place
abbrev pub IsOneAlone : List Oper → Simple → Type 0
IsOneAlone opers place = (o : Oper) × ((opers ≡ o ∷ []) × IsAlone o place)

-- the operations are one that is some place by itself
abbrev pub AreOnePlace : List Oper → Type 0
AreOnePlace opers = (o : Oper) × ((opers ≡ o ∷ []) × IsSomePlace o)

-- the operations are this expression
abbrev pub IsExpression : List Oper → List Op → Type 0
IsExpression opers ops = (all_on_stack opers ≡ Some ops) × AreOps ops

-- the operations are an expression
abbrev pub AreExpression : List Oper → Type 0
AreExpression opers = (ops : List Op) × IsExpression opers ops

-- the operations and a number after them are an expression
abbrev pub AreExpressionBeforeNumber : List Oper → Type 0
AreExpressionBeforeNumber opers = (ops : List Op) × ((all_on_stack opers ≡ Some ops) × AreOps (ops ++ op.Const 0 ∷ []))

-- the expression that the operations are, or they are none
abbrev pub AnswersExpression : List Oper → Option (List Op) → Type 0
AnswersExpression opers (Some ops) = IsExpression opers ops
AnswersExpression opers None = (ops : List Op) → ¬ IsExpression opers ops
