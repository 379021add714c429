-- The last operation of a list.
use Rattle.std.proofs.Common.{◌≡◌, ◌∙◌, ap, suc, ◌-◌, Bool, false, List, [], ◌∷◌, length, Option, Some, None, refl, arith}
use Rattle.std.specs.List.{slice_get}
use Rattle.expr_eval.specs.declared.operation.Op.{Op}
use Rattle.expr_eval.specs.Results.{is_stack_value, ends_in_value}

abbrev says_value : Option Op → Bool
says_value None = false
says_value (Some o) = is_stack_value o

ends_by : (ops : List Op) → ends_in_value ops ≡ says_value (slice_get ops (length ops - 1))
ends_by [] = refl
ends_by (o ∷ []) = refl
ends_by (o ∷ next ∷ ops) =
    let place : suc (length (next ∷ ops) - 1) ≡ length (o ∷ next ∷ ops) - 1 = omega arith in
    ends_by (next ∷ ops) ∙ ap (λ i. says_value (slice_get (o ∷ next ∷ ops) i)) place

-- the last operation is the one at the last place
pub ends_at : (ops : List Op) (o : Op) → slice_get ops (length ops - 1) ≡ Some o → ends_in_value ops ≡ is_stack_value o
ends_at ops o e = ends_by ops ∙ ap says_value e
