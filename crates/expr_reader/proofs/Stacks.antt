-- What operations do on the stack, one after the other.
use Rattle.std.proofs.Common.{◌≡◌, ◌<◌, ℕ, suc, ◌+◌, true, List, [], ◌∷◌, ◌++◌, length, map, take, drop, get_or, Option, Some, None, option_and_then, refl, sym, ap, ◌∙◌, add-one}
use Rattle.std.specs.Option.{option_map}
use Rattle.std.proofs.Math.Seq.{take-suc, drop-cons}
use Rattle.std.proofs.lemmas.List.{map-append, take-append-drop}
use Rattle.expr_eval.specs.declared.operation.Op.{Op}
use Rattle.expr_bytes.specs.Operations.{Oper, oper_of, on_stack, all_on_stack}
use Rattle.expr_bytes.specs.Says.{OnStack}
use Rattle.expr_bytes.specs.declared.operation.Operation.{Operation}
use Rattle.expr_reader.proofs.Begins.{stack_push}

-- one that does nothing on the stack leaves nothing
none_on_stack : (xs ys : List Oper) (y : Oper) → on_stack y ≡ None → all_on_stack (xs ++ y ∷ ys) ≡ None
none_on_stack [] ys y h = rw h refl
none_on_stack (x ∷ xs) ys y h = by_first (on_stack x) (none_on_stack xs ys y h)
  where
    by_first : (o : Option (List Op)) → all_on_stack (xs ++ y ∷ ys) ≡ None → option_and_then (λ first. option_map (λ more. first ++ more) (all_on_stack (xs ++ y ∷ ys))) o ≡ None
    by_first None q = refl
    by_first (Some first) q = rw q refl

-- where one does nothing on the stack, all leave nothing
pub stack_stops : (opers : List Operation) (i : ℕ) (d : Operation) → i < length opers → on_stack (oper_of (get_or opers i d)) ≡ None → all_on_stack (map oper_of opers) ≡ None
stack_stops opers i d l h =
    let whole : opers ≡ take i opers ++ get_or opers i d ∷ drop (suc i) opers = sym (take-append-drop i opers) ∙ ap (λ r. take i opers ++ r) (drop-cons opers i d l) in
    ap (λ os. all_on_stack (map oper_of os)) whole
    ∙ ap (λ os. all_on_stack os) (map-append oper_of (take i opers) (get_or opers i d ∷ drop (suc i) opers))
    ∙ none_on_stack (map oper_of (take i opers)) (map oper_of (drop (suc i) opers)) (oper_of (get_or opers i d)) h

-- one operation more
pub stack_more : (opers : List Operation) (i : ℕ) (d : Operation) (old new : List Op) → i < length opers → all_on_stack (map oper_of (take i opers)) ≡ Some old → OnStack old new (oper_of (get_or opers i d)) true
    → all_on_stack (map oper_of (take (i + 1) opers)) ≡ Some new
stack_more opers i d old new l h w =
    ap (λ n. all_on_stack (map oper_of (take n opers))) (add-one i)
    ∙ ap (λ os. all_on_stack (map oper_of os)) (take-suc opers i d l)
    ∙ ap (λ os. all_on_stack os) (map-append oper_of (take i opers) (get_or opers i d ∷ []))
    ∙ stack_push (map oper_of (take i opers)) old (oper_of (get_or opers i d)) w.0 h w.1.0
    ∙ ap (λ ops. Some ops) (sym w.1.1)
