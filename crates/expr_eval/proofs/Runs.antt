-- Operations one by one: the last, the next, and the height of the stack.
use Rattle.std.proofs.Common.{◌≡◌, ℕ, ◌+◌, ◌-◌, ◌≤◌, Bool, true, false, List, [], ◌∷◌, ◌++◌, length, Option, Some, None, option_and_then, ◌&&◌, nat_le, refl, sym, ap, subst, ◌∙◌, append-nil, append_assoc, arith}
use Rattle.std.specs.Option.{option_map}
use Rattle.std.specs.List.{slice_get}
use Rattle.snapshot_file.specs.declared.snapshot.Snapshot.{Snapshot}
use Rattle.snapshot_file.specs.Memory.{items_at, number}
use Rattle.expr_eval.specs.declared.operation.Op.{Op}
use Rattle.expr_eval.specs.declared.operation.Op.TheVariants as op
use Rattle.expr_eval.specs.Results.{wrapped, onto, register_plus, step, run, meaning, IsByLast, LastDetermines}
use Rattle.expr_eval.specs.Invariant.{needs, gives, fits, height_after}

and_some : {A : Type 0} (x : Option A) → option_and_then (λ a. Some a) x ≡ x
and_some (Some a) = refl
and_some None = refl

last_step : (ptr : ℕ) (snap : Snapshot) (ops : List Op) (o : Op) (x : Option (List ℕ)) → ((s : List ℕ) → run ptr snap (ops ++ o ∷ []) s ≡ option_and_then (step ptr snap o) (run ptr snap ops s))
    → option_and_then (run ptr snap (ops ++ o ∷ [])) x ≡ option_and_then (step ptr snap o) (option_and_then (run ptr snap ops) x)
last_step ptr snap ops o (Some t) h = h t
last_step ptr snap ops o None h = refl

run-last : (ptr : ℕ) (snap : Snapshot) (ops : List Op) (o : Op) (s : List ℕ) → run ptr snap (ops ++ o ∷ []) s ≡ option_and_then (step ptr snap o) (run ptr snap ops s)
run-last ptr snap [] o s = and_some (step ptr snap o s)
run-last ptr snap (a ∷ ops) o s = last_step ptr snap ops o (step ptr snap a s) (run-last ptr snap ops o)

-- all but the last, then the last
by_last : (ptr : ℕ) → IsByLast ptr (meaning ptr)
by_last ptr = record { none = λ snap. refl; last = λ snap ops o. run-last ptr snap ops o [] }

-- one more operation of a list, and then the rest
and_then_run : (ptr : ℕ) (snap : Snapshot) (o : Op) (ops : List Op) (x : Option (List ℕ))
    → option_and_then (run ptr snap ops) (option_and_then (step ptr snap o) x) ≡ option_and_then (run ptr snap (o ∷ ops)) x
and_then_run ptr snap o ops (Some t) = refl
and_then_run ptr snap o ops None = refl

-- what is so by the last operation is, of a list and more operations, what they make of the list's
split_by : (ptr : ℕ) (m : Snapshot → List Op → Option (List ℕ)) → IsByLast ptr m → (snap : Snapshot) (first rest : List Op) → m snap (first ++ rest) ≡ option_and_then (run ptr snap rest) (m snap first)
split_by ptr m is snap first [] = ap (m snap) (append-nil first) ∙ sym (and_some (m snap first))
split_by ptr m is snap first (o ∷ rest) =
    ap (m snap) (sym (append_assoc first (o ∷ []) rest))
    ∙ split_by ptr m is snap (first ++ o ∷ []) rest
    ∙ ap (option_and_then (run ptr snap rest)) (is.last snap first o)
    ∙ and_then_run ptr snap o rest (m snap first)

pub last_determines : (ptr : ℕ) → LastDetermines ptr
last_determines ptr = record {
  meets = by_last ptr;
  only = λ m is snap ops. split_by ptr m is snap [] ops ∙ ap (option_and_then (run ptr snap ops)) (is.none snap);
}

-- what is left after one operation
pub run-step : (ptr : ℕ) (snap : Snapshot) (o : Op) (ops : List Op) (s t : List ℕ) → step ptr snap o s ≡ Some t → run ptr snap ops t ≡ run ptr snap (o ∷ ops) s
run-step ptr snap o ops s t e = ap (option_and_then (run ptr snap ops)) (sym e)

onto_height : (found : Option ℕ) (s t : List ℕ) → onto s found ≡ Some t → length t ≡ length s + 1
onto_height (Some n) s t e = let same : n ∷ s ≡ t = cc in omega (arith, ap length same)
onto_height None s t e = cc

same_height : (n : ℕ) (s t : List ℕ) → Some s ≡ Some t → length s ≡ n → length t ≡ n
same_height n s t e h = let same : s ≡ t = cc in omega (arith, ap length same)

-- the height after one operation that lacks no operand
pub height : (ptr : ℕ) (snap : Snapshot) (o : Op) (s t : List ℕ) → step ptr snap o s ≡ Some t → needs o ≤ length s → length t ≡ length s - needs o + gives o
height ptr snap (op.Const n) s t e h = same_height _ _ t e (omega arith)
height ptr snap (op.Deref width) (top ∷ s) t e h = omega (arith, onto_height (option_map (wrapped ptr) (number (items_at snap.mem top width))) s t e)
height ptr snap op.Dup (top ∷ s) t e h = same_height _ _ t e (omega arith)
height ptr snap op.Drop (top ∷ s) t e h = same_height _ _ t e (omega arith)
height ptr snap op.Over (top ∷ second ∷ s) t e h = same_height _ _ t e (omega arith)
height ptr snap (op.Pick depth) s t e h = omega (arith, onto_height (slice_get s depth) s t e)
height ptr snap op.Swap (top ∷ second ∷ s) t e h = same_height _ _ t e (omega arith)
height ptr snap op.Rot (top ∷ second ∷ third ∷ s) t e h = same_height _ _ t e (omega arith)
height ptr snap op.And (top ∷ second ∷ s) t e h = same_height _ _ t e (omega arith)
height ptr snap op.Minus (top ∷ second ∷ s) t e h = same_height _ _ t e (omega arith)
height ptr snap op.Mul (top ∷ second ∷ s) t e h = same_height _ _ t e (omega arith)
height ptr snap op.Neg (top ∷ s) t e h = same_height _ _ t e (omega arith)
height ptr snap op.Not (top ∷ s) t e h = same_height _ _ t e (omega arith)
height ptr snap op.Or (top ∷ second ∷ s) t e h = same_height _ _ t e (omega arith)
height ptr snap op.Plus (top ∷ second ∷ s) t e h = same_height _ _ t e (omega arith)
height ptr snap (op.PlusConst n) (top ∷ s) t e h = same_height _ _ t e (omega arith)
height ptr snap op.Shl (top ∷ second ∷ s) t e h = same_height _ _ t e (omega arith)
height ptr snap op.Shr (top ∷ second ∷ s) t e h = same_height _ _ t e (omega arith)
height ptr snap op.Shra (top ∷ second ∷ s) t e h = same_height _ _ t e (omega arith)
height ptr snap op.Xor (top ∷ second ∷ s) t e h = same_height _ _ t e (omega arith)
height ptr snap (op.RegPlus reg n) s t e h = omega (arith, onto_height (register_plus ptr snap.regs reg n) s t e)
height ptr snap op.Cfa s t e h = omega (arith, onto_height (option_map (wrapped ptr) snap.cfa) s t e)
height ptr snap op.Entry s t e h = cc
height ptr snap op.StackValue s t e h = same_height _ _ t e (omega arith)
height ptr snap _ _ t e h = cc

pub and_right : (a b : Bool) → (a && b) ≡ true → b ≡ true
and_right true b e = e
and_right false b e = cc

pub and_left : (a b : Bool) → (a && b) ≡ true → a ≡ true
and_left true b e = refl
and_left false b e = cc

-- what is left fits the stack after one operation
pub fits-step : (ptr : ℕ) (snap : Snapshot) (o : Op) (ops : List Op) (s t : List ℕ) → step ptr snap o s ≡ Some t → fits (length s) (o ∷ ops) ≡ true → fits (length t) ops ≡ true
fits-step ptr snap o ops s t e h =
    let enough : nat_le (needs o) (length s) ≡ true = and_left (nat_le (needs o) (length s)) _ h in
    let after = and_right (nat_le (length s - needs o + gives o) 64) _ (and_right (nat_le (needs o) (length s)) _ h) in
    subst (λ n. fits n ops ≡ true) (sym (height ptr snap o s t e (grind (arith, enough)))) after

-- what is left ends at the same height
pub value-step : (ptr : ℕ) (snap : Snapshot) (o : Op) (ops : List Op) (s t : List ℕ) → step ptr snap o s ≡ Some t → fits (length s) (o ∷ ops) ≡ true → height_after (length t) ops ≡ height_after (length s) (o ∷ ops)
value-step ptr snap o ops s t e h =
    let enough : nat_le (needs o) (length s) ≡ true = and_left (nat_le (needs o) (length s)) _ h in
    ap (λ n. height_after n ops) (height ptr snap o s t e (grind (arith, enough)))
