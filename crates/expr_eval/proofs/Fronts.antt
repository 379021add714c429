-- What stands on the stack at each operation of an expression.
use Rattle.std.proofs.Common.{◌≡◌, ◌∙◌, ℕ, ◌+◌, ◌-◌, ◌≤◌, true, List, [], ◌∷◌, ◌++◌, length, Option, Some, None, option_and_then, nat_le, refl, sym, ap, subst, arith}
use Rattle.snapshot_file.specs.declared.snapshot.Snapshot.{Snapshot}
use Rattle.expr_eval.specs.declared.operation.Op.{Op}
use Rattle.expr_eval.specs.Results.{step, run}
use Rattle.expr_eval.specs.Invariant.{needs, gives, fits}
use Rattle.expr_eval.specs.Operands.{FindOperands}
use Rattle.expr_eval.proofs.Runs.{height, fits-step, and_left, and_right}

-- an operation that fits a height finds what it needs
pub enough : (o : Op) (ops : List Op) (n : ℕ) → fits n (o ∷ ops) ≡ true → needs o ≤ n
enough o ops n h =
    let e : nat_le (needs o) n ≡ true = and_left (nat_le (needs o) n) _ h in
    grind (arith, e)

-- and leaves at most 64 numbers
room : (ptr : ℕ) (snap : Snapshot) (o : Op) (ops : List Op) (s t : List ℕ) → step ptr snap o s ≡ Some t → fits (length s) (o ∷ ops) ≡ true → length t ≤ 64
room ptr snap o ops s t e h =
    let few : nat_le (length s - needs o + gives o) 64 ≡ true = and_left (nat_le (length s - needs o + gives o) 64) _ (and_right (nat_le (needs o) (length s)) _ h) in
    let high = height ptr snap o s t e (enough o ops (length s) h) in
    grind (arith, few, high)

-- after the first operation the rest of the front goes on
pub front_step : (ptr : ℕ) (snap : Snapshot) (front : List Op) (x : Option (List ℕ)) (s : List ℕ) (P : Type 0)
    → ((t : List ℕ) → x ≡ Some t → run ptr snap front t ≡ Some s → P) → option_and_then (run ptr snap front) x ≡ Some s → P
front_step ptr snap front (Some t) s P h e = h t refl e
front_step ptr snap front None s P h e = cc

-- at the operation after a front there is what it needs
operands : (ptr : ℕ) (snap : Snapshot) (front rest : List Op) (o : Op) (t s : List ℕ) → fits (length t) (front ++ o ∷ rest) ≡ true → length t ≤ 64 → run ptr snap front t ≡ Some s → (needs o ≤ length s) × (length s ≤ 64)
operands ptr snap [] rest o t s h few e =
    let same : t ≡ s = cc in
    subst (λ l. (needs o ≤ length l) × (length l ≤ 64)) same (enough o rest (length t) h, few)
operands ptr snap (a ∷ front) rest o t s h few e =
    front_step ptr snap front (step ptr snap a t) s ((needs o ≤ length s) × (length s ≤ 64))
    (λ next to go. operands ptr snap front rest o next s (fits-step ptr snap a (front ++ o ∷ rest) t next to h) (room ptr snap a (front ++ o ∷ rest) t next to h) go) e

pub find_operands : FindOperands
find_operands ptr ops snap o stack are to =
    operands ptr snap to.before to.after o [] stack (ap (fits 0) (sym to.parts) ∙ are.fit) (omega arith) to.left
