-- Two operations are the same where their kinds and what they carry are.
use Rattle.std.proofs.Common.{◌≡◌, ℕ, ℤ, List, [], ◌∷◌, Option, Some, None, get_or, refl, ap, sym, ◌∙◌}
use Rattle.snapshot_file.specs.declared.registers.Reg.{Reg}
use Rattle.expr_eval.specs.declared.operation.Op.{Op}
use Rattle.expr_eval.specs.declared.operation.Op.TheVariants as ops
use Rattle.layout_func_laws.specs.OperationParts.{kind_of, number_in, sum_in}

sum_of : Option (Reg × ℤ) → Op
sum_of None = ops.Dup
sum_of (Some (reg, n)) = ops.RegPlus reg n

-- the operations that carry these, in the order of their kinds
all_with : ℕ → Option (Reg × ℤ) → List Op
all_with n sum = ops.Const n ∷ ops.Deref n ∷ ops.Dup ∷ ops.Drop ∷ ops.Over ∷ ops.Pick n ∷ ops.Swap ∷ ops.Rot ∷ ops.And ∷ ops.Minus ∷ ops.Mul ∷ ops.Neg ∷ ops.Not ∷ ops.Or ∷ ops.Plus ∷ ops.PlusConst n ∷ ops.Shl ∷ ops.Shr ∷ ops.Shra ∷ ops.Xor ∷ sum_of sum ∷ ops.Cfa ∷ ops.Entry ∷ ops.StackValue ∷ []

op_with : ℕ → ℕ → Option (Reg × ℤ) → Op
op_with kind n sum = get_or (all_with n sum) kind ops.Dup

comes_back : (op : Op) → op_with (kind_of op) (number_in op) (sum_in op) ≡ op
unfolding op_with all_with sum_of
comes_back (ops.Const n) = refl
comes_back (ops.Deref n) = refl
comes_back ops.Dup = refl
comes_back ops.Drop = refl
comes_back ops.Over = refl
comes_back (ops.Pick n) = refl
comes_back ops.Swap = refl
comes_back ops.Rot = refl
comes_back ops.And = refl
comes_back ops.Minus = refl
comes_back ops.Mul = refl
comes_back ops.Neg = refl
comes_back ops.Not = refl
comes_back ops.Or = refl
comes_back ops.Plus = refl
comes_back (ops.PlusConst n) = refl
comes_back ops.Shl = refl
comes_back ops.Shr = refl
comes_back ops.Shra = refl
comes_back ops.Xor = refl
comes_back (ops.RegPlus reg n) = refl
comes_back ops.Cfa = refl
comes_back ops.Entry = refl
comes_back ops.StackValue = refl

pub same_parts : (a b : Op) → kind_of a ≡ kind_of b → number_in a ≡ number_in b → sum_in a ≡ sum_in b → a ≡ b
same_parts a b kind n sum =
    sym (comes_back a) ∙ ap (λ k. op_with k (number_in a) (sum_in a)) kind ∙ ap (λ m. op_with (kind_of b) m (sum_in a)) n ∙ ap (op_with (kind_of b) (number_in b)) sum ∙ comes_back b
