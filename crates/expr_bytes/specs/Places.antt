-- What the operations of one place say, and in which order they may stand: DWARF 5, 2.6.1.
use Rattle.std.specs.Prelude.{◌≡◌, ℤ, pos, ◌^◌, neg_ℤ, ◌≤ℤ◌, ◌<ℤ◌, List, [], ◌∷◌, ◌++◌, Some, ◌⊎◌}
use Rattle.snapshot_file.specs.declared.registers.Reg.TheVariants as regs
use Rattle.expr_eval.specs.Invariant.{AreOps}
use Rattle.expr_eval.specs.declared.operation.Op.{Op}
use Rattle.expr_bytes.specs.Operations.{Oper, all_on_stack}
use Rattle.expr_bytes.specs.declared.place.Simple.{Simple}

-- the number is one of 32 bits with a sign
abbrev pub IsShort : ℤ → Type 0
IsShort z = (neg_ℤ (pos (2 ^ 31)) ≤ℤ z) × (z <ℤ pos (2 ^ 31))

-- one operation by itself is this place, which is no expression
abbrev pub IsAlone : Oper → Simple → Type 0
IsAlone (Oper.Address a) place = place ≡ Simple.Fixed a
IsAlone (Oper.Register reg) place = place ≡ Simple.Reg reg
IsAlone (Oper.Value b) place = place ≡ Simple.Value b
IsAlone (Oper.Based reg z) place = IsShort z × (place ≡ Simple.Mem reg z)
IsAlone (Oper.Unframed z) place = IsShort z × (place ≡ Simple.Mem regs.Rbp z)
IsAlone _ place = ⊥

-- the operations are an expression, of which none is a place by itself
pub record AreExpression (opers : List Oper) (place : Simple) : Type 0 where
  pub ops : List Op
  pub on_stack : all_on_stack opers ≡ Some ops
  pub fit : AreOps ops
  pub is : place ≡ Simple.Ops ops
  pub not_alone : (o : Oper) → opers ≡ o ∷ [] → (other : Simple) → ¬ IsAlone o other

-- the operations say this place: one by itself, or an expression
abbrev pub SayPlace : List Oper → Simple → Type 0
SayPlace opers place = ((o : Oper) × ((opers ≡ o ∷ []) × IsAlone o place)) ⊎ AreExpression opers place

-- the operations say some place
abbrev pub ArePermitted : List Oper → Type 0
ArePermitted opers = (place : Simple) × SayPlace opers place

-- the operations are the beginning of some that say a place
abbrev pub BeginPermitted : List Oper → Type 0
BeginPermitted opers = (more : List Oper) × ArePermitted (opers ++ more)
