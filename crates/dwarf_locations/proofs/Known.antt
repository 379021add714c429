-- What operations say, and which they may begin, is decided.
use Rattle.std.proofs.Common.{◌≡◌, ◌<◌, ◌≤◌, ℕ, ℤ, pos, neg_ℤ, ◌^◌, ◌<ℤ◌, ◌≤ℤ◌, Bool, true, false, List, [], ◌∷◌, ◌++◌, length, Option, Some, None, inl, inr, ◌⊎◌, refl, sym, subst, ◌∙◌, arith, append-nil}
use Rattle.std.specs.Int.Signed.{<ℤ_irrefl, <ℤ-≤ℤ_trans}
use Rattle.std.proofs.lemmas.Bool.{cases_eq, cases_lt}
use Rattle.std.proofs.lemmas.Int.{by_lt_z}
use Rattle.snapshot_file.specs.declared.registers.Reg.TheVariants as regs
use Rattle.expr_eval.specs.Invariant.{AreOps, each_sound, fits, height_after, value_is_last}
use Rattle.expr_eval.specs.declared.operation.Op.{Op}
use Rattle.expr_eval.specs.declared.operation.Op.TheVariants as op
use Rattle.expr_bytes.specs.Codes as code
use Rattle.expr_bytes.specs.Operations.{Oper, all_on_stack}
use Rattle.expr_bytes.specs.Places.{ArePermitted, BeginPermitted, IsShort}
use Rattle.expr_bytes.specs.Runs.{Ends, IsUnframed}
use Rattle.expr_bytes.specs.declared.place.Simple.{Simple}
use Rattle.expr_reader.specs.Beginnings.{AreExpression, AreExpressionBeforeNumber, AreOnePlace, IsOneAlone, IsSomePlace}
use Rattle.expr_reader.proofs.Begins.{before_begins, begins_are, expression_begins, expression_says, neither_says}

-- it holds, or it doesn't
abbrev pub Known : Type 0 → Type 0
Known P = P ⊎ ¬ P

same_known : {P Q : Type 0} → (P → Q) → (Q → P) → Known P → Known Q
same_known f g (inl p) = inl (f p)
same_known f g (inr n) = inr (λ q. n (g q))

both_known : {P Q : Type 0} → Known P → Known Q → Known (P × Q)
both_known (inl p) (inl q) = inl (p, q)
both_known (inl p) (inr n) = inr (λ h. n h.1)
both_known (inr n) k = inr (λ h. n h.0)

true_known : (b : Bool) → Known (b ≡ true)
true_known true = inl refl
true_known false = inr (λ e. cc)

le_known : (m n : ℕ) → Known (m ≤ n)
le_known m n = elim (cases_lt n m) [ inl h ↦ inr (λ g. omega (arith, h, g)) | inr g ↦ inl g ]

lt_known : (m n : ℕ) → Known (m < n)
lt_known m n = elim (cases_lt m n) [ inl h ↦ inl h | inr g ↦ inr (λ h. omega (arith, h, g)) ]

z_lt_known : (a b : ℤ) → Known (a <ℤ b)
z_lt_known a b = by_lt_z a b (λ h. inl h) (λ g. inr (λ h. <ℤ_irrefl (<ℤ-≤ℤ_trans h g)))

z_le_known : (a b : ℤ) → Known (a ≤ℤ b)
z_le_known a b = by_lt_z b a (λ h. inr (λ g. <ℤ_irrefl (<ℤ-≤ℤ_trans h g))) (λ g. inl g)

short_known : (z : ℤ) → Known (IsShort z)
short_known z = both_known (z_le_known (neg_ℤ (pos (2 ^ 31))) z) (z_lt_known z (pos (2 ^ 31)))

-- one operation by itself
some_known : (o : Oper) → Known (IsSomePlace o)
some_known (Oper.Machine o) = inr (λ h. h.1)
some_known (Oper.Address a) = inl (Simple.Fixed a, refl)
some_known (Oper.Register reg) = inl (Simple.Reg reg, refl)
some_known (Oper.Based reg z) = same_known (λ h. (Simple.Mem reg z, (h, refl))) (λ h. h.1.0) (short_known z)
some_known (Oper.CfaBased z) = inr (λ h. h.1)
some_known (Oper.Unframed z) = same_known (λ h. (Simple.Mem regs.Rbp z, (h, refl))) (λ h. h.1.0) (short_known z)
some_known (Oper.Value b) = inl (Simple.Value b, refl)

one_known : (opers : List Oper) → Known (AreOnePlace opers)
one_known [] = inr (λ h. let e = h.1.0 in cc)
one_known (o ∷ []) = same_known (λ h. (o, (refl, h))) (λ h. (let e : o ≡ h.0 = first_same o h.0 [] [] h.1.0 in subst IsSomePlace (sym e) h.1.1)) (some_known o)
  where
    first_same : (x y : Oper) (xs ys : List Oper) → x ∷ xs ≡ y ∷ ys → x ≡ y
    first_same x y xs ys e = cc
one_known (o ∷ p ∷ opers) = inr (λ h. let e = h.1.0 in cc)

-- an expression
ops_known : (ops : List Op) → Known (AreOps ops)
ops_known ops = same_known (λ h. record { some = h.0; few = h.1.0; sound = h.1.1.0; last = h.1.1.1.0; fit = h.1.1.1.1.0; value = h.1.1.1.1.1 })
    (λ h. (h.some, (h.few, (h.sound, (h.last, (h.fit, h.value))))))
    (both_known (lt_known 0 (length ops)) (both_known (le_known (length ops) 64) (both_known (true_known (each_sound ops)) (both_known (true_known (value_is_last ops)) (both_known (true_known (fits 0 ops)) (lt_known 0 (height_after 0 ops)))))))

stack_known : (opers : List Oper) (P : List Op → Type 0) → ((ops : List Op) → Known (P ops)) → Known ((ops : List Op) × ((all_on_stack opers ≡ Some ops) × P ops))
stack_known opers P k = by_stack (all_on_stack opers) refl
  where
    one : (a b : List Op) → Some a ≡ Some b → a ≡ b
    one a b e = cc

    nothing : (a : List Op) → None ≡ Some a → ⊥
    nothing a e = cc

    by_stack : (s : Option (List Op)) → all_on_stack opers ≡ s → Known ((ops : List Op) × ((all_on_stack opers ≡ Some ops) × P ops))
    by_stack None e = inr (λ h. nothing h.0 (sym e ∙ h.1.0))
    by_stack (Some ops) e = same_known (λ p. (ops, (e, p))) (λ h. subst P (sym (one ops h.0 (sym e ∙ h.1.0))) h.1.1) (k ops)

expression_known : (opers : List Oper) → Known (AreExpression opers)
expression_known opers = stack_known opers AreOps ops_known

number_known : (opers : List Oper) → Known (AreExpressionBeforeNumber opers)
number_known opers = stack_known opers (λ ops. AreOps (ops ++ op.Const 0 ∷ [])) (λ ops. ops_known (ops ++ op.Const 0 ∷ []))

-- what operations say
not_alone : (opers : List Oper) → ¬ AreOnePlace opers → (place : Simple) → ¬ IsOneAlone opers place
not_alone opers n place h = n (h.0, (h.1.0, (place, h.1.1)))

pub says_known : (opers : List Oper) → Known (ArePermitted opers)
says_known opers = elim (one_known opers) [
  | inl h ↦ inl (h.1.1.0, inl (h.0, (h.1.0, h.1.1.1)))
  | inr n ↦ elim (expression_known opers) [
    | inl h ↦ inl (Simple.Ops h.0, expression_says opers h.0 (not_alone opers n) h.1)
    | inr m ↦ inr (λ h. neither_says opers (not_alone opers n) (λ ops x. m (ops, x)) h.0 h.1)
  ]
]

-- which they may begin
one_begins : (opers : List Oper) → AreOnePlace opers → BeginPermitted opers
one_begins opers h = ([], (h.1.1.0, inl (h.0, (append-nil opers ∙ h.1.0, h.1.1.1))))

pub begin_known : (opers : List Oper) → Known (BeginPermitted opers)
begin_known opers = elim (one_known opers) [
  | inl h ↦ inl (one_begins opers h)
  | inr n ↦ elim (expression_known opers) [
    | inl h ↦ inl (expression_begins opers n h)
    | inr m ↦ elim (number_known opers) [
      | inl h ↦ inl (before_begins opers h)
      | inr k ↦ inr (λ b. elim (begins_are opers b) [ inl h ↦ n h | inr s ↦ elim s [ inl h ↦ m h | inr h ↦ k h ] ])
    ]
  ]
]

pub unframed_known : (o : Oper) → Known (IsUnframed o)
unframed_known (Oper.Machine o) = inr (λ h. h)
unframed_known (Oper.Address a) = inr (λ h. h)
unframed_known (Oper.Register reg) = inr (λ h. h)
unframed_known (Oper.Based reg z) = inr (λ h. h)
unframed_known (Oper.CfaBased z) = inr (λ h. h)
unframed_known (Oper.Unframed z) = inl tt
unframed_known (Oper.Value b) = inr (λ h. h)

-- whether a place ends here
pub ends_known : (s : List ℕ) → Known (Ends s)
ends_known [] = inl tt
ends_known (b ∷ s) = cases_eq b code.piece
