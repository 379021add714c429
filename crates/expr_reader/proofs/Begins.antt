-- Which operations those of a place can begin with.
use Rattle.std.proofs.Common.{◌≡◌, ◌<◌, ◌≤◌, ℕ, zero, suc, ℤ, ◌+◌, ◌-◌, ◌&&◌, not, nat_le, Bool, true, false, List, [], ◌∷◌, ◌++◌, length, Option, Some, None, Result, Ok, Err, IfOk, option_and_then, inl, inr, ◌⊎◌, refl, sym, ap, subst, ◌∙◌, arith, append-nil, append_assoc, length-append}
use Rattle.std.specs.Bool.{Decides}
use Rattle.std.specs.Option.{option_map}
use Rattle.std.proofs.lemmas.Bool.{le-leb}
use Rattle.expr_eval.specs.declared.operation.Op.{Op}
use Rattle.expr_eval.specs.declared.operation.Op.TheVariants as op
use Rattle.snapshot_file.specs.declared.registers.Reg.{Reg}
use Rattle.snapshot_file.specs.declared.registers.Reg.TheVariants as regs
use Rattle.expr_eval.specs.Results.{is_stack_value}
use Rattle.expr_eval.specs.Invariant.{needs, is_sound, each_sound, value_is_last, height_by, fits, height_after, AreOps}
use Rattle.expr_eval.proofs.Runs.{and_left, and_right}
use Rattle.expr_bytes.specs.Operations.{Oper, on_stack, all_on_stack}
use Rattle.expr_bytes.specs.Places.{IsAlone, SayPlace, ArePermitted, BeginPermitted}
use Rattle.expr_bytes.specs.Runs.{IsUnframed}
use Rattle.expr_bytes.specs.declared.place.Simple.{Simple}
use Rattle.expr_reader.specs.Beginnings.{IsOneAlone, AreOnePlace, IsExpression, AreExpression, AreExpressionBeforeNumber}

-- both of two tests hold
both : (a b : Bool) → a ≡ true → b ≡ true → (a && b) ≡ true
both true b h g = g
both false b h g = h

-- what some operations do on the stack, and what others do after them
pub stack_split : (xs ys : List Oper) (zs : List Op) → all_on_stack (xs ++ ys) ≡ Some zs → (a : List Op) × ((b : List Op) × ((all_on_stack xs ≡ Some a) × (zs ≡ a ++ b)))
stack_split [] ys zs h = ([], (zs, (refl, refl)))
stack_split (x ∷ xs) ys zs h = by_first (λ more q. stack_split xs ys more q) (on_stack x) refl (all_on_stack (xs ++ ys)) refl h
  where
    by_first : ((more : List Op) → all_on_stack (xs ++ ys) ≡ Some more → (a : List Op) × ((b : List Op) × ((all_on_stack xs ≡ Some a) × (more ≡ a ++ b)))) → (o : Option (List Op)) → on_stack x ≡ o
        → (r : Option (List Op)) → all_on_stack (xs ++ ys) ≡ r → option_and_then (λ first. option_map (λ more. first ++ more) r) o ≡ Some zs
        → (a : List Op) × ((b : List Op) × ((all_on_stack (x ∷ xs) ≡ Some a) × (zs ≡ a ++ b)))
    by_first later None e r q h = cc
    by_first later (Some first) e None q h = cc
    by_first later (Some first) e (Some more) q h =
        let w = later more q in
        let z : first ++ more ≡ zs = cc in
        (first ++ w.0, (w.1.0, (rw (e, w.1.1.0) refl, sym z ∙ ap (λ l. first ++ l) w.1.1.1 ∙ sym (append_assoc first w.0 w.1.0))))

-- what one more does
pub stack_push : (xs : List Oper) (a : List Op) (y : Oper) (b : List Op) → all_on_stack xs ≡ Some a → on_stack y ≡ Some b → all_on_stack (xs ++ y ∷ []) ≡ Some (a ++ b)
stack_push [] a y b h g = let e : [] ≡ a = cc in rw (g, ← e) (ap (λ l. Some l) (append-nil b))
stack_push (x ∷ xs) a y b h g = by_first (λ more q. stack_push xs more y b q g) (on_stack x) refl (all_on_stack xs) refl h
  where
    by_first : ((more : List Op) → all_on_stack xs ≡ Some more → all_on_stack (xs ++ y ∷ []) ≡ Some (more ++ b)) → (o : Option (List Op)) → on_stack x ≡ o → (r : Option (List Op)) → all_on_stack xs ≡ r
        → option_and_then (λ first. option_map (λ more. first ++ more) r) o ≡ Some a → all_on_stack (x ∷ (xs ++ y ∷ [])) ≡ Some (a ++ b)
    by_first later None e r q h = cc
    by_first later (Some first) e None q h = cc
    by_first later (Some first) e (Some more) q h =
        let z : first ++ more ≡ a = cc in
        rw (e, later more q) (ap (λ l. Some l) (sym (append_assoc first more b) ∙ ap (λ l. l ++ b) z))

-- A beginning of sound operations is sound, and with a number after it too.
sound_front : (a b : List Op) → each_sound (a ++ b) ≡ true → each_sound a ≡ true
sound_front [] b h = refl
sound_front (x ∷ a) b h = both (is_sound x) (each_sound a) (and_left (is_sound x) (each_sound (a ++ b)) h) (sound_front a b (and_right (is_sound x) (each_sound (a ++ b)) h))

sound_number : (a : List Op) (n : ℕ) → each_sound a ≡ true → each_sound (a ++ op.Const n ∷ []) ≡ true
sound_number [] n h = refl
sound_number (x ∷ a) n h = both (is_sound x) (each_sound (a ++ op.Const n ∷ [])) (and_left (is_sound x) (each_sound a) h) (sound_number a n (and_right (is_sound x) (each_sound a) h))

-- no operation before others is the value
last_number : (a : List Op) (c d : Op) (b : List Op) → value_is_last (a ++ c ∷ b) ≡ true → value_is_last (a ++ d ∷ []) ≡ true
last_number [] c d b h = refl
last_number (x ∷ []) c d b h = both (not (is_stack_value x)) true (and_left (not (is_stack_value x)) (value_is_last (c ∷ b)) h) refl
last_number (x ∷ y ∷ a) c d b h =
    both (not (is_stack_value x)) (value_is_last (y ∷ (a ++ d ∷ []))) (and_left (not (is_stack_value x)) (value_is_last (y ∷ (a ++ c ∷ b))) h) (last_number (y ∷ a) c d b (and_right (not (is_stack_value x)) (value_is_last (y ∷ (a ++ c ∷ b))) h))

last_front : (a b : List Op) → value_is_last (a ++ b) ≡ true → value_is_last a ≡ true
last_front [] b h = refl
last_front (x ∷ []) b h = refl
last_front (x ∷ y ∷ a) b h =
    both (not (is_stack_value x)) (value_is_last (y ∷ a)) (and_left (not (is_stack_value x)) (value_is_last (y ∷ (a ++ b))) h) (last_front (y ∷ a) b (and_right (not (is_stack_value x)) (value_is_last (y ∷ (a ++ b))) h))

-- a beginning fits
fits_front : (h : ℕ) (a b : List Op) → fits h (a ++ b) ≡ true → fits h a ≡ true
fits_front h [] b e = refl
fits_front h (x ∷ a) b e =
    let r = and_right (nat_le (needs x) h) (nat_le (height_by h x) 64 && fits (height_by h x) (a ++ b)) e in
    both (nat_le (needs x) h) (nat_le (height_by h x) 64 && fits (height_by h x) a) (and_left (nat_le (needs x) h) (nat_le (height_by h x) 64 && fits (height_by h x) (a ++ b)) e)
    (both (nat_le (height_by h x) 64) (fits (height_by h x) a) (and_left (nat_le (height_by h x) 64) (fits (height_by h x) (a ++ b)) r) (fits_front (height_by h x) a b (and_right (nat_le (height_by h x) 64) (fits (height_by h x) (a ++ b)) r)))

-- below 64 a number more fits
fits_number : (h : ℕ) (a : List Op) (n : ℕ) → fits h a ≡ true → height_after h a < 64 → fits h (a ++ op.Const n ∷ []) ≡ true
fits_number h [] n e l = both (nat_le 0 h) (nat_le (height_by h (op.Const n)) 64 && true) (le-leb 0 h (omega arith)) (both (nat_le (height_by h (op.Const n)) 64) true (le-leb (height_by h (op.Const n)) 64 (omega arith)) refl)
fits_number h (x ∷ a) n e l =
    let r = and_right (nat_le (needs x) h) (nat_le (height_by h x) 64 && fits (height_by h x) a) e in
    both (nat_le (needs x) h) (nat_le (height_by h x) 64 && fits (height_by h x) (a ++ op.Const n ∷ [])) (and_left (nat_le (needs x) h) (nat_le (height_by h x) 64 && fits (height_by h x) a) e)
    (both (nat_le (height_by h x) 64) (fits (height_by h x) (a ++ op.Const n ∷ [])) (and_left (nat_le (height_by h x) 64) (fits (height_by h x) a) r) (fits_number (height_by h x) a n (and_right (nat_le (height_by h x) 64) (fits (height_by h x) a) r) l))

-- then a number is there
height_number : (h : ℕ) (a : List Op) (n : ℕ) → 0 < height_after h (a ++ op.Const n ∷ [])
height_number h [] n = omega arith
height_number h (x ∷ a) n = height_number (height_by h x) a n

-- so is the sum of a register and a number
height_sum : (h : ℕ) (a : List Op) (reg : Reg) (z : ℤ) → 0 < height_after h (a ++ op.RegPlus reg z ∷ [])
height_sum h [] reg z = omega arith
height_sum h (x ∷ a) reg z = height_sum (height_by h x) a reg z

-- where a number is left there were operations
nonempty : (a : List Op) → 0 < height_after 0 a → 0 < length a
nonempty [] l = l
nonempty (x ∷ a) l = omega arith

-- the beginning of an expression is one where a number is left
front_is : (a b : List Op) → AreOps (a ++ b) → 0 < height_after 0 a → AreOps a
front_is a b f l = record {
  some = nonempty a l;
  few = let k : length (a ++ b) ≤ 64 = f.few in omega (arith, length-append a b);
  sound = sound_front a b f.sound;
  last = last_front a b f.last;
  fit = fits_front 0 a b f.fit;
  value = l;
}

-- with a number after it, it is one where none is left
front_before : (a : List Op) (c : Op) (b : List Op) → AreOps (a ++ c ∷ b) → height_after 0 a ≡ 0 → AreOps (a ++ op.Const 0 ∷ [])
front_before a c b f e = record {
  some = omega (arith, length-append a (op.Const 0 ∷ []));
  few = let k : length (a ++ c ∷ b) ≤ 64 = f.few in omega (arith, length-append a (c ∷ b), length-append a (op.Const 0 ∷ []));
  sound = sound_number a 0 (sound_front a (c ∷ b) f.sound);
  last = last_number a c (op.Const 0) b f.last;
  fit = fits_number 0 a 0 (fits_front 0 a (c ∷ b) f.fit) (omega (arith, e));
  value = height_number 0 a 0;
}

-- the operations that others follow in an expression are one, or are one with a number after them
front_goes_on : (a : List Op) (c : Op) (b : List Op) → AreOps (a ++ c ∷ b) → AreOps a ⊎ AreOps (a ++ op.Const 0 ∷ [])
front_goes_on a c b f = by_height (height_after 0 a) refl
  where
    by_height : (h : ℕ) → height_after 0 a ≡ h → AreOps a ⊎ AreOps (a ++ op.Const 0 ∷ [])
    by_height zero e = inr (front_before a c b f e)
    by_height (suc h) e = inl (front_is a (c ∷ b) f (omega (arith, e)))

-- an expression is the beginning of itself
pub expression_begins : (opers : List Oper) → ¬ AreOnePlace opers → AreExpression opers → BeginPermitted opers
expression_begins opers n w =
    ([], (Simple.Ops w.0, inr (record { ops = w.0; on_stack = ap all_on_stack (append-nil opers) ∙ w.1.0; fit = w.1.1; is = refl; not_alone = λ o e other h. n (o, (sym (append-nil opers) ∙ e, (other, h))) })))

-- no operations before a number are a place by themselves
not_one : (opers : List Oper) (o : Oper) → opers ++ Oper.Machine (op.Const 0) ∷ [] ≡ o ∷ [] → (other : Simple) → ¬ IsAlone o other
not_one [] o e other h = let q : Oper.Machine (op.Const 0) ≡ o = cc in subst (λ x. IsAlone x other) (sym q) h
not_one (x ∷ []) o e other h = cc
not_one (x ∷ y ∷ opers) o e other h = cc

-- those that a number makes an expression are the beginning of it
pub before_begins : (opers : List Oper) → AreExpressionBeforeNumber opers → BeginPermitted opers
before_begins opers w = (
  Oper.Machine (op.Const 0) ∷ [],
  (
    Simple.Ops (w.0 ++ op.Const 0 ∷ []),
    inr (record {
      ops = w.0 ++ op.Const 0 ∷ [];
      on_stack = stack_push opers w.0 (Oper.Machine (op.Const 0)) (op.Const 0 ∷ []) w.1.0 refl;
      fit = w.1.1;
      is = refl;
      not_alone = not_one opers;
    }),
  ),
)

-- a number by itself is an expression
number_is : AreOps (op.Const 0 ∷ [])
number_is = record { some = omega arith; few = omega arith; sound = refl; last = refl; fit = refl; value = omega arith }

-- the beginning of one operation
begins_one : (opers more : List Oper) (o : Oper) (place : Simple) → opers ++ more ≡ o ∷ [] → IsAlone o place → AreOnePlace opers ⊎ (AreExpression opers ⊎ AreExpressionBeforeNumber opers)
begins_one [] more o place e h = inr (inr ([], (refl, number_is)))
begins_one (x ∷ []) more o place e h = let q : x ≡ o = cc in inl (x, (refl, (place, subst (λ y. IsAlone y place) (sym q) h)))
begins_one (x ∷ y ∷ opers) more o place e h = cc

-- the beginning of an expression
begins_expression : (opers : List Oper) (a b ops : List Op) → all_on_stack opers ≡ Some a → ops ≡ a ++ b → AreOps ops → AreExpression opers ⊎ AreExpressionBeforeNumber opers
begins_expression opers a [] ops h e f = inl (a, (h, subst AreOps (e ∙ append-nil a) f))
begins_expression opers a (c ∷ b) ops h e f = elim (front_goes_on a c b (subst AreOps e f)) [ inl g ↦ inl (a, (h, g)) | inr g ↦ inr (a, (h, g)) ]

-- the beginning of operations that say a place is one that does, or an expression, or becomes one by a number
pub begins_are : (opers : List Oper) → BeginPermitted opers → AreOnePlace opers ⊎ (AreExpression opers ⊎ AreExpressionBeforeNumber opers)
begins_are opers w = by_says w.0 w.1.0 w.1.1
  where
    by_says : (more : List Oper) (place : Simple) → SayPlace (opers ++ more) place → AreOnePlace opers ⊎ (AreExpression opers ⊎ AreExpressionBeforeNumber opers)
    by_says more place (inl h) = begins_one opers more h.0 place h.1.0 h.1.1
    by_says more place (inr a) = let s = stack_split opers more a.ops a.on_stack in inr (begins_expression opers s.0 s.1.0 a.ops s.1.1.0 s.1.1.1 a.fit)

-- the beginning of a beginning is one
pub front_begins : (opers more : List Oper) → BeginPermitted (opers ++ more) → BeginPermitted opers
front_begins opers more w = (more ++ w.0, subst ArePermitted (append_assoc opers more w.0) w.1)

-- no operations begin a place
pub none_begin : BeginPermitted []
none_begin = (Oper.Address 0 ∷ [], (Simple.Fixed 0, inl (Oper.Address 0, (refl, refl))))

-- an expression without a number after it that counts from an unknown frame base at its end leaves a number
sum_last : (before : List Oper) (z : ℤ) (ops : List Op) → all_on_stack (before ++ Oper.Unframed z ∷ []) ≡ Some ops → 0 < height_after 0 ops
sum_last before z ops h =
    let s = stack_split before (Oper.Unframed z ∷ []) ops h in
    let e : Some ops ≡ Some (s.0 ++ op.RegPlus regs.Rbp z ∷ []) = sym h ∙ stack_push before s.0 (Oper.Unframed z) (op.RegPlus regs.Rbp z ∷ []) s.1.1.0 refl in
    let q : ops ≡ s.0 ++ op.RegPlus regs.Rbp z ∷ [] = cc in
    subst (λ l. 0 < height_after 0 l) (sym q) (height_sum 0 s.0 regs.Rbp z)

-- operations that are an expression, and of which none is a place by itself, say a place
no_place : (opers : List Oper) → ¬ ArePermitted opers → ¬ AreExpression opers
no_place opers n w = n (Simple.Ops w.0, inr (record { ops = w.0; on_stack = w.1.0; fit = w.1.1; is = refl; not_alone = λ o e other h. n (other, inl (o, (e, h))) }))

-- Operations that begin a place, and of which the last counts from an unknown frame base, say one.
pub unframed_says : (before : List Oper) (o : Oper) → IsUnframed o → BeginPermitted (before ++ o ∷ []) → ¬ ArePermitted (before ++ o ∷ []) → ⊥
unframed_says before (Oper.Unframed z) u b n = elim (begins_are (before ++ Oper.Unframed z ∷ []) b) [
  | inl w ↦ n (w.1.1.0, inl (w.0, (w.1.0, w.1.1.1)))
  | inr s ↦ elim s [
    | inl w ↦ no_place (before ++ Oper.Unframed z ∷ []) n w
    | inr w ↦ no_place (before ++ Oper.Unframed z ∷ []) n (w.0, (w.1.0, front_is w.0 (op.Const 0 ∷ []) w.1.1 (sum_last before z w.0 w.1.0)))
  ]
]
unframed_says before (Oper.Machine o) u b n = u
unframed_says before (Oper.Address a) u b n = u
unframed_says before (Oper.Register reg) u b n = u
unframed_says before (Oper.Based reg z) u b n = u
unframed_says before (Oper.CfaBased z) u b n = u
unframed_says before (Oper.Value v) u b n = u

-- what is decided of one is decided of what is the same
pub decided_by : {P Q : Type 0} {E : Type 0} (r : Result Bool E) → IfOk r (λ b. Decides b P) → (P → Q) → (Q → P) → IfOk r (λ b. Decides b Q)
decided_by (Ok b) d f g = ((λ t. f (d.0 t)), (λ q. d.1 (g q)))
decided_by (Err e) d f g = tt

-- where they are no place by themselves and no expression, a number after them decides
pub begins_before : (opers : List Oper) → ¬ AreOnePlace opers → ¬ AreExpression opers → BeginPermitted opers → AreExpressionBeforeNumber opers
begins_before opers m n b = elim (begins_are opers b) [ inl w ↦ absurd (m w) | inr s ↦ elim s [ inl w ↦ absurd (n w) | inr w ↦ w ] ]

-- an expression is the place, where none is one by itself
pub expression_says : (opers : List Oper) (ops : List Op) → ((place : Simple) → ¬ IsOneAlone opers place) → IsExpression opers ops → SayPlace opers (Simple.Ops ops)
expression_says opers ops n w = inr (record { ops = ops; on_stack = w.0; fit = w.1; is = refl; not_alone = λ o e other h. n other (o, (e, h)) })

-- what are neither say no place
pub neither_says : (opers : List Oper) → ((place : Simple) → ¬ IsOneAlone opers place) → ((ops : List Op) → ¬ IsExpression opers ops) → (place : Simple) → ¬ SayPlace opers place
neither_says opers n m place (inl h) = n place h
neither_says opers n m place (inr a) = m a.ops (a.on_stack, a.fit)
