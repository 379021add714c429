-- An operation has no result only where what it names is missing.
use Rattle.std.proofs.Common.{◌≡◌, ◌∙◌, ℕ, zero, suc, ◌+◌, ◌<◌, ◌≤◌, Bool, true, false, List, [], ◌∷◌, ◌++◌, length, Option, Some, None, option_and_then, refl, sym, ap, subst, arith}
use Rattle.std.specs.Option.{option_map}
use Rattle.std.specs.List.{slice_get}
use Rattle.std.specs.Int.{w64, cast_unsigned}
use Rattle.snapshot_file.specs.declared.snapshot.Snapshot.{Snapshot}
use Rattle.snapshot_file.specs.Memory.{items_at, number}
use Rattle.snapshot_file.specs.Registers.{register}
use Rattle.expr_eval.specs.declared.operation.Op.{Op}
use Rattle.expr_eval.specs.declared.operation.Op.TheVariants as op
use Rattle.expr_eval.specs.Results.{wrapped, little_endian, onto, register_number, register_plus, step, run, meaning, ends_in_value, spot, result_of}
use Rattle.expr_eval.specs.Invariant.{needs, fits, height_after, AreOps}
use Rattle.expr_eval.specs.Operands.{IsMissing, ComeToMissing, LackOnlyMissing}
use Rattle.expr_eval.proofs.Runs.{fits-step, value-step}
use Rattle.expr_eval.proofs.Parts.{lacking, numberless}
use Rattle.expr_eval.proofs.Fronts.{enough, front_step}

map_none : {A B : Type 0} (f : A → B) (x : Option A) → option_map f x ≡ None → x ≡ None
map_none f (Some a) e = cc
map_none f None e = refl

-- a place within a list has an item
place_none : (s : List ℕ) (depth : ℕ) → slice_get s depth ≡ None → depth + 1 ≤ length s → ⊥
place_none [] depth e h = omega arith
place_none (n ∷ s) zero e h = cc
place_none (n ∷ s) (suc depth) e h = place_none s depth e (omega arith)

-- no result means that something is missing
stops : (ptr : ℕ) (snap : Snapshot) (o : Op) (s : List ℕ) → step ptr snap o s ≡ None → needs o ≤ length s → IsMissing snap o s
stops ptr snap (op.Const n) s e h = cc
stops ptr snap (op.Deref width) (top ∷ s) e h = lacking snap.mem top width (map_none (wrapped ptr) (number (items_at snap.mem top width)) (map_none (λ n. n ∷ s) (option_map (wrapped ptr) (number (items_at snap.mem top width))) e))
stops ptr snap op.Dup (top ∷ s) e h = cc
stops ptr snap op.Drop (top ∷ s) e h = cc
stops ptr snap op.Over (top ∷ second ∷ s) e h = cc
stops ptr snap (op.Pick depth) s e h = place_none s depth (map_none (λ n. n ∷ s) (slice_get s depth) e) h
stops ptr snap op.Swap (top ∷ second ∷ s) e h = cc
stops ptr snap op.Rot (top ∷ second ∷ third ∷ s) e h = cc
stops ptr snap op.And (top ∷ second ∷ s) e h = cc
stops ptr snap op.Minus (top ∷ second ∷ s) e h = cc
stops ptr snap op.Mul (top ∷ second ∷ s) e h = cc
stops ptr snap op.Neg (top ∷ s) e h = cc
stops ptr snap op.Not (top ∷ s) e h = cc
stops ptr snap op.Or (top ∷ second ∷ s) e h = cc
stops ptr snap op.Plus (top ∷ second ∷ s) e h = cc
stops ptr snap (op.PlusConst n) (top ∷ s) e h = cc
stops ptr snap op.Shl (top ∷ second ∷ s) e h = cc
stops ptr snap op.Shr (top ∷ second ∷ s) e h = cc
stops ptr snap op.Shra (top ∷ second ∷ s) e h = cc
stops ptr snap op.Xor (top ∷ second ∷ s) e h = cc
stops ptr snap (op.RegPlus reg n) s e h =
    let none = map_none (λ m. m ∷ s) (register_plus ptr snap.regs reg n) e in
    map_none little_endian (register snap.regs reg) (map_none (λ r. wrapped ptr (r + cast_unsigned w64 n)) (register_number snap.regs reg) none)
stops ptr snap op.Cfa s e h = map_none (wrapped ptr) snap.cfa (map_none (λ n. n ∷ s) (option_map (wrapped ptr) snap.cfa) e)
stops ptr snap op.Entry s e h = tt
stops ptr snap op.StackValue s e h = cc
stops ptr snap _ _ e h = omega arith

-- what is missing leaves no result
missed : (ptr : ℕ) (snap : Snapshot) (o : Op) (s : List ℕ) → IsMissing snap o s → step ptr snap o s ≡ None
missed ptr snap (op.Deref width) (top ∷ s) m = ap (λ n. onto s (option_map (wrapped ptr) n)) (numberless snap.mem top width m.0 m.1 m.2)
missed ptr snap (op.RegPlus reg n) s m = ap (λ r. onto s (option_map (λ r. wrapped ptr (r + cast_unsigned w64 n)) (option_map little_endian r))) m
missed ptr snap op.Cfa s m = ap (λ n. onto s (option_map (wrapped ptr) n)) m
missed ptr snap op.Entry s m = refl
missed ptr snap _ _ m = absurd m

-- from a stack on, the operations come to one that names what is missing
record Stuck (ptr : ℕ) (snap : Snapshot) (ops : List Op) (t : List ℕ) : Type 0 where
  o : Op
  stack : List ℕ
  before : List Op
  after : List Op
  parts : ops ≡ before ++ o ∷ after
  left : run ptr snap before t ≡ Some stack
  missing : IsMissing snap o stack

further : (ptr : ℕ) (snap : Snapshot) (a : Op) (ops : List Op) (t next : List ℕ) → step ptr snap a t ≡ Some next → Stuck ptr snap ops next → Stuck ptr snap (a ∷ ops) t
further ptr snap a ops t next to st = record {
  o = st.o;
  stack = st.stack;
  before = a ∷ st.before;
  after = st.after;
  parts = ap (λ l. a ∷ l) st.parts;
  left = ap (option_and_then (run ptr snap st.before)) to ∙ st.left;
  missing = st.missing;
}

branch : (ptr : ℕ) (snap : Snapshot) (ops : List Op) (x : Option (List ℕ)) (P : Type 0) → (x ≡ None → P) → ((t : List ℕ) → x ≡ Some t → run ptr snap ops t ≡ None → P) → option_and_then (run ptr snap ops) x ≡ None → P
branch ptr snap ops (Some t) P n h e = h t refl e
branch ptr snap ops None P n h e = n refl

-- operations that fit have no stack only where they come to what is missing
stuck : (ptr : ℕ) (snap : Snapshot) (ops : List Op) (t : List ℕ) → fits (length t) ops ≡ true → run ptr snap ops t ≡ None → Stuck ptr snap ops t
stuck ptr snap [] t h e = cc
stuck ptr snap (a ∷ ops) t h e =
    branch ptr snap ops (step ptr snap a t) (Stuck ptr snap (a ∷ ops) t)
    (λ none. record { o = a; stack = t; before = []; after = ops; parts = refl; left = refl; missing = stops ptr snap a t none (enough a ops (length t) h) })
    (λ next to stop. further ptr snap a ops t next to (stuck ptr snap ops next (fits-step ptr snap a ops t next to h) stop)) e

-- operations that fit leave as many numbers as `height_after` says
ending : (ptr : ℕ) (snap : Snapshot) (ops : List Op) (t s : List ℕ) → fits (length t) ops ≡ true → run ptr snap ops t ≡ Some s → height_after (length t) ops ≡ length s
ending ptr snap [] t s h e = let same : t ≡ s = cc in ap length same
ending ptr snap (a ∷ ops) t s h e =
    front_step ptr snap ops (step ptr snap a t) s (height_after (length t) (a ∷ ops) ≡ length s)
    (λ next to go. sym (value-step ptr snap a ops t next to h) ∙ ending ptr snap ops next s (fits-step ptr snap a ops t next to h) go) e

valued : (is_value : Bool) (x : Option (List ℕ)) → ((s : List ℕ) → x ≡ Some s → 0 < length s) → option_and_then (spot is_value) x ≡ None → x ≡ None
valued b None h e = refl
valued b (Some []) h e = let some = h [] refl in absurd (omega arith)
valued true (Some (top ∷ s)) h e = cc
valued false (Some (top ∷ s)) h e = cc

-- where an operation has no result, the whole has none
unfinished : (ptr : ℕ) (snap : Snapshot) (before after : List Op) (o : Op) (t s : List ℕ) → run ptr snap before t ≡ Some s → step ptr snap o s ≡ None → run ptr snap (before ++ o ∷ after) t ≡ None
unfinished ptr snap [] after o t s e none =
    let same : s ≡ t = cc in
    ap (option_and_then (run ptr snap after)) (subst (λ l. step ptr snap o l ≡ None) same none)
unfinished ptr snap (a ∷ before) after o t s e none =
    front_step ptr snap before (step ptr snap a t) s (run ptr snap (a ∷ before ++ o ∷ after) t ≡ None)
    (λ next to go. ap (option_and_then (run ptr snap (before ++ o ∷ after))) to ∙ unfinished ptr snap before after o next s go none) e

to_missing : (ptr : ℕ) (snap : Snapshot) (ops : List Op) → AreOps ops → result_of ptr ops snap ≡ None → ComeToMissing ptr snap ops
to_missing ptr snap ops are e =
    let st = stuck ptr snap ops [] are.fit (valued (ends_in_value ops) (meaning ptr snap ops) (λ s to. subst (λ n. 0 < n) (ending ptr snap ops [] s are.fit to) are.value) e) in
    record {
      o = st.o;
      stack = st.stack;
      come = record { before = st.before; after = st.after; parts = st.parts; left = st.left };
      missing = st.missing;
    }

from_missing : (ptr : ℕ) (snap : Snapshot) (ops : List Op) → ComeToMissing ptr snap ops → result_of ptr ops snap ≡ None
from_missing ptr snap ops m =
    let none = missed ptr snap m.o m.stack m.missing in
    let whole : meaning ptr snap ops ≡ None = ap (meaning ptr snap) m.come.parts ∙ unfinished ptr snap m.come.before m.come.after m.o [] m.stack m.come.left none in
    ap (option_and_then (spot (ends_in_value ops))) whole

pub lack_only_missing : LackOnlyMissing
lack_only_missing = record {
  one = λ ptr snap o s h. (λ e. stops ptr snap o s e h, missed ptr snap o s);
  all = λ ptr snap ops are. (to_missing ptr snap ops are, from_missing ptr snap ops);
}
