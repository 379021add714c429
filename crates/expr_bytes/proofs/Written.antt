-- What is written of operations is spelled, and is read as the same operations.
use Rattle.std.proofs.Common.{◌≡◌, ◌<◌, ◌≤◌, ℕ, zero, suc, ℤ, ◌+◌, ◌^◌, ◌==◌, ◌&&◌, nat_lt, nat_le, true, List, [], ◌∷◌, ◌++◌, length, map, take, drop, get_or, Option, Some, inl, inr, refl, sym, ap, subst, ◌∙◌, arith, append-nil, append_assoc, length-append, add-zero, add-one}
use Rattle.std.proofs.Math.Seq.{take-suc, drop-append_seam}
use Rattle.std.proofs.lemmas.List.{take_all}
use Rattle.byteorder.specs.Endian.{little_bytes}
use Rattle.snapshot_file.specs.declared.registers.Reg.{Reg}
use Rattle.snapshot_file.specs.declared.registers.Reg.TheVariants as regs
use Rattle.snapshot_file.specs.Registers.{width_of}
use Rattle.expr_eval.specs.Addresses.{Addresses}
use Rattle.expr_eval.specs.declared.operation.Op.{Op}
use Rattle.expr_eval.specs.declared.operation.Op.TheVariants as op
use Rattle.expr_eval.specs.Invariant.{is_sound, each_sound, AreOps}
use Rattle.expr_eval.proofs.Runs.{and_left, and_right}
use Rattle.rv_bytes.specs.Forms.{nothing, follow, fails}
use Rattle.rv_bytes.specs.Numbers.{bytes, number, uleb, sleb}
use Rattle.rv_bytes.specs.Writers.{IsPut, Extends, AppendsShortest}
use Rattle.rv_bytes.proofs.Puts.{put_then, put_made, put_item, put_nothing, put_first, put_shortest, put_number}
use Rattle.expr_bytes.specs.Rules.{bad_operation}
use Rattle.expr_bytes.specs.Registers.{reg_at, number_of}
use Rattle.expr_bytes.specs.Layouts.{layout_of}
use Rattle.expr_bytes.specs.Operations.{Oper, on_stack, all_on_stack}
use Rattle.expr_bytes.specs.Operands.{constant, based, sized, operands, any_value, operation}
use Rattle.expr_bytes.specs.Places.{IsAlone, SayPlace}
use Rattle.expr_bytes.specs.Runs.{StandAt, done_by, IsUnframed, AreFramed}
use Rattle.expr_bytes.specs.Written.{layout_by, oper_by, ArePut, IsShortSum, IsReadAs, AppendsPlace}
use Rattle.expr_bytes.specs.declared.place.Frame.{Frame}
use Rattle.expr_bytes.specs.declared.place.Simple.{Simple}

-- a register's number is of that register
reg_back : (reg : Reg) → reg_at (number_of reg) ≡ Some reg
reg_back regs.Rax = refl
reg_back regs.Rdx = refl
reg_back regs.Rcx = refl
reg_back regs.Rbx = refl
reg_back regs.Rsi = refl
reg_back regs.Rdi = refl
reg_back regs.Rbp = refl
reg_back regs.Rsp = refl
reg_back regs.R8 = refl
reg_back regs.R9 = refl
reg_back regs.R10 = refl
reg_back regs.R11 = refl
reg_back regs.R12 = refl
reg_back regs.R13 = refl
reg_back regs.R14 = refl
reg_back regs.R15 = refl
reg_back regs.Xmm0 = refl
reg_back regs.Xmm1 = refl
reg_back regs.Xmm2 = refl
reg_back regs.Xmm3 = refl
reg_back regs.Xmm4 = refl
reg_back regs.Xmm5 = refl
reg_back regs.Xmm6 = refl
reg_back regs.Xmm7 = refl
reg_back regs.Xmm8 = refl
reg_back regs.Xmm9 = refl
reg_back regs.Xmm10 = refl
reg_back regs.Xmm11 = refl
reg_back regs.Xmm12 = refl
reg_back regs.Xmm13 = refl
reg_back regs.Xmm14 = refl
reg_back regs.Xmm15 = refl

-- What follows the code, operation by operation.
pub const_put : (frame : Frame) (addrs : Addresses) (n : ℕ) (old new : List ℕ) → AppendsShortest uleb n old new
    → IsPut (operands frame addrs (Some (layout_by (op.Const n)))) (Some (oper_by (op.Const n))) old new
const_put frame addrs n old new a = put_made constant uleb n old new (put_shortest uleb n old new a)

pub plus_put : (frame : Frame) (addrs : Addresses) (n : ℕ) (old new : List ℕ) → AppendsShortest uleb n old new
    → IsPut (operands frame addrs (Some (layout_by (op.PlusConst n)))) (Some (oper_by (op.PlusConst n))) old new
plus_put frame addrs n old new a = put_made (λ n. Some (Oper.Machine (op.PlusConst n))) uleb n old new (put_shortest uleb n old new a)

pub deref_put : (frame : Frame) (addrs : Addresses) (n : ℕ) (old new : List ℕ) → n < 256 ^ 1 → is_sound (op.Deref n) ≡ true → new ≡ old ++ little_bytes 1 n
    → IsPut (operands frame addrs (Some (layout_by (op.Deref n)))) (Some (oper_by (op.Deref n))) old new
deref_put frame addrs n old new f h e =
    put_then (number 1) sized n (Some (Oper.Machine (op.Deref n))) old new new (put_number 1 n old new f e)
    (put_first (nat_lt 0 n && nat_le n 8) (nothing (Some (Oper.Machine (op.Deref n)))) (fails bad_operation) (Some (Oper.Machine (op.Deref n))) new new h (put_nothing (Some (Oper.Machine (op.Deref n))) new))

pub pick_put : (frame : Frame) (addrs : Addresses) (n : ℕ) (old new : List ℕ) → n < 256 ^ 1 → new ≡ old ++ little_bytes 1 n
    → IsPut (operands frame addrs (Some (layout_by (op.Pick n)))) (Some (oper_by (op.Pick n))) old new
pick_put frame addrs n old new f e = put_made (λ n. Some (Oper.Machine (op.Pick n))) (number 1) n old new (put_number 1 n old new f e)

pub sum_put : (frame : Frame) (addrs : Addresses) (reg : Reg) (z : ℤ) (old new : List ℕ) → is_sound (op.RegPlus reg z) ≡ true → AppendsShortest sleb z old new
    → IsPut (operands frame addrs (Some (layout_by (op.RegPlus reg z)))) (Some (oper_by (op.RegPlus reg z))) old new
sum_put frame addrs reg z old new h a =
    put_then sleb (based (reg_at (number_of reg))) z (Some (Oper.Based reg z)) old new new (put_shortest sleb z old new a)
    (subst (λ r. IsPut (based r z) (Some (Oper.Based reg z)) new new) (sym (reg_back reg))
    (put_first (width_of reg == 8) (nothing (Some (Oper.Based reg z))) (fails bad_operation) (Some (Oper.Based reg z)) new new h (put_nothing (Some (Oper.Based reg z)) new)))

pub entry_put : (frame : Frame) (addrs : Addresses) (old new : List ℕ) → AppendsShortest uleb 0 old new
    → IsPut (operands frame addrs (Some (layout_by op.Entry))) (Some (oper_by op.Entry)) old new
entry_put frame addrs old new a =
    let none : IsPut (bytes 0) [] new new = record { bytes = []; appended = sym (append-nil new); spelled = λ n. (refl, refl) } in
    put_made (λ _. Some (Oper.Machine op.Entry)) (follow uleb bytes) [] old new (put_then uleb bytes 0 [] old new new (put_shortest uleb 0 old new a) none)

pub plain_put : (o : Op) (old : List ℕ) → IsPut (nothing (Some (Oper.Machine o))) (Some (Oper.Machine o)) old old
plain_put o old = put_nothing (Some (Oper.Machine o)) old

-- an operation, by its code and what follows it
pub op_put : (frame : Frame) (addrs : Addresses) (o : Op) (code : ℕ) (old mid new : List ℕ) → code < 256 ^ 1 → layout_of code ≡ Some (layout_by o)
    → mid ≡ old ++ little_bytes 1 code → IsPut (operands frame addrs (Some (layout_by o))) (Some (oper_by o)) mid new
    → IsPut (operation frame addrs) (Some (oper_by o)) old new
op_put frame addrs o code old mid new f e a b =
    put_item (follow (number 1) (λ code. operands frame addrs (layout_of code))) any_value (Some (oper_by o)) old new refl
    (put_then (number 1) (λ code. operands frame addrs (layout_of code)) code (Some (oper_by o)) old mid new (put_number 1 code old mid f a)
    (subst (λ l. IsPut (operands frame addrs l) (Some (oper_by o)) mid new) (sym e) b))

-- one operation more
stand_push : (frame : Frame) (addrs : Addresses) (n : ℕ) (os : List (Option Oper)) (o : Option Oper) (t u : List ℕ) → StandAt frame addrs n os t
    → (operation frame addrs).spells (n + length t) o u → StandAt frame addrs n (os ++ o ∷ []) (t ++ u)
stand_push frame addrs n [] o t u h w =
    rw h (record { front = u; back = []; split = sym (append-nil u); is_front = subst (λ m. (operation frame addrs).spells m o u) (ap (λ l. n + length l) h ∙ add-zero n) w; is_back = refl })
stand_push frame addrs n (x ∷ os) o t u h w =
    let at : n + length t ≡ n + length h.front + length h.back = omega (arith, ap length h.split, length-append h.front h.back) in
    record {
      front = h.front;
      back = h.back ++ u;
      split = ap (λ l. l ++ u) h.split ∙ append_assoc h.front h.back u;
      is_front = h.is_front;
      is_back = stand_push frame addrs (n + length h.front) os o h.back u h.is_back (subst (λ m. (operation frame addrs).spells m o u) at w);
    }

-- at first none stands
pub none_put : (old : List ℕ) → ArePut [] old old
none_put old = record { bytes = []; appended = sym (append-nil old); stand = λ frame addrs n. refl }

map_push : {A B : Type 0} (f : A → B) (xs : List A) (x : A) → map f xs ++ f x ∷ [] ≡ map f (xs ++ x ∷ [])
map_push f [] x = refl
map_push f (y ∷ xs) x = ap (λ l. f y ∷ l) (map_push f xs x)

-- what was appended is told by the bytes before and after
same_bytes : (old b c : List ℕ) → old ++ b ≡ old ++ c → b ≡ c
same_bytes old b c e = sym (drop-append_seam old b) ∙ ap (drop (length old)) e ∙ drop-append_seam old c

-- one more was appended, whose bytes don't depend on the frame base or the addresses
pub more_put : (ops : List Op) (i : ℕ) (d : Op) (old mid new : List ℕ) → i < length ops → ArePut (take i ops) old mid → Extends mid new
    → ((frame : Frame) (addrs : Addresses) → IsPut (operation frame addrs) (Some (oper_by (get_or ops i d))) mid new) → ArePut (take (i + 1) ops) old new
more_put ops i d old mid new l a k w =
    subst (λ xs. ArePut xs old new) (sym (ap (λ n. take n ops) (add-one i) ∙ take-suc ops i d l)) (record {
      bytes = a.bytes ++ k.bytes;
      appended = k.appended ∙ ap (λ l. l ++ k.bytes) a.appended ∙ append_assoc old a.bytes k.bytes;
      stand = λ frame addrs n.
          subst (λ os. StandAt frame addrs n os (a.bytes ++ k.bytes)) (map_push (λ o. Some (oper_by o)) (take i ops) (get_or ops i d))
          (stand_push frame addrs n (map (λ o. Some (oper_by o)) (take i ops)) (Some (oper_by (get_or ops i d))) a.bytes k.bytes (a.stand frame addrs n)
          (let p = w frame addrs in subst (λ b. (operation frame addrs).spells (n + length a.bytes) (Some (oper_by (get_or ops i d))) b) (same_bytes mid p.bytes k.bytes (sym p.appended ∙ k.appended)) (p.spelled (n + length a.bytes))));
    })

-- each of sound operations is sound
pub sound_at : (ops : List Op) (i : ℕ) (d : Op) → i < length ops → each_sound ops ≡ true → is_sound (get_or ops i d) ≡ true
sound_at [] i d l h = absurd (omega (arith, l))
sound_at (o ∷ ops) zero d l h = and_left (is_sound o) (each_sound ops) h
sound_at (o ∷ ops) (suc i) d l h = sound_at ops i d (omega (arith, l)) (and_right (is_sound o) (each_sound ops) h)

-- at the end all were appended
pub all_put : (ops : List Op) (i : ℕ) (old new : List ℕ) → length ops ≤ i → ArePut (take i ops) old new → ArePut ops old new
all_put ops i old new l a = subst (λ os. ArePut os old new) (take_all i ops l) a

-- what is read of what was written
read_back : (ops : List Op) → done_by (map (λ o. Some (oper_by o)) ops) ≡ map oper_by ops
read_back [] = refl
read_back (o ∷ ops) = ap (λ l. oper_by o ∷ l) (read_back ops)

-- an operation does on the stack what it is
own_stack : (o : Op) → on_stack (oper_by o) ≡ Some (o ∷ [])
own_stack (op.RegPlus reg n) = refl
own_stack (op.Const n) = refl
own_stack (op.Deref width) = refl
own_stack op.Dup = refl
own_stack op.Drop = refl
own_stack op.Over = refl
own_stack (op.Pick depth) = refl
own_stack op.Swap = refl
own_stack op.Rot = refl
own_stack op.And = refl
own_stack op.Minus = refl
own_stack op.Mul = refl
own_stack op.Neg = refl
own_stack op.Not = refl
own_stack op.Or = refl
own_stack op.Plus = refl
own_stack (op.PlusConst n) = refl
own_stack op.Shl = refl
own_stack op.Shr = refl
own_stack op.Shra = refl
own_stack op.Xor = refl
own_stack op.Cfa = refl
own_stack op.Entry = refl
own_stack op.StackValue = refl

same_stack : (ops : List Op) → all_on_stack (map oper_by ops) ≡ Some ops
same_stack [] = refl
same_stack (o ∷ ops) = rw (own_stack o, same_stack ops) refl

-- none counts from an unknown frame base
each_framed : (o : Op) → ¬ IsUnframed (oper_by o)
each_framed (op.RegPlus reg n) h = h
each_framed (op.Const n) h = h
each_framed (op.Deref width) h = h
each_framed op.Dup h = h
each_framed op.Drop h = h
each_framed op.Over h = h
each_framed (op.Pick depth) h = h
each_framed op.Swap h = h
each_framed op.Rot h = h
each_framed op.And h = h
each_framed op.Minus h = h
each_framed op.Mul h = h
each_framed op.Neg h = h
each_framed op.Not h = h
each_framed op.Or h = h
each_framed op.Plus h = h
each_framed (op.PlusConst n) h = h
each_framed op.Shl h = h
each_framed op.Shr h = h
each_framed op.Shra h = h
each_framed op.Xor h = h
each_framed op.Cfa h = h
each_framed op.Entry h = h
each_framed op.StackValue h = h

all_framed : (ops : List Op) (before after : List Oper) (o : Oper) → map oper_by ops ≡ before ++ o ∷ after → ¬ IsUnframed o
all_framed [] [] after o e h = cc
all_framed [] (b ∷ before) after o e h = cc
all_framed (p ∷ ops) [] after o e h = let q : oper_by p ≡ o = cc in each_framed p (subst IsUnframed (sym q) h)
all_framed (p ∷ ops) (b ∷ before) after o e h = let q : map oper_by ops ≡ before ++ o ∷ after = cc in all_framed ops before after o q h

-- what is by itself a place is a short sum
alone_is_sum : (p : Op) (other : Simple) → IsAlone (oper_by p) other → (reg : Reg) × ((z : ℤ) × IsShortSum (p ∷ []) reg z)
alone_is_sum (op.RegPlus reg z) other h = (reg, (z, record { one = refl; short = h.0 }))
alone_is_sum (op.Const n) other h = absurd h
alone_is_sum (op.Deref width) other h = absurd h
alone_is_sum op.Dup other h = absurd h
alone_is_sum op.Drop other h = absurd h
alone_is_sum op.Over other h = absurd h
alone_is_sum (op.Pick depth) other h = absurd h
alone_is_sum op.Swap other h = absurd h
alone_is_sum op.Rot other h = absurd h
alone_is_sum op.And other h = absurd h
alone_is_sum op.Minus other h = absurd h
alone_is_sum op.Mul other h = absurd h
alone_is_sum op.Neg other h = absurd h
alone_is_sum op.Not other h = absurd h
alone_is_sum op.Or other h = absurd h
alone_is_sum op.Plus other h = absurd h
alone_is_sum (op.PlusConst n) other h = absurd h
alone_is_sum op.Shl other h = absurd h
alone_is_sum op.Shr other h = absurd h
alone_is_sum op.Shra other h = absurd h
alone_is_sum op.Xor other h = absurd h
alone_is_sum op.Cfa other h = absurd h
alone_is_sum op.Entry other h = absurd h
alone_is_sum op.StackValue other h = absurd h

not_alone : (ops : List Op) → ((reg : Reg) (z : ℤ) → ¬ IsShortSum ops reg z) → (o : Oper) → map oper_by ops ≡ o ∷ [] → (other : Simple) → ¬ IsAlone o other
not_alone [] n o e other h = cc
not_alone (p ∷ []) n o e other h =
    let q : oper_by p ≡ o = cc in
    let w = alone_is_sum p other (subst (λ x. IsAlone x other) (sym q) h) in n w.0 w.1.0 w.1.1
not_alone (p ∷ q ∷ ops) n o e other h = cc

-- the place as which they are read
say_back : (ops : List Op) (place : Simple) → AreOps ops → IsReadAs ops place → SayPlace (map oper_by ops) place
say_back ops place f (inl h) = inl (Oper.Based h.0 h.1.0, (ap (map oper_by) h.1.1.0.one, (h.1.1.0.short, h.1.1.1)))
say_back ops place f (inr h) = inr (record { ops = ops; on_stack = same_stack ops; fit = f; is = h.1; not_alone = not_alone ops h.0 })

-- so what was appended says that place
pub place_put : (ops : List Op) (old new : List ℕ) → AreOps ops → ArePut ops old new → AppendsPlace ops old new
place_put ops old new f a = record {
  bytes = a.bytes;
  appended = a.appended;
  says = λ frame addrs n rest place e r. record {
    opers = map (λ o. Some (oper_by o)) ops;
    spelling = a.bytes;
    stand = a.stand frame addrs n;
    bytes = refl;
    past = refl;
    ends = e;
    framed = subst AreFramed (sym (read_back ops)) (λ before after o q. all_framed ops before after o q);
    say = inr (subst (λ os. SayPlace os place) (sym (read_back ops)) (say_back ops place f r));
  };
}
