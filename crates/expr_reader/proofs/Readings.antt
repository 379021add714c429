-- Bytes have at most one reading as a place.
use Rattle.std.proofs.Common.{◌≡◌, ℕ, zero, suc, ◌+◌, List, [], ◌∷◌, ◌++◌, length, replicate, Option, Some, None, Ok, Err, inl, inr, ◌⊎◌, refl, sym, ap, subst, ◌∙◌, arith, append-nil, append_assoc, length-append}
use Rattle.std.proofs.lemmas.List.Elements.{filter_map-append}
use Rattle.byteorder.specs.Endian.{little_number}
use Rattle.rv_bytes.specs.Places.{Place}
use Rattle.rv_bytes.specs.Rules.{short}
use Rattle.rv_bytes.proofs.Exact.{one_value, one_fault, never_both}
use Rattle.expr_eval.specs.Addresses.{Addresses}
use Rattle.expr_bytes.specs.Codes as code
use Rattle.expr_bytes.specs.Rules.{bad_operation}
use Rattle.expr_bytes.specs.Layouts.{layout_of}
use Rattle.expr_bytes.specs.Operations.{Oper}
use Rattle.expr_bytes.specs.Operands.{operation}
use Rattle.expr_bytes.specs.Readers.{read_operation}
use Rattle.expr_bytes.specs.Places.{IsAlone, SayPlace, ArePermitted, BeginPermitted}
use Rattle.expr_bytes.specs.Runs.{Ends, StandAt, done_by, AreFramed, EndsAfterNop, TakesPlace, Breaks, AreInOrder, IsInvalid, IsFaultAt}
use Rattle.expr_bytes.specs.declared.place.Frame.{Frame}
use Rattle.expr_bytes.specs.declared.place.Simple.{Simple}
use Rattle.expr_bytes.specs.declared.place.OpsErr.{OpsErr}
use Rattle.expr_bytes.proofs.OperandsExact.{operation_exact}
use Rattle.expr_reader.specs.Nexts.{SaidBy}
use Rattle.expr_reader.specs.OneReading.{HasOneReading}
use Rattle.expr_reader.specs.ReadBack.{AreReadBack}
use Rattle.expr_reader.proofs.Begins.{front_begins}

-- one operation

same_operation : (frame : Frame) (addrs : Addresses) (n : ℕ) (v w : Option Oper) (t u k l : List ℕ) → (operation frame addrs).spells n v t → (operation frame addrs).spells n w u → t ++ k ≡ u ++ l → (v ≡ w) × (k ≡ l)
same_operation frame addrs n v w t u k l h g e = one_value (operation frame addrs) (read_operation frame addrs) (operation_exact frame addrs) n v w t u k l h g e

same_fault : (frame : Frame) (addrs : Addresses) (n : ℕ) (s : List ℕ) (r q m k : ℕ) → (operation frame addrs).faults n s r m → (operation frame addrs).faults n s q k → (r ≡ q) × (m ≡ k)
same_fault frame addrs n s r q m k h g = one_fault (operation frame addrs) (read_operation frame addrs) (operation_exact frame addrs) n s r q m k h g

no_fault : (frame : Frame) (addrs : Addresses) (n : ℕ) (v : Option Oper) (s t k : List ℕ) (r m : ℕ) → (operation frame addrs).spells n v t → s ≡ t ++ k → (operation frame addrs).faults n s r m → ⊥
no_fault frame addrs n v s t k r m h e g =
    never_both (operation frame addrs) (read_operation frame addrs) (operation_exact frame addrs) n v t k r m h (subst (λ l. (operation frame addrs).faults n l r m) e g)

-- no operation has the code of a piece
no_piece : layout_of code.piece ≡ None
unfolding layout_of
no_piece = refl

byte_is : (b : ℕ) → b ≡ code.piece → code.piece ≡ little_number 1 (b ∷ [])
byte_is b h = rw h refl

-- none stands where a place ends
end_faults : (frame : Frame) (addrs : Addresses) (n : ℕ) (s : List ℕ) → Ends s → (r : ℕ) × (operation frame addrs).faults n s r n
end_faults frame addrs n [] h = (short, (refl, inl (n, inl (omega arith, (refl, refl)))))
end_faults frame addrs n (b ∷ s) h =
    (bad_operation, (refl, inl (n + length (b ∷ []), inr (code.piece, record { front = b ∷ []; back = s; split = refl; is_front = (b ∷ [], (byte_is b h, (refl, refl))); is_back = rw no_piece (refl, refl) }))))

pub none_at_end : (frame : Frame) (addrs : Addresses) (n : ℕ) (v : Option Oper) (s t k : List ℕ) → Ends s → (operation frame addrs).spells n v t → s ≡ t ++ k → ⊥
none_at_end frame addrs n v s t k h g e = let w = end_faults frame addrs n s h in no_fault frame addrs n v s t k w.0 n g e w.1

-- places after bytes that are as many
lengths : (t u k l : List ℕ) → t ++ k ≡ u ++ l → k ≡ l → length t ≡ length u
lengths t u k l e f = omega (arith, ap length e, ap length f, length-append t k, length-append u l)

-- the long ones are the short ones, before the bytes k at place m, and then another and more, before the bytes l at place n
record Longer (frame : Frame) (addrs : Addresses) (m : ℕ) (short : List (Option Oper)) (k : List ℕ) (n : ℕ) (long : List (Option Oper)) (l : List ℕ) : Type 0 where
  o : Option Oper
  more : List (Option Oper)
  is : long ≡ short ++ o ∷ more
  t : List ℕ
  u : List ℕ
  spells : (operation frame addrs).spells m o t
  stand : StandAt frame addrs (m + length t) more u
  bytes : k ≡ t ++ (u ++ l)
  past : n ≡ m + length t + length u

-- of operations in the same bytes both are the same, or some are longer
abbrev Compared : Frame → Addresses → ℕ → List (Option Oper) → List ℕ → ℕ → List (Option Oper) → List ℕ → Type 0
Compared frame addrs m a k n b l = ((a ≡ b) × (k ≡ l)) ⊎ (Longer frame addrs m a k n b l ⊎ Longer frame addrs n b l m a k)

-- one more in front
longer_by : (frame : Frame) (addrs : Addresses) (m n : ℕ) (x y : Option Oper) (a b : List (Option Oper)) (k l : List ℕ) → x ≡ y → Longer frame addrs m a k n b l → Longer frame addrs m (x ∷ a) k n (y ∷ b) l
longer_by frame addrs m n x y a b k l e h =
    record { o = h.o; more = h.more; is = rw e (ap (λ z. y ∷ z) h.is); t = h.t; u = h.u; spells = h.spells; stand = h.stand; bytes = h.bytes; past = h.past }

-- others go on where none stand
longer_than_none : (frame : Frame) (addrs : Addresses) (n m j : ℕ) (t k u l : List ℕ) (o : Option Oper) (b : List (Option Oper)) → t ≡ [] → StandAt frame addrs n (o ∷ b) u → m ≡ n + length t → j ≡ n + length u → t ++ k ≡ u ++ l
    → Longer frame addrs m [] k j (o ∷ b) l
longer_than_none frame addrs n m j t k u l o b h g p p2 e =
    let q : n ≡ m = omega (arith, p, ap length h) in
    let z : k ≡ t ++ k = rw h refl in
    record {
      o = o;
      more = b;
      is = refl;
      t = g.front;
      u = g.back;
      spells = subst (λ i. (operation frame addrs).spells i o g.front) q g.is_front;
      stand = subst (λ i. StandAt frame addrs (i + length g.front) b g.back) q g.is_back;
      bytes = z ∙ e ∙ ap (λ w. w ++ l) g.split ∙ append_assoc g.front g.back l;
      past = omega (arith, p2, q, ap length g.split, length-append g.front g.back);
    }

-- where neither goes on, what follows is the same
same_rest : (t k u l : List ℕ) → t ≡ [] → u ≡ [] → t ++ k ≡ u ++ l → k ≡ l
same_rest t k u l h g e = sym (ap (λ w. w ++ k) h) ∙ e ∙ ap (λ w. w ++ l) g

compare_stands : (frame : Frame) (addrs : Addresses) (n i j : ℕ) (a b : List (Option Oper)) (t k u l : List ℕ) → StandAt frame addrs n a t → StandAt frame addrs n b u → i ≡ n + length t → j ≡ n + length u → t ++ k ≡ u ++ l
    → Compared frame addrs i a k j b l
compare_stands frame addrs n i j [] [] t k u l h g p q e = inl (refl, same_rest t k u l h g e)
compare_stands frame addrs n i j [] (y ∷ b) t k u l h g p q e = inr (inl (longer_than_none frame addrs n i j t k u l y b h g p q e))
compare_stands frame addrs n i j (x ∷ a) [] t k u l h g p q e = inr (inr (longer_than_none frame addrs n j i u l t k x a g h q p (sym e)))
compare_stands frame addrs n i j (x ∷ a) (y ∷ b) t k u l h g p q e =
    let z : h.front ++ (h.back ++ k) ≡ g.front ++ (g.back ++ l) = sym (append_assoc h.front h.back k) ∙ ap (λ w. w ++ k) (sym h.split) ∙ e ∙ ap (λ w. w ++ l) g.split ∙ append_assoc g.front g.back l in
    let s = same_operation frame addrs n x y h.front g.front (h.back ++ k) (g.back ++ l) h.is_front g.is_front z in
    let d = lengths h.front g.front (h.back ++ k) (g.back ++ l) z s.1 in
    let g2 : StandAt frame addrs (n + length h.front) b g.back = subst (λ m. StandAt frame addrs (n + m) b g.back) (sym d) g.is_back in
    elim (compare_stands frame addrs (n + length h.front) i j a b h.back k g.back l h.is_back g2 (omega (arith, p, ap length h.split, length-append h.front h.back)) (omega (arith, q, ap length g.split, length-append g.front g.back, d)) s.1) [
      | inl w ↦ inl ((rw s.0 (ap (λ v. y ∷ v) w.0)), w.1)
      | inr w ↦ inr (elim w [
        | inl v ↦ inl (longer_by frame addrs i j x y a b k l s.0 v)
        | inr v ↦ inr (longer_by frame addrs j i y x b a l k (sym s.0) v)
      ])
    ]

-- what operations say

alone_same : (o : Oper) (p q : Simple) → IsAlone o p → IsAlone o q → p ≡ q
alone_same (Oper.Machine o) p q h g = absurd h
alone_same (Oper.Address a) p q h g = h ∙ sym g
alone_same (Oper.Register reg) p q h g = h ∙ sym g
alone_same (Oper.Based reg z) p q h g = h.1 ∙ sym g.1
alone_same (Oper.CfaBased z) p q h g = absurd h
alone_same (Oper.Unframed z) p q h g = h.1 ∙ sym g.1
alone_same (Oper.Value b) p q h g = h ∙ sym g

say_same : (opers : List Oper) (p q : Simple) → SayPlace opers p → SayPlace opers q → p ≡ q
say_same opers p q (inl h) (inl g) =
    let e : h.0 ∷ [] ≡ g.0 ∷ [] = sym h.1.0 ∙ g.1.0 in
    let d : h.0 ≡ g.0 = cc in
    alone_same g.0 p q (subst (λ o. IsAlone o p) d h.1.1) g.1.1
say_same opers p q (inl h) (inr b) = absurd (b.not_alone h.0 h.1.0 p h.1.1)
say_same opers p q (inr a) (inl g) = absurd (a.not_alone g.0 g.1.0 q g.1.1)
say_same opers p q (inr a) (inr b) =
    let e : Some a.ops ≡ Some b.ops = sym a.on_stack ∙ b.on_stack in
    let d : a.ops ≡ b.ops = cc in
    a.is ∙ ap (λ ops. Simple.Ops ops) d ∙ sym b.is

empty_says : (place : Simple) → SayPlace [] place → ⊥
empty_says place (inl h) = let e : [] ≡ h.0 ∷ [] = h.1.0 in cc
empty_says place (inr a) = let e : Some [] ≡ Some a.ops = a.on_stack in let d : [] ≡ a.ops = cc in let s = a.fit.some in omega (arith, ap length d)

said_same : (opers : List Oper) (p q : Simple) → SaidBy opers p → SaidBy opers q → p ≡ q
said_same opers p q (inl h) (inl g) = h.1 ∙ sym g.1
said_same opers p q (inl h) (inr g) = absurd (empty_says q (subst (λ os. SayPlace os q) h.0 g))
said_same opers p q (inr h) (inl g) = absurd (empty_says p (subst (λ os. SayPlace os p) g.0 h))
said_same opers p q (inr h) (inr g) = say_same opers p q h g

-- what say a place begin one
said_begin : (opers : List Oper) (o : Oper) (more : List Oper) (place : Simple) → SaidBy (opers ++ o ∷ more) place → BeginPermitted (opers ++ o ∷ more)
said_begin [] o more place (inl h) = let e = h.0 in cc
said_begin (x ∷ opers) o more place (inl h) = let e = h.0 in cc
said_begin opers o more place (inr h) = ([], (place, subst (λ os. SayPlace os place) (sym (append-nil (opers ++ o ∷ more))) h))

-- operations of which none say a place say none
says_none : (opers : List Oper) (o : Oper) (place : Simple) → SaidBy (opers ++ o ∷ []) place → ¬ ArePermitted (opers ++ o ∷ []) → ⊥
says_none [] o place (inl h) n = let e = h.0 in cc
says_none (x ∷ opers) o place (inl h) n = let e = h.0 in cc
says_none opers o place (inr h) n = n (place, h)

-- a rule broken by one operation
breaks_same : (frame : Frame) (addrs : Addresses) (before : List Oper) (o : Oper) (r q n : ℕ) (after : List ℕ) → Breaks frame addrs before o r n after → Breaks frame addrs before o q n after → r ≡ q
breaks_same frame addrs before o r q n after (inl h) (inl g) = h.1 ∙ sym g.1
breaks_same frame addrs before o r q n after (inl h) (inr g) = absurd (g.0 h.0)
breaks_same frame addrs before o r q n after (inr h) (inl g) = absurd (h.0 g.0)
breaks_same frame addrs before o r q n after (inr h) (inr g) = h.1.1 ∙ sym g.1.1

-- where others follow that are in order, only the end of the place is in the way
only_at_end : (frame : Frame) (addrs : Addresses) (before : List Oper) (o : Oper) (more : List Oper) (r n : ℕ) (after : List ℕ) → Breaks frame addrs before o r n after → AreFramed (before ++ o ∷ more)
    → BeginPermitted (before ++ o ∷ more) → EndsAfterNop frame addrs n after × ¬ ArePermitted (before ++ o ∷ [])
only_at_end frame addrs before o more r n after (inr h) f b = absurd (f before more o refl h.1.0)
only_at_end frame addrs before o more r n after (inl h) f b = elim h.0 [
  | inl g ↦ absurd (g (front_begins (before ++ o ∷ []) more (subst BeginPermitted (sym (append_assoc before (o ∷ []) more)) b)))
  | inr g ↦ g
]

-- an operation after the short ones is the last of its place and they say none, where more follow it from this place on
record IsLast (frame : Frame) (addrs : Addresses) (at : ℕ) (short more long : List (Option Oper)) (rest : List ℕ) : Type 0 where
  o : Oper
  is : done_by long ≡ done_by short ++ o ∷ done_by more
  ends : EndsAfterNop frame addrs at rest
  none : ¬ ArePermitted (done_by short ++ o ∷ [])

done_split : (short more : List (Option Oper)) (o : Oper) → done_by (short ++ Some o ∷ more) ≡ done_by short ++ o ∷ done_by more
done_split short more o = filter_map-append (λ o. o) short (Some o ∷ more)

is_last : (frame : Frame) (addrs : Addresses) (m : ℕ) (short : List (Option Oper)) (k : List ℕ) (n : ℕ) (long : List (Option Oper)) (l : List ℕ) (r : ℕ) (w : Longer frame addrs m short k n long l) → IsInvalid frame addrs (done_by short) m k r
    → AreFramed (done_by long) → ((o : Oper) → done_by long ≡ done_by short ++ o ∷ done_by w.more → BeginPermitted (done_by long)) → IsLast frame addrs (m + length w.t) short w.more long (w.u ++ l)
is_last frame addrs m short k n long l r w (inl h) f b = absurd (no_fault frame addrs m w.o k w.t (w.u ++ l) r m w.spells w.bytes h)
is_last frame addrs m short k n long l r w (inr h) f b =
    let o = h.0 in
    let s = h.1 in
    let e : s.front ++ s.back ≡ w.t ++ (w.u ++ l) = sym s.split ∙ w.bytes in
    let d = same_operation frame addrs m (Some o) w.o s.front w.t s.back (w.u ++ l) s.is_front w.spells e in
    let c = lengths s.front w.t s.back (w.u ++ l) e d.1 in
    let is : long ≡ short ++ Some o ∷ w.more = w.is ∙ ap (λ v. short ++ v ∷ w.more) (sym d.0) in
    let done : done_by long ≡ done_by short ++ o ∷ done_by w.more = ap (λ os. done_by os) is ∙ done_split short w.more o in
    let g = only_at_end frame addrs (done_by short) o (done_by w.more) r (m + length s.front) s.back s.is_back (subst (λ os. AreFramed os) done f) (subst (λ os. BeginPermitted os) done (b o done)) in
    record {
      o = o;
      is = done;
      ends = subst (λ i. EndsAfterNop frame addrs (m + i) (w.u ++ l)) c (subst (λ z. EndsAfterNop frame addrs (m + length s.front) z) d.1 g.0);
      none = g.1;
    }

-- operations that do nothing
none_done : (count : ℕ) → done_by (replicate count None) ≡ []
none_done zero = refl
none_done (suc count) = none_done count

none_in : (count : ℕ) (a : List (Option Oper)) (v : Option Oper) (b : List (Option Oper)) → replicate count None ≡ a ++ v ∷ b → v ≡ None
none_in zero [] v b e = cc
none_in zero (x ∷ a) v b e = cc
none_in (suc count) [] v b e = cc
none_in (suc count) (x ∷ a) v b e = let q : replicate count None ≡ a ++ v ∷ b = cc in none_in count a v b q

-- nothing that does something is invalid where an operation that does nothing stands
no_invalid : (frame : Frame) (addrs : Addresses) (before : List Oper) (m r : ℕ) (k t u : List ℕ) (v : Option Oper) → v ≡ None → (operation frame addrs).spells m v t → k ≡ t ++ u → IsInvalid frame addrs before m k r → ⊥
no_invalid frame addrs before m r k t u v e h b (inl g) = no_fault frame addrs m v k t u r m h b g
no_invalid frame addrs before m r k t u v e h b (inr g) =
    let s = g.1 in
    let d = same_operation frame addrs m v (Some g.0) t s.front u s.back h s.is_front (sym b ∙ s.split) in
    let q : None ≡ Some g.0 = sym e ∙ d.0 in
    cc

-- the law

same_ends : (m n : Place) (a b c : ℕ) → m.rest ≡ n.rest → m.at ≡ a + b → n.at ≡ a + c → b ≡ c → m ≡ n
same_ends m n a b c e p q d = let z : m.at ≡ n.at = omega (arith, p, q, d) in ap (λ at. record { at = at; rest = m.rest }) z ∙ ap (λ rest. record { at = n.at; rest = rest }) e

one_place : (frame : Frame) (addrs : Addresses) (old m n : Place) (p q : Simple) → TakesPlace frame addrs old m p → TakesPlace frame addrs old n q → (m ≡ n) × (p ≡ q)
one_place frame addrs old m n p q a b =
    let e : a.spelling ++ m.rest ≡ b.spelling ++ n.rest = sym a.bytes ∙ b.bytes in
    elim (compare_stands frame addrs old.at m.at n.at a.opers b.opers a.spelling m.rest b.spelling n.rest a.stand b.stand a.past b.past e) [
      | inl w ↦ (same_ends m n old.at (length a.spelling) (length b.spelling) w.1 a.past b.past (lengths a.spelling b.spelling m.rest n.rest e w.1), said_same (done_by b.opers) p q (subst (λ os. SaidBy (done_by os) p) w.0 a.say) b.say)
      | inr s ↦ elim s [
        | inl w ↦ absurd (none_at_end frame addrs m.at w.o m.rest w.t (w.u ++ n.rest) a.ends w.spells w.bytes)
        | inr w ↦ absurd (none_at_end frame addrs n.at w.o n.rest w.t (w.u ++ m.rest) b.ends w.spells w.bytes)
      ]
    ]

invalid_same : (frame : Frame) (addrs : Addresses) (before : List Oper) (n r q : ℕ) (s : List ℕ) → IsInvalid frame addrs before n s r → IsInvalid frame addrs before n s q → r ≡ q
invalid_same frame addrs before n r q s (inl h) (inl g) = (same_fault frame addrs n s r q n n h g).0
invalid_same frame addrs before n r q s (inl h) (inr g) = absurd (no_fault frame addrs n (Some g.0) s g.1.front g.1.back r n g.1.is_front g.1.split h)
invalid_same frame addrs before n r q s (inr h) (inl g) = absurd (no_fault frame addrs n (Some h.0) s h.1.front h.1.back q n h.1.is_front h.1.split g)
invalid_same frame addrs before n r q s (inr h) (inr g) =
    let a = h.1 in
    let b = g.1 in
    let e : a.front ++ a.back ≡ b.front ++ b.back = sym a.split ∙ b.split in
    let d = same_operation frame addrs n (Some h.0) (Some g.0) a.front b.front a.back b.back a.is_front b.is_front e in
    let c = lengths a.front b.front a.back b.back e d.1 in
    let f : Some h.0 ≡ Some g.0 = d.0 in
    let same : h.0 ≡ g.0 = cc in
    let x : Breaks frame addrs before g.0 r (n + length b.front) b.back = subst (λ k. Breaks frame addrs before g.0 r (n + length b.front) k) d.1 (subst (λ i. Breaks frame addrs before g.0 r (n + i) a.back) c (subst (λ o. Breaks frame addrs before o r (n + length a.front) a.back) same a.is_back)) in
    breaks_same frame addrs before g.0 r q (n + length b.front) b.back x b.is_back

-- no fault stands before another
no_earlier : (frame : Frame) (addrs : Addresses) (m : ℕ) (short : List (Option Oper)) (k : List ℕ) (n : ℕ) (long : List (Option Oper)) (l : List ℕ) (r q : ℕ) → Longer frame addrs m short k n long l → IsInvalid frame addrs (done_by short) m k r
    → AreInOrder (done_by long) → ¬ Ends l → IsInvalid frame addrs (done_by long) n l q → ⊥
no_earlier frame addrs m short k n long l r q w h p g i =
    let a = is_last frame addrs m short k n long l r w h p.framed (λ o e. p.begin) in
    let at = m + length w.t in
    let count = a.ends.0 in
    let s = a.ends.1 in
    elim (compare_stands frame addrs at n (at + length s.front) w.more (replicate count None) w.u l s.front s.back w.stand s.is_front w.past refl s.split) [
      | inl v ↦ g (subst (λ z. Ends z) (sym v.1) s.is_back)
      | inr c ↦ elim c [
        | inl v ↦ no_invalid frame addrs (done_by long) n q l v.t (v.u ++ s.back) v.o (none_in count w.more v.o v.more v.is) v.spells v.bytes i
        | inr v ↦ none_at_end frame addrs (at + length s.front) v.o s.back v.t (v.u ++ l) s.is_back v.spells v.bytes
      ]
    ]

one_first : (frame : Frame) (addrs : Addresses) (old : Place) (rule other at spot : ℕ) → IsFaultAt frame addrs old rule at → IsFaultAt frame addrs old other spot → (rule ≡ other) × (at ≡ spot)
one_first frame addrs old rule other at spot a b =
    let e : a.front ++ a.back ≡ b.front ++ b.back = sym a.bytes ∙ b.bytes in
    elim (compare_stands frame addrs old.at at spot a.opers b.opers a.front a.back b.front b.back a.stand b.stand a.past b.past e) [
      | inl w ↦ (
          let d = lengths a.front b.front a.back b.back e w.1 in
          let z : at ≡ spot = omega (arith, a.past, b.past, d) in
          let i : IsInvalid frame addrs (done_by b.opers) spot b.back rule = subst (λ k. IsInvalid frame addrs (done_by b.opers) spot k rule) w.1 (subst (λ n. IsInvalid frame addrs (done_by b.opers) n a.back rule) z (subst (λ os. IsInvalid frame addrs (done_by os) at a.back rule) w.0 a.invalid)) in
          (invalid_same frame addrs (done_by b.opers) spot rule other b.back i b.invalid, z))
      | inr s ↦ elim s [
        | inl w ↦ absurd (no_earlier frame addrs at a.opers a.back spot b.opers b.back rule other w a.invalid b.before b.goes_on b.invalid)
        | inr w ↦ absurd (no_earlier frame addrs spot b.opers b.back at a.opers a.back other rule w b.invalid a.before a.goes_on a.invalid)
      ]
    ]

-- a place has no fault before its end
no_fault_before : (frame : Frame) (addrs : Addresses) (m : ℕ) (short : List (Option Oper)) (k : List ℕ) (n : ℕ) (long : List (Option Oper)) (l : List ℕ) (r : ℕ) (place : Simple) → Longer frame addrs m short k n long l → IsInvalid frame addrs (done_by short) m k r
    → AreFramed (done_by long) → SaidBy (done_by long) place → Ends l → ⊥
no_fault_before frame addrs m short k n long l r place w h f say ends =
    let a = is_last frame addrs m short k n long l r w h f (λ o e. subst (λ os. BeginPermitted os) (sym e) (said_begin (done_by short) o (done_by w.more) place (subst (λ os. SaidBy os place) e say))) in
    let at = m + length w.t in
    let count = a.ends.0 in
    let s = a.ends.1 in
    elim (compare_stands frame addrs at n (at + length s.front) w.more (replicate count None) w.u l s.front s.back w.stand s.is_front w.past refl s.split) [
      | inl v ↦ (
          let z : done_by w.more ≡ [] = ap (λ os. done_by os) v.0 ∙ none_done count in
          let e : done_by long ≡ done_by short ++ a.o ∷ [] = a.is ∙ ap (λ os. done_by short ++ a.o ∷ os) z in
          says_none (done_by short) a.o place (subst (λ os. SaidBy os place) e say) a.none)
      | inr c ↦ elim c [
        | inl v ↦ none_at_end frame addrs n v.o l v.t (v.u ++ s.back) ends v.spells v.bytes
        | inr v ↦ none_at_end frame addrs (at + length s.front) v.o s.back v.t (v.u ++ l) s.is_back v.spells v.bytes
      ]
    ]

no_place_and_fault : (frame : Frame) (addrs : Addresses) (old new : Place) (place : Simple) (rule at : ℕ) → TakesPlace frame addrs old new place → ¬ IsFaultAt frame addrs old rule at
no_place_and_fault frame addrs old new place rule at a b =
    elim (compare_stands frame addrs old.at new.at at a.opers b.opers a.spelling new.rest b.front b.back a.stand b.stand a.past b.past (sym a.bytes ∙ b.bytes)) [
      | inl w ↦ b.goes_on (subst (λ z. Ends z) w.1 a.ends)
      | inr s ↦ elim s [
        | inl w ↦ none_at_end frame addrs new.at w.o new.rest w.t (w.u ++ b.back) a.ends w.spells w.bytes
        | inr w ↦ no_fault_before frame addrs at b.opers b.back new.at a.opers new.rest rule place w b.invalid a.framed a.say a.ends
      ]
    ]

pub one_reading : (frame : Frame) (addrs : Addresses) (old : Place) → HasOneReading frame addrs old
one_reading frame addrs old = record {
  one_place = one_place frame addrs old;
  one_fault = one_first frame addrs old;
  never_both = no_place_and_fault frame addrs old;
}

-- what was written is read back

pub read_back : AreReadBack
read_back ops old new put frame addrs n rest place (Ok p) end h r g =
    let e = one_place frame addrs (record { at = n; rest = put.bytes ++ rest }) end (record { at = n + length put.bytes; rest = rest }) p place g.taken (put.says frame addrs n rest place h r) in
    inl (ap (λ q. Ok q) e.1, e.0)
read_back ops old new put frame addrs n rest place (Err (OpsErr.Refused offset rule)) end h r g =
    absurd (no_place_and_fault frame addrs (record { at = n; rest = put.bytes ++ rest }) (record { at = n + length put.bytes; rest = rest }) place rule offset (put.says frame addrs n rest place h r) g.refused)
read_back ops old new put frame addrs n rest place (Err OpsErr.Memory) end h r g = inr refl
