-- How the reading of a place goes on, operation by operation.
use Rattle.std.proofs.Common.{◌≡◌, ◌<◌, ℕ, zero, suc, ◌+◌, ◌==◌, Bool, true, false, map, Result, Ok, Err, IfOk, IfErr, List, [], ◌∷◌, ◌++◌, length, replicate, Option, Some, None, inl, inr, ◌⊎◌, refl, sym, ap, subst, ◌∙◌, arith, append-nil, append_assoc, length-append, add-zero}
use Rattle.std.specs.Bool.{Decides}
use Rattle.std.proofs.lemmas.Bool.Decides.{not_from_Decides}
use Rattle.std.proofs.lemmas.List.{map-append}
use Rattle.std.proofs.lemmas.List.Elements.{filter_map-append}
use Rattle.rv_bytes.specs.Places.{Place}
use Rattle.rv_bytes.specs.Forms.{Splits}
use Rattle.rv_bytes.specs.Reads.{Takes, IsRefusedBy}
use Rattle.rv_bytes.specs.declared.err.DwErr.{DwErr}
use Rattle.expr_eval.specs.Addresses.{Addresses}
use Rattle.expr_bytes.specs.Rules.{bad_order, no_frame}
use Rattle.expr_bytes.specs.Operations.{Oper, oper_of}
use Rattle.expr_bytes.specs.declared.operation.Operation.{Operation}
use Rattle.expr_bytes.specs.Operands.{operation}
use Rattle.expr_bytes.specs.Places.{SayPlace, ArePermitted, BeginPermitted}
use Rattle.expr_bytes.specs.Says.{AnswersPlace}
use Rattle.expr_bytes.specs.Runs.{Ends, StandAt, done_by, IsUnframed, AreFramed, TakesPlace, AreInOrder, IsInvalid, IsFaultAt}
use Rattle.expr_bytes.specs.declared.place.Frame.{Frame}
use Rattle.expr_bytes.specs.declared.place.Simple.{Simple}
use Rattle.expr_reader.specs.Nexts.{added, IsInOrder, last_by, GoesOn, IsRefusedAfter, SaidBy, IsRefusedLast, IsRefusedOf, OnlyNopTo, LastStands, HasRead}
use Rattle.expr_reader.proofs.Begins.{none_begin, front_begins, unframed_says}
use Rattle.expr_reader.proofs.Readings.{none_at_end}

-- one operation

-- what is out of order
pub order_refused : (frame : Frame) (addrs : Addresses) (before : List Oper) (old new : Place) (o : Oper) → Takes (operation frame addrs) old new (Some o) → ¬ BeginPermitted (before ++ o ∷ [])
    → IsInvalid frame addrs before old.at old.rest bad_order
order_refused frame addrs before old new o w n = inr (o, record { front = w.spelling; back = new.rest; split = w.bytes; is_front = w.spells; is_back = inl (inl n, refl) })

-- what is in order, and has no frame base
pub frame_refused : (frame : Frame) (addrs : Addresses) (before : List Oper) (old new : Place) (o : Oper) → Takes (operation frame addrs) old new (Some o) → BeginPermitted (before ++ o ∷ []) → IsUnframed o
    → IsInvalid frame addrs before old.at old.rest no_frame
frame_refused frame addrs before old new o w b u =
    inr (o, record { front = w.spelling; back = new.rest; split = w.bytes; is_front = w.spells; is_back = inr ((λ x. elim x [ inl n ↦ n b | inr e ↦ unframed_says before o u b e.1 ]), (u, refl)) })

-- what a call answers of an operation that was added to others

listed : (opers all slice : List Operation) (x : Operation) → slice ≡ all → all ≡ opers ++ x ∷ [] → map oper_of slice ≡ map oper_of opers ++ oper_of x ∷ []
listed opers all slice x e f = ap (λ l. map oper_of l) (e ∙ f) ∙ map-append oper_of opers (x ∷ [])

begins : (opers all slice : List Operation) (x : Operation) (b : Bool) → slice ≡ all → all ≡ opers ++ x ∷ [] → Decides b (BeginPermitted (map oper_of slice)) → Decides b (BeginPermitted (map oper_of opers ++ oper_of x ∷ []))
begins opers all slice x b e f d = subst (λ os. Decides b (BeginPermitted os)) (listed opers all slice x e f) d

pub order_answer : (frame : Frame) (addrs : Addresses) (old new : Place) (opers all slice : List Operation) (x : Operation) (b : Bool) (at : ℕ) (e : DwErr) → Takes (operation frame addrs) old new (Some (oper_of x)) → slice ≡ all
    → all ≡ opers ++ x ∷ [] → Decides b (BeginPermitted (map oper_of slice)) → b ≡ false → at ≡ old.at → e ≡ DwErr.Refused at bad_order → IsRefusedAfter frame addrs (map oper_of opers) old e
order_answer frame addrs old new opers all slice x b at e w p q d f i r =
    rw r (i, order_refused frame addrs (map oper_of opers) old new (oper_of x) w (not_from_Decides b (begins opers all slice x b p q d) f))

pub frame_answer : (frame : Frame) (addrs : Addresses) (old new : Place) (opers all slice : List Operation) (x : Operation) (b u : Bool) (at : ℕ) (e : DwErr) → Takes (operation frame addrs) old new (Some (oper_of x)) → slice ≡ all
    → all ≡ opers ++ x ∷ [] → Decides b (BeginPermitted (map oper_of slice)) → b ≡ true → Decides u (IsUnframed (oper_of x)) → u ≡ true → at ≡ old.at → e ≡ DwErr.Refused at no_frame
    → IsRefusedAfter frame addrs (map oper_of opers) old e
frame_answer frame addrs old new opers all slice x b u at e w p q d f v g i r =
    rw r (i, frame_refused frame addrs (map oper_of opers) old new (oper_of x) w ((begins opers all slice x b p q d).0 f) (v.0 g))

pub read_answer : (frame : Frame) (addrs : Addresses) (old new : Place) (opers all slice : List Operation) (x : Operation) (b u : Bool) (last at : ℕ) → Takes (operation frame addrs) old new (Some (oper_of x)) → slice ≡ all
    → all ≡ opers ++ x ∷ [] → Decides b (BeginPermitted (map oper_of slice)) → b ≡ true → Decides u (IsUnframed (oper_of x)) → u ≡ false → at ≡ old.at
    → GoesOn frame addrs old new (map oper_of opers) (map oper_of all) last at
read_answer frame addrs old new opers all slice x b u last at w p q d f v g i =
    record { oper = Some (oper_of x); takes = w; is_added = listed opers all all x refl q; told = i; in_order = ((begins opers all slice x b p q d).0 f, not_from_Decides u v g) }

-- operations one after the other

stand_push : (frame : Frame) (addrs : Addresses) (n : ℕ) (os : List (Option Oper)) (o : Option Oper) (t u : List ℕ) → StandAt frame addrs n os t
    → (operation frame addrs).spells (n + length t) o u → StandAt frame addrs n (os ++ o ∷ []) (t ++ u)
stand_push frame addrs n [] o t u h w =
    rw h (record { front = u; back = []; split = sym (append-nil u); is_front = subst (λ m. (operation frame addrs).spells m o u) (ap (λ l. n + length l) h ∙ add-zero n) w; is_back = refl })
stand_push frame addrs n (x ∷ os) o t u h w =
    let at : n + length t ≡ n + length h.front + length h.back = omega (arith, ap length h.split, length-append h.front h.back) in
    record {
      front = h.front;
      back = h.back ++ u;
      split = ap (λ l. l ++ u) h.split ∙ append_assoc h.front h.back u;
      is_front = h.is_front;
      is_back = stand_push frame addrs (n + length h.front) os o h.back u h.is_back (subst (λ m. (operation frame addrs).spells m o u) at w);
    }

-- one more of the same
same_push : {X : Type 0} (count : ℕ) (x : X) → replicate count x ++ x ∷ [] ≡ replicate (suc count) x
same_push zero x = refl
same_push (suc count) x = ap (λ xs. x ∷ xs) (same_push count x)

done_push : (all : List (Option Oper)) (v : Option Oper) → done_by (all ++ v ∷ []) ≡ done_by all ++ added v
done_push all None = filter_map-append (λ o. o) all (None ∷ [])
done_push all (Some o) = filter_map-append (λ o. o) all (Some o ∷ [])

framed_push : (xs : List Oper) (y : Oper) → AreFramed xs → ¬ IsUnframed y → AreFramed (xs ++ y ∷ [])
framed_push [] y f n [] after o e h = let q : y ≡ o = cc in n (subst IsUnframed (sym q) h)
framed_push [] y f n (b ∷ []) after o e h = cc
framed_push [] y f n (b ∷ c ∷ before) after o e h = cc
framed_push (x ∷ xs) y f n [] after o e h = let q : x ≡ o = cc in f [] xs x refl (subst IsUnframed (sym q) h)
framed_push (x ∷ xs) y f n (b ∷ before) after o e h =
    let q : xs ++ y ∷ [] ≡ before ++ o ∷ after = cc in
    framed_push xs y (λ c d p r. f (x ∷ c) d p (ap (λ l. x ∷ l) r)) n before after o q h

framed_front : (xs ys : List Oper) → AreFramed (xs ++ ys) → AreFramed xs
framed_front xs ys f before after o e = f before (after ++ ys) o (ap (λ l. l ++ ys) e ∙ append_assoc before (o ∷ after) ys)

order_front : (xs ys : List Oper) → AreInOrder (xs ++ ys) → AreInOrder xs
order_front xs ys a = record { framed = framed_front xs ys a.framed; begin = front_begins xs ys a.begin }

order_push : (before : List Oper) (v : Option Oper) → AreInOrder before → IsInOrder before v → AreInOrder (before ++ added v)
order_push before None a i = subst AreInOrder (sym (append-nil before)) a
order_push before (Some o) a i = record { framed = framed_push before o a.framed i.1; begin = i.0 }

-- at first nothing is read
no_frames : AreFramed []
no_frames [] after o e = cc
no_frames (b ∷ before) after o e = cc

pub none_read : (frame : Frame) (addrs : Addresses) (old : Place) (last : ℕ) → HasRead frame addrs old old [] last
none_read frame addrs old last = record {
  all = [];
  spelling = [];
  stand = refl;
  bytes = refl;
  past = sym (add-zero old.at);
  listed = refl;
  in_order = record { framed = no_frames; begin = none_begin };
  last_stands = inl refl;
}

-- the last operation that does something stands where it stood, or it is this one
last_then : (frame : Frame) (addrs : Addresses) (old mid new : Place) (opers after : List Oper) (last now_last : ℕ) (h : HasRead frame addrs old mid opers last) (v : Option Oper) → Takes (operation frame addrs) mid new v
    → after ≡ opers ++ added v → now_last ≡ last_by v last mid.at → (after ≡ []) ⊎ LastStands frame addrs old new after now_last
last_then frame addrs old mid new opers after last now_last h None w e p = elim h.last_stands [
  | inl x ↦ inl (e ∙ append-nil opers ∙ x)
  | inr l ↦ (
      let s = l.then_nop in
      let k = s.is_back in
      let r = k.1 in
      let at : mid.at ≡ last + length s.front + length r.front = omega (arith, h.past, l.past, ap length h.bytes, ap length l.bytes, ap length s.split, ap length r.split, ap length r.is_back, length-append h.spelling mid.rest, length-append l.front l.back, length-append s.front s.back, length-append r.front r.back) in
      inr (record {
        before = l.before;
        o = l.o;
        front = l.front;
        back = l.back;
        stand = l.stand;
        bytes = l.bytes;
        past = p ∙ l.past;
        listed = e ∙ append-nil opers ∙ l.listed;
        then_nop = subst (λ z. Splits ((operation frame addrs).spells z (Some l.o)) (OnlyNopTo frame addrs new) z l.back) (sym p) (record {
          front = s.front;
          back = s.back;
          split = s.split;
          is_front = s.is_front;
          is_back = (
            suc k.0,
            record {
              front = r.front ++ w.spelling;
              back = new.rest;
              split = r.split ∙ ap (λ z. r.front ++ z) (r.is_back ∙ w.bytes) ∙ sym (append_assoc r.front w.spelling new.rest);
              is_front = subst (λ os. StandAt frame addrs (last + length s.front) os (r.front ++ w.spelling)) (same_push {X = Option Oper} k.0 None) (stand_push frame addrs (last + length s.front) (replicate k.0 None) None r.front w.spelling r.is_front (subst (λ n. (operation frame addrs).spells n None w.spelling) at w.spells));
              is_back = refl;
            },
          );
        });
      }))
]
last_then frame addrs old mid new opers after last now_last h (Some o) w e p = inr (record {
  before = h.all;
  o = o;
  front = h.spelling;
  back = mid.rest;
  stand = h.stand;
  bytes = h.bytes;
  past = p ∙ h.past;
  listed = e ∙ ap (λ os. os ++ o ∷ []) h.listed;
  then_nop = record { front = w.spelling; back = new.rest; split = w.bytes; is_front = subst (λ n. (operation frame addrs).spells n (Some o) w.spelling) (sym p) w.spells; is_back = (0, record { front = []; back = new.rest; split = refl; is_front = refl; is_back = refl }) };
})

pub one_more : (frame : Frame) (addrs : Addresses) (old mid new : Place) (opers after : List Oper) (last now_last : ℕ) → HasRead frame addrs old mid opers last → GoesOn frame addrs mid new opers after last now_last
    → HasRead frame addrs old new after now_last
one_more frame addrs old mid new opers after last now_last h g = record {
  all = h.all ++ g.oper ∷ [];
  spelling = h.spelling ++ g.takes.spelling;
  stand = stand_push frame addrs old.at h.all g.oper h.spelling g.takes.spelling h.stand (subst (λ n. (operation frame addrs).spells n g.oper g.takes.spelling) h.past g.takes.spells);
  bytes = h.bytes ∙ ap (λ r. h.spelling ++ r) g.takes.bytes ∙ sym (append_assoc h.spelling g.takes.spelling new.rest);
  past = omega (arith, g.takes.past, h.past, length-append h.spelling g.takes.spelling);
  listed = g.is_added ∙ ap (λ os. os ++ added g.oper) h.listed ∙ sym (done_push h.all g.oper);
  in_order = subst AreInOrder (sym g.is_added) (order_push opers g.oper h.in_order g.in_order);
  last_stands = last_then frame addrs old mid new opers after last now_last h g.oper g.takes g.is_added g.told;
}

-- the end

pub place_taken : (frame : Frame) (addrs : Addresses) (old new : Place) (opers : List Oper) (last : ℕ) (place : Simple) → HasRead frame addrs old new opers last → Ends new.rest → SaidBy opers place → TakesPlace frame addrs old new place
place_taken frame addrs old new opers last place h e s = record {
  opers = h.all;
  spelling = h.spelling;
  stand = h.stand;
  bytes = h.bytes;
  past = h.past;
  ends = e;
  framed = subst (λ os. AreFramed os) h.listed h.in_order.framed;
  say = subst (λ os. SaidBy os place) h.listed s;
}

-- the refusal of an operation after others
pub next_fault : (frame : Frame) (addrs : Addresses) (old mid : Place) (opers : List Oper) (last : ℕ) (e : DwErr) → HasRead frame addrs old mid opers last → ¬ Ends mid.rest → IsRefusedAfter frame addrs opers mid e → IsRefusedOf frame addrs old e
next_fault frame addrs old mid opers last (DwErr.Refused offset rule) h g r = record {
  opers = h.all;
  front = h.spelling;
  back = mid.rest;
  stand = h.stand;
  bytes = h.bytes;
  past = r.0 ∙ h.past;
  goes_on = g;
  before = subst AreInOrder h.listed h.in_order;
  invalid = subst (λ at. IsInvalid frame addrs (done_by h.all) at mid.rest rule) (sym r.0) (subst (λ os. IsInvalid frame addrs os mid.at mid.rest rule) h.listed r.1);
}
next_fault frame addrs old mid opers last DwErr.Memory h g r = tt

-- the last operation, where they say no place
last_invalid : (frame : Frame) (addrs : Addresses) (old new : Place) (opers : List Oper) (last : ℕ) → LastStands frame addrs old new opers last → AreInOrder opers → Ends new.rest → ¬ ArePermitted opers → IsFaultAt frame addrs old bad_order last
last_invalid frame addrs old new opers last l a e n =
    let s = l.then_nop in
    let r = s.is_back.1 in
    record {
      opers = l.before;
      front = l.front;
      back = l.back;
      stand = l.stand;
      bytes = l.bytes;
      past = l.past;
      goes_on = λ x. none_at_end frame addrs last (Some l.o) l.back s.front s.back x s.is_front s.split;
      before = order_front (done_by l.before) (l.o ∷ []) (subst AreInOrder l.listed a);
      invalid = inr (
        l.o,
        record {
          front = s.front;
          back = s.back;
          split = s.split;
          is_front = s.is_front;
          is_back = inl (inr ((s.is_back.0, record { front = r.front; back = r.back; split = r.split; is_front = r.is_front; is_back = subst (λ z. Ends z) (sym r.is_back) e }), subst (λ os. ¬ ArePermitted os) l.listed n), refl);
        },
      );
    }

pub last_fault : (frame : Frame) (addrs : Addresses) (old new : Place) (opers : List Oper) (last : ℕ) (e : DwErr) → HasRead frame addrs old new opers last → Ends new.rest → IsRefusedLast opers last e → IsRefusedOf frame addrs old e
last_fault frame addrs old new opers last (DwErr.Refused offset rule) h e r = elim h.last_stands [
  | inl x ↦ absurd (r.1.1.0 x)
  | inr l ↦ subst (λ at. IsFaultAt frame addrs old rule at) (sym r.0) (subst (λ k. IsFaultAt frame addrs old k last) (sym r.1.0) (last_invalid frame addrs old new opers last l h.in_order e r.1.1.1))
]
last_fault frame addrs old new opers last DwErr.Memory h e r = tt

-- what the call answers at the end

pub end_taken : (frame : Frame) (addrs : Addresses) (old new : Place) (opers slice : List Operation) (last : ℕ) (r : Result Simple DwErr) → HasRead frame addrs old new (map oper_of opers) last → Ends new.rest → slice ≡ opers
    → IfOk r (SaidBy (map oper_of slice)) → IfOk r (TakesPlace frame addrs old new)
end_taken frame addrs old new opers slice last (Ok place) h e q s = place_taken frame addrs old new (map oper_of opers) last place h e (subst (λ l. SaidBy (map oper_of l) place) q s)
end_taken frame addrs old new opers slice last (Err f) h e q s = tt

pub end_refused : (frame : Frame) (addrs : Addresses) (old new : Place) (opers slice : List Operation) (last : ℕ) (r : Result Simple DwErr) → HasRead frame addrs old new (map oper_of opers) last → Ends new.rest → slice ≡ opers
    → IfErr r (IsRefusedLast (map oper_of slice) last) → IfErr r (IsRefusedOf frame addrs old)
end_refused frame addrs old new opers slice last (Ok place) h e q s = tt
end_refused frame addrs old new opers slice last (Err f) h e q s = last_fault frame addrs old new (map oper_of opers) last f h e (subst (λ l. IsRefusedLast (map oper_of l) last f) q s)

pub last_answer : (opers : List Operation) (last : ℕ) (place : Option Simple) (e : DwErr) → false ≡ (length opers == 0) → AnswersPlace (SayPlace (map oper_of opers)) place → place ≡ None → e ≡ DwErr.Refused last bad_order
    → IsRefusedLast (map oper_of opers) last e
last_answer [] last place e h s n r = cc
last_answer (x ∷ opers) last place e h s n r =
    let m = subst (λ p. AnswersPlace (SayPlace (map oper_of (x ∷ opers))) p) n s in
    rw r (refl, (refl, ((λ q. cc), (λ w. m w.0 w.1))))
