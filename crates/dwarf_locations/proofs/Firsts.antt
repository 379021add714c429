-- The first operation that does something, after those that do nothing.
use Rattle.std.proofs.Common.{◌≡◌, ◌<◌, ℕ, zero, suc, ◌+◌, List, [], ◌∷◌, ◌++◌, length, replicate, Option, Some, None, inl, inr, ◌⊎◌, refl, sym, ap, subst, ◌∙◌, arith, append_assoc, length-append, add-zero}
use Rattle.rv_bytes.specs.Places.{Place}
use Rattle.rv_bytes.specs.Forms.{Splits}
use Rattle.rv_bytes.specs.Reads.{Takes}
use Rattle.rv_bytes.proofs.Exact.{one_value, never_both}
use Rattle.expr_eval.specs.Addresses.{Addresses}
use Rattle.expr_bytes.specs.Operations.{Oper}
use Rattle.expr_bytes.specs.Operands.{operation}
use Rattle.expr_bytes.specs.Places.{IsAlone, SayPlace}
use Rattle.expr_bytes.specs.Readers.{read_operation}
use Rattle.expr_bytes.specs.Runs.{Ends, StandAt, TakesPlace, done_by}
use Rattle.expr_bytes.specs.declared.place.Frame.{Frame}
use Rattle.expr_bytes.specs.declared.place.Simple.{Simple}
use Rattle.expr_bytes.proofs.OperandsExact.{operation_exact}
use Rattle.expr_reader.proofs.Readings.{none_at_end}
use Rattle.dwarf_locations.specs.Expressions.{StandsFirst}
use Rattle.dwarf_locations.specs.Steps.{StandsNone}

-- the place after some bytes of it
abbrev pub after : Place → List ℕ → List ℕ → Place
after old t k = record { at = old.at + length t; rest = k }

-- places with the same bytes before and after them
pub same_places : (old m n : Place) (t u : List ℕ) → old.rest ≡ t ++ m.rest → old.rest ≡ u ++ n.rest → m.at ≡ old.at + length t → n.at ≡ old.at + length u → m.rest ≡ n.rest → m ≡ n
same_places old m n t u b d p q e =
    let z : m.at ≡ n.at = omega (arith, p, q, ap length b, ap length d, ap length e, length-append t m.rest, length-append u n.rest) in
    ap (λ at. record { at = at; rest = m.rest }) z ∙ ap (λ rest. record { at = n.at; rest = rest }) e

-- one operation stands at a place, up to one place
pub takes_same : (frame : Frame) (addrs : Addresses) (old m n : Place) (v w : Option Oper) → Takes (operation frame addrs) old m v → Takes (operation frame addrs) old n w → (v ≡ w) × (m ≡ n)
takes_same frame addrs old m n v w a b =
    let e = one_value (operation frame addrs) (read_operation frame addrs) (operation_exact frame addrs) old.at v w a.spelling b.spelling m.rest n.rest a.spells b.spells (sym a.bytes ∙ b.bytes) in
    (e.0, same_places old m n a.spelling b.spelling a.bytes b.bytes a.past b.past e.1)

-- and has a byte
pub operation_shorter : (frame : Frame) (addrs : Addresses) (old new : Place) (v : Option Oper) → Takes (operation frame addrs) old new v → length new.rest < length old.rest
operation_shorter frame addrs old new v w =
    let s = w.spells.0.1 in
    omega (arith, ap length w.bytes, length-append w.spelling new.rest, ap length s.split, length-append s.front s.back, s.is_front.1.1.1)

-- after so many operations that do nothing one stands that does something
abbrev pub FirstBy : Frame → Addresses → ℕ → Place → ℕ → Type 0
FirstBy frame addrs zero old at = (at ≡ old.at) × ((o : Oper) × ((new : Place) × Takes (operation frame addrs) old new (Some o)))
FirstBy frame addrs (suc count) old at = (new : Place) × (Takes (operation frame addrs) old new None × FirstBy frame addrs count new at)

-- the same in the words of definitions
abbrev Rest : Frame → Addresses → Oper → ℕ → ℕ → List ℕ → Type 0
Rest frame addrs o at n rest = (n ≡ at) × Splits ((operation frame addrs).spells n (Some o)) (λ _ _. Unit {0}) n rest

first_is : (frame : Frame) (addrs : Addresses) (count : ℕ) (o : Oper) (old : Place) (at : ℕ) → Splits (StandAt frame addrs old.at (replicate count None)) (Rest frame addrs o at) old.at old.rest → FirstBy frame addrs count old at
first_is frame addrs zero o old at s =
    let e : old.at + length s.front ≡ old.at = omega (arith, ap length s.is_front) in
    let b : s.back ≡ old.rest = ap (λ z. z ++ s.back) (sym s.is_front) ∙ sym s.split in
    let r : Rest frame addrs o at old.at old.rest = subst (λ k. Rest frame addrs o at old.at k) b (subst (λ n. Rest frame addrs o at n s.back) e s.is_back) in
    (sym r.0, (o, (after old r.1.front r.1.back, record { spelling = r.1.front; spells = r.1.is_front; bytes = r.1.split; past = refl })))
first_is frame addrs (suc count) o old at s =
    let p = s.is_front in
    let new = after old p.front (p.back ++ s.back) in
    let e : old.at + length s.front ≡ new.at + length p.back = omega (arith, ap length p.split, length-append p.front p.back) in (
      new,
      (
        record { spelling = p.front; spells = p.is_front; bytes = s.split ∙ ap (λ z. z ++ s.back) p.split ∙ append_assoc p.front p.back s.back; past = refl },
        first_is frame addrs count o new at (record { front = p.back; back = s.back; split = refl; is_front = p.is_back; is_back = subst (λ n. Rest frame addrs o at n s.back) e s.is_back }),
      ),
    )

pub first_by : (frame : Frame) (addrs : Addresses) (old : Place) (at : ℕ) → (f : StandsFirst frame addrs old at) → FirstBy frame addrs f.count old at
first_by frame addrs old at f = first_is frame addrs f.count f.o old at f.stands

pub stands_by : (frame : Frame) (addrs : Addresses) (count : ℕ) (old : Place) (at : ℕ) → FirstBy frame addrs count old at → StandsFirst frame addrs old at
stands_by frame addrs zero old at f =
    let w = f.1.1.1 in
    record {
      count = 0;
      o = f.1.0;
      stands = record {
        front = [];
        back = old.rest;
        split = refl;
        is_front = refl;
        is_back = (add-zero old.at ∙ sym f.0, record { front = w.spelling; back = f.1.1.0.rest; split = w.bytes; is_front = subst (λ n. (operation frame addrs).spells n (Some f.1.0) w.spelling) (sym (add-zero old.at)) w.spells; is_back = tt });
      };
    }
stands_by frame addrs (suc count) old at f =
    let new = f.0 in
    let w = f.1.0 in
    let g = stands_by frame addrs count new at f.1.1 in
    let s = g.stands in
    let e : new.at + length s.front ≡ old.at + length (w.spelling ++ s.front) = omega (arith, w.past, length-append w.spelling s.front) in
    record {
      count = suc g.count;
      o = g.o;
      stands = record {
        front = w.spelling ++ s.front;
        back = s.back;
        split = w.bytes ∙ ap (λ z. w.spelling ++ z) s.split ∙ sym (append_assoc w.spelling s.front s.back);
        is_front = record { front = w.spelling; back = s.front; split = refl; is_front = w.spells; is_back = subst (λ n. StandAt frame addrs n (replicate g.count None) s.front) w.past s.is_front };
        is_back = subst (λ n. Rest frame addrs g.o at n s.back) e s.is_back;
      };
    }

-- it stands at one place
first_same : (frame : Frame) (addrs : Addresses) (a b : ℕ) (old : Place) (at spot : ℕ) → FirstBy frame addrs a old at → FirstBy frame addrs b old spot → at ≡ spot
first_same frame addrs zero zero old at spot f g = f.0 ∙ sym g.0
first_same frame addrs zero (suc b) old at spot f g = let e = (takes_same frame addrs old f.1.1.0 g.0 (Some f.1.0) None f.1.1.1 g.1.0).0 in cc
first_same frame addrs (suc a) zero old at spot f g = let e = (takes_same frame addrs old f.0 g.1.1.0 None (Some g.1.0) f.1.0 g.1.1.1).0 in cc
first_same frame addrs (suc a) (suc b) old at spot f g =
    let e = (takes_same frame addrs old f.0 g.0 None None f.1.0 g.1.0).1 in
    first_same frame addrs a b g.0 at spot (subst (λ p. FirstBy frame addrs a p at) e f.1.1) g.1.1

pub one_first : (frame : Frame) (addrs : Addresses) (old : Place) (at spot : ℕ) → StandsFirst frame addrs old at → StandsFirst frame addrs old spot → at ≡ spot
one_first frame addrs old at spot f g = first_same frame addrs f.count g.count old at spot (first_by frame addrs old at f) (first_by frame addrs old spot g)

-- where an operation does something it is the first
pub is_first : (frame : Frame) (addrs : Addresses) (old new : Place) (o : Oper) → Takes (operation frame addrs) old new (Some o) → StandsFirst frame addrs old old.at
is_first frame addrs old new o w = stands_by frame addrs 0 old old.at (refl, (o, (new, w)))

-- where it does nothing, it is the first after it
pub first_after : (frame : Frame) (addrs : Addresses) (old new : Place) (at : ℕ) → Takes (operation frame addrs) old new None → StandsFirst frame addrs new at → StandsFirst frame addrs old at
first_after frame addrs old new at w f = stands_by frame addrs (suc f.count) old at (new, (w, first_by frame addrs new at f))

first_before : (frame : Frame) (addrs : Addresses) (count : ℕ) (old new : Place) (at : ℕ) → Takes (operation frame addrs) old new None → FirstBy frame addrs count old at → StandsFirst frame addrs new at
first_before frame addrs zero old new at w f = let e = (takes_same frame addrs old new f.1.1.0 None (Some f.1.0) w f.1.1.1).0 in cc
first_before frame addrs (suc count) old new at w f =
    let e = (takes_same frame addrs old new f.0 None None w f.1.0).1 in
    stands_by frame addrs count new at (subst (λ p. FirstBy frame addrs count p at) (sym e) f.1.1)

pub none_after : (frame : Frame) (addrs : Addresses) (old new : Place) → Takes (operation frame addrs) old new None → StandsNone frame addrs new → StandsNone frame addrs old
none_after frame addrs old new w n at f = n at (first_before frame addrs f.count old new at w (first_by frame addrs old at f))

pub none_before : (frame : Frame) (addrs : Addresses) (old new : Place) → Takes (operation frame addrs) old new None → StandsNone frame addrs old → StandsNone frame addrs new
none_before frame addrs old new w n at f = n at (first_after frame addrs old new at w f)

-- where what stands is no operation, none is the first
some_stands : (frame : Frame) (addrs : Addresses) (count : ℕ) (old : Place) (at : ℕ) → FirstBy frame addrs count old at → (v : Option Oper) × ((new : Place) × Takes (operation frame addrs) old new v)
some_stands frame addrs zero old at f = (Some f.1.0, (f.1.1.0, f.1.1.1))
some_stands frame addrs (suc count) old at f = (None, (f.0, f.1.0))

pub none_by_fault : (frame : Frame) (addrs : Addresses) (old : Place) (rule m : ℕ) → (operation frame addrs).faults old.at old.rest rule m → StandsNone frame addrs old
none_by_fault frame addrs old rule m h at f =
    let s = some_stands frame addrs f.count old at (first_by frame addrs old at f) in
    let w = s.1.1 in
    never_both (operation frame addrs) (read_operation frame addrs) (operation_exact frame addrs) old.at s.0 w.spelling s.1.0.rest rule m w.spells (subst (λ k. (operation frame addrs).faults old.at k rule m) w.bytes h)

-- so it is where a place ends
none_by_end : (frame : Frame) (addrs : Addresses) (old : Place) → Ends old.rest → StandsNone frame addrs old
none_by_end frame addrs old e at f =
    let s = some_stands frame addrs f.count old at (first_by frame addrs old at f) in
    none_at_end frame addrs old.at s.0 old.rest s.1.1.spelling s.1.0.rest e s.1.1.spells s.1.1.bytes

-- operations that stand up to an end do nothing exactly where none is the first that does something

split_takes : (frame : Frame) (addrs : Addresses) (old : Place) (o : Option Oper) (more : List (Option Oper)) (t k : List ℕ) → old.rest ≡ t ++ k → (s : Splits ((operation frame addrs).spells old.at o) (λ m u. StandAt frame addrs m more u) old.at t)
    → Takes (operation frame addrs) old (after old s.front (s.back ++ k)) o
split_takes frame addrs old o more t k e s = record { spelling = s.front; spells = s.is_front; bytes = e ∙ ap (λ z. z ++ k) s.split ∙ append_assoc s.front s.back k; past = refl }

none_done : (frame : Frame) (addrs : Addresses) (old : Place) (opers : List (Option Oper)) (t k : List ℕ) → StandAt frame addrs old.at opers t → old.rest ≡ t ++ k → StandsNone frame addrs old → done_by opers ≡ []
none_done frame addrs old [] t k s e n = refl
none_done frame addrs old (None ∷ opers) t k s e n =
    let w = split_takes frame addrs old None opers t k e s in
    none_done frame addrs (after old s.front (s.back ++ k)) opers s.back k s.is_back refl (none_before frame addrs old (after old s.front (s.back ++ k)) w n)
none_done frame addrs old (Some o ∷ opers) t k s e n =
    let w = split_takes frame addrs old (Some o) opers t k e s in
    absurd (n old.at (is_first frame addrs old (after old s.front (s.back ++ k)) o w))

done_none : (frame : Frame) (addrs : Addresses) (old : Place) (opers : List (Option Oper)) (t k : List ℕ) → StandAt frame addrs old.at opers t → old.rest ≡ t ++ k → Ends k → done_by opers ≡ [] → StandsNone frame addrs old
done_none frame addrs old [] t k s e x d = none_by_end frame addrs old (subst (λ z. Ends z) (sym (e ∙ ap (λ z. z ++ k) s)) x)
done_none frame addrs old (None ∷ opers) t k s e x d =
    let w = split_takes frame addrs old None opers t k e s in
    let new = after old s.front (s.back ++ k) in
    none_after frame addrs old new w (done_none frame addrs new opers s.back k s.is_back refl x d)
done_none frame addrs old (Some o ∷ opers) t k s e x d = cc

-- no operations that are some say the empty place
alone_empty : (o : Oper) → IsAlone o Simple.Empty → ⊥
alone_empty (Oper.Machine o) h = h
alone_empty (Oper.Address a) h = cc
alone_empty (Oper.Register reg) h = cc
alone_empty (Oper.Based reg z) h = let e = h.1 in cc
alone_empty (Oper.CfaBased z) h = h
alone_empty (Oper.Unframed z) h = let e = h.1 in cc
alone_empty (Oper.Value b) h = cc

no_empty : (opers : List Oper) → SayPlace opers Simple.Empty → ⊥
no_empty opers (inl h) = alone_empty h.0 h.1.1
no_empty opers (inr a) = let e = a.is in cc

-- where none is first, the operations say no place
pub empty_by_none : (frame : Frame) (addrs : Addresses) (old new : Place) (said : Simple) → TakesPlace frame addrs old new said → StandsNone frame addrs old → TakesPlace frame addrs old new Simple.Empty
empty_by_none frame addrs old new said w n = record {
  opers = w.opers;
  spelling = w.spelling;
  stand = w.stand;
  bytes = w.bytes;
  past = w.past;
  ends = w.ends;
  framed = w.framed;
  say = inl (none_done frame addrs old w.opers w.spelling new.rest w.stand w.bytes n, refl);
}

-- where they say the empty place, none is first
pub none_by_empty : (frame : Frame) (addrs : Addresses) (old new : Place) → TakesPlace frame addrs old new Simple.Empty → StandsNone frame addrs old
none_by_empty frame addrs old new w =
    done_none frame addrs old w.opers w.spelling new.rest w.stand w.bytes w.ends (elim w.say [ inl h ↦ h.0 | inr s ↦ absurd (no_empty (done_by w.opers) s) ])

-- of operations up to an end one is the first that does something, or none
abbrev FirstOrNone : Frame → Addresses → Place → Type 0
FirstOrNone frame addrs old = ((at : ℕ) × StandsFirst frame addrs old at) ⊎ StandsNone frame addrs old

first_in : (frame : Frame) (addrs : Addresses) (old : Place) (opers : List (Option Oper)) (t k : List ℕ) → StandAt frame addrs old.at opers t → old.rest ≡ t ++ k → Ends k → FirstOrNone frame addrs old
first_in frame addrs old [] t k s e x = inr (done_none frame addrs old [] t k s e x refl)
first_in frame addrs old (Some o ∷ opers) t k s e x = inl (old.at, is_first frame addrs old (after old s.front (s.back ++ k)) o (split_takes frame addrs old (Some o) opers t k e s))
first_in frame addrs old (None ∷ opers) t k s e x =
    let w = split_takes frame addrs old None opers t k e s in
    let new = after old s.front (s.back ++ k) in
    elim (first_in frame addrs new opers s.back k s.is_back refl x) [
      | inl f ↦ inl (f.0, first_after frame addrs old new f.0 w f.1)
      | inr n ↦ inr (none_after frame addrs old new w n)
    ]

pub first_or_none : (frame : Frame) (addrs : Addresses) (old new : Place) (said : Simple) → TakesPlace frame addrs old new said → FirstOrNone frame addrs old
first_or_none frame addrs old new said w = first_in frame addrs old w.opers w.spelling new.rest w.stand w.bytes w.ends
