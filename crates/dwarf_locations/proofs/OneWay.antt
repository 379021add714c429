-- Expressions are read in one way, and lists of them too.
use Rattle.std.proofs.Common.{◌≡◌, ◌≢◌, ℕ, ◌+◌, false, List, [], ◌∷◌, ◌++◌, length, Option, Some, None, filter, inl, inr, ◌⊎◌, refl, sym, ap, subst, ◌∙◌, arith, option_map}
use Rattle.rv_bytes.specs.Forms.{IsDefinite, row}
use Rattle.rv_bytes.specs.Places.{Place}
use Rattle.rv_bytes.specs.Reads.{Takes}
use Rattle.rv_bytes.specs.Rules.{outside}
use Rattle.rv_bytes.specs.Sections.{HasOneAnswer}
use Rattle.rv_bytes.proofs.Exact.{definite, never_both, one_fault, one_value}
use Rattle.rv_bytes.proofs.Sections.{one_answer}
use Rattle.expr_eval.specs.Addresses.{Addresses}
use Rattle.expr_bytes.specs.Runs.{IsFaultAt, TakesPlace}
use Rattle.expr_bytes.specs.declared.place.Frame.{Frame}
use Rattle.expr_bytes.specs.declared.place.Simple.{Simple}
use Rattle.expr_reader.proofs.Readings.{one_reading}
use Rattle.layout_set.specs.declared.func.Loc.{Loc}
use Rattle.layout_set.specs.declared.func.Loc.TheVariants as locs
use Rattle.layout_set.specs.declared.func.Piece.{Piece}
use Rattle.dwarf_list_entries.specs.Locations.{Bytes, Located, location_entry}
use Rattle.dwarf_list_entries.specs.Readers.{read_location_entry}
use Rattle.dwarf_list_entries.proofs.EntriesExact.{location_entry_exact}
use Rattle.dwarf_locations.specs.Expressions.{start, BreakAt, IsBadSize, IsLeftOver, SayLocation, SayPieces, SayWhole}
use Rattle.dwarf_locations.specs.Laws.{HasOneReading}
use Rattle.dwarf_locations.specs.Lists.{BreakIn, Said, SayOf, entries, location_list, said_entries, said_entry, says}
use Rattle.dwarf_locations.specs.Pieces.{TakePieces, TakesPiece, has_bytes, piece_size}
use Rattle.dwarf_locations.specs.Places.{place_of}
use Rattle.dwarf_locations.specs.Steps.{read_piece_size}
use Rattle.dwarf_locations.proofs.Definite.{follow_definite, made_definite, row_definite}
use Rattle.dwarf_locations.proofs.Firsts.{none_by_empty, one_first, same_places}
use Rattle.dwarf_locations.proofs.Sizes.{size_exact, size_shorter}

-- one place stands at a place, up to one place

place_same : (frame : Frame) (addrs : Addresses) (old m n : Place) (p q : Simple) → TakesPlace frame addrs old m p → TakesPlace frame addrs old n q → (m ≡ n) × (p ≡ q)
place_same frame addrs old m n p q a b = (one_reading frame addrs old).one_place m n p q a b

size_same : (old m n : Place) (a b : ℕ) → Takes piece_size old m a → Takes piece_size old n b → (a ≡ b) × (m ≡ n)
size_same old m n a b h g =
    let e = one_value piece_size read_piece_size size_exact old.at a b h.spelling g.spelling m.rest n.rest h.spells g.spells (sym h.bytes ∙ g.bytes) in
    (e.0, same_places old m n h.spelling g.spelling h.bytes g.bytes h.past g.past e.1)

pieces_equal : (p q : Piece) → p.size ≡ q.size → p.place ≡ q.place → p ≡ q
pieces_equal p q e f = ap (λ n. record { size = n; place = p.place }) e ∙ ap (λ o. record { size = q.size; place = o }) f

piece_same : (frame : Frame) (addrs : Addresses) (old m n : Place) (p q : Piece) → TakesPiece frame addrs old m p → TakesPiece frame addrs old n q → (p ≡ q) × (m ≡ n)
piece_same frame addrs old m n p q a b =
    let e = place_same frame addrs old a.mid b.mid a.said b.said a.taken b.taken in
    let s = size_same b.mid m n p.size q.size (subst (λ x. Takes piece_size x m p.size) e.0 a.size) b.size in
    (pieces_equal p q s.0 (a.place ∙ ap place_of e.1 ∙ sym b.place), s.1)

-- Where no piece stands pieces end.
abbrev Stops : Frame → Addresses → Place → Type 0
Stops frame addrs p = (n : Place) (piece : Piece) → ¬ TakesPiece frame addrs p n piece

pieces_same : (frame : Frame) (addrs : Addresses) (old m n : Place) (ps qs : List Piece) → TakePieces frame addrs old m ps → Stops frame addrs m → TakePieces frame addrs old n qs → Stops frame addrs n → (ps ≡ qs) × (m ≡ n)
pieces_same frame addrs old m n [] [] t a u b = (refl, t ∙ sym u)
pieces_same frame addrs old m n [] (q ∷ qs) t a u b = absurd (a u.0 q (subst (λ x. TakesPiece frame addrs x u.0 q) (sym t) u.1.0))
pieces_same frame addrs old m n (p ∷ ps) [] t a u b = absurd (b t.0 p (subst (λ x. TakesPiece frame addrs x t.0 p) (sym u) t.1.0))
pieces_same frame addrs old m n (p ∷ ps) (q ∷ qs) t a u b =
    let e = piece_same frame addrs old t.0 u.0 p q t.1.0 u.1.0 in
    let r = pieces_same frame addrs u.0 m n ps qs (subst (λ x. TakePieces frame addrs x m ps) e.1 t.1.1) a u.1.1 b in
    (ap (λ x. x ∷ ps) e.0 ∙ ap (λ xs. q ∷ xs) r.0, r.1)

-- none stands before the end
end_stops : (frame : Frame) (addrs : Addresses) (p end : Place) (said : Simple) → TakesPlace frame addrs p end said → end.rest ≡ [] → Stops frame addrs p
end_stops frame addrs p end said h a n piece t =
    let e = place_same frame addrs p t.mid end t.said said t.taken h in
    let s = size_shorter t.mid n piece.size t.size in
    omega (arith, s, ap (λ (x : Place). length x.rest) e.0, ap length a)

-- nor where an operation breaks a rule
fault_stops : (frame : Frame) (addrs : Addresses) (p : Place) (rule at : ℕ) → IsFaultAt frame addrs p rule at → Stops frame addrs p
fault_stops frame addrs p rule at h n piece t = (one_reading frame addrs p).never_both t.mid t.said rule at t.taken h

-- nor where its size is invalid
size_stops : (frame : Frame) (addrs : Addresses) (p : Place) (rule at : ℕ) → IsBadSize frame addrs p rule at → Stops frame addrs p
size_stops frame addrs p rule at h n piece t =
    let e = place_same frame addrs p t.mid h.mid t.said h.said t.taken h.taken in
    let s = subst (λ x. Takes piece_size x n piece.size) e.0 t.size in
    never_both piece_size read_piece_size size_exact h.mid.at piece.size s.spelling n.rest rule at s.spells (subst (λ k. piece_size.faults h.mid.at k rule at) s.bytes h.invalid)

-- what breaks a rule after these pieces
abbrev Broken : Frame → Addresses → List Piece → Place → ℕ → ℕ → Type 0
Broken frame addrs pieces mid rule at = IsFaultAt frame addrs mid rule at ⊎ (IsBadSize frame addrs mid rule at ⊎ ((pieces ≢ []) × IsLeftOver frame addrs mid rule at))

broken_stops : (frame : Frame) (addrs : Addresses) (pieces : List Piece) (mid : Place) (rule at : ℕ) → Broken frame addrs pieces mid rule at → Stops frame addrs mid
broken_stops frame addrs pieces mid rule at (inl f) = fault_stops frame addrs mid rule at f
broken_stops frame addrs pieces mid rule at (inr (inl b)) = size_stops frame addrs mid rule at b
broken_stops frame addrs pieces mid rule at (inr (inr l)) = end_stops frame addrs mid l.1.end l.1.said l.1.taken l.1.all

-- what operations say up to the end

whole_stops : (frame : Frame) (addrs : Addresses) (bytes : List ℕ) (loc : Option Loc) → SayWhole frame addrs bytes loc → Stops frame addrs (start bytes)
whole_stops frame addrs bytes loc h = end_stops frame addrs (start bytes) h.end h.said h.taken h.all

last_stops : (frame : Frame) (addrs : Addresses) (bytes : List ℕ) (loc : Option Loc) → (h : SayPieces frame addrs bytes loc) → Stops frame addrs h.mid
last_stops frame addrs bytes loc h = end_stops frame addrs h.mid h.end Simple.Empty h.nothing_after h.all

-- one place is no pieces
not_both : (frame : Frame) (addrs : Addresses) (bytes : List ℕ) (a b : Option Loc) → SayWhole frame addrs bytes a → SayPieces frame addrs bytes b → ⊥
not_both frame addrs bytes a b h g =
    let e = pieces_same frame addrs (start bytes) (start bytes) g.mid [] g.pieces refl (whole_stops frame addrs bytes a h) g.taken (last_stops frame addrs bytes b g) in
    g.some (sym e.0)

one_location : (frame : Frame) (addrs : Addresses) (bytes : List ℕ) (a b : Option Loc) → SayLocation frame addrs bytes a → SayLocation frame addrs bytes b → a ≡ b
one_location frame addrs bytes a b (inl h) (inl g) =
    let e = place_same frame addrs (start bytes) h.end g.end h.said g.said h.taken g.taken in
    h.is ∙ ap (λ s. option_map locs.Whole (place_of s)) e.1 ∙ sym g.is
one_location frame addrs bytes a b (inl h) (inr g) = absurd (not_both frame addrs bytes a b h g)
one_location frame addrs bytes a b (inr h) (inl g) = absurd (not_both frame addrs bytes b a g h)
one_location frame addrs bytes a b (inr h) (inr g) =
    let e = pieces_same frame addrs (start bytes) h.mid g.mid h.pieces g.pieces h.taken (last_stops frame addrs bytes a h) g.taken (last_stops frame addrs bytes b g) in
    h.is ∙ ap (λ ps. Some (locs.Pieces (filter has_bytes ps))) e.0 ∙ sym g.is

-- the first rule that is broken

-- an invalid size stands before bytes, and the end doesn't
size_at_end : (frame : Frame) (addrs : Addresses) (p end : Place) (said : Simple) (rule at : ℕ) → IsBadSize frame addrs p rule at → TakesPlace frame addrs p end said → end.rest ≡ [] → ⊥
size_at_end frame addrs p end said rule at h t a =
    let e = place_same frame addrs p h.mid end h.said said h.taken t in
    h.goes_on (ap (λ (x : Place). x.rest) e.0 ∙ a)

broken_same : (frame : Frame) (addrs : Addresses) (ps qs : List Piece) (p : Place) (rule other at spot : ℕ) → Broken frame addrs ps p rule at → Broken frame addrs qs p other spot → (rule ≡ other) × (at ≡ spot)
broken_same frame addrs ps qs p rule other at spot (inl h) (inl g) = (one_reading frame addrs p).one_fault rule other at spot h g
broken_same frame addrs ps qs p rule other at spot (inl h) (inr (inl g)) = absurd ((one_reading frame addrs p).never_both g.mid g.said rule at g.taken h)
broken_same frame addrs ps qs p rule other at spot (inl h) (inr (inr g)) = absurd ((one_reading frame addrs p).never_both g.1.end g.1.said rule at g.1.taken h)
broken_same frame addrs ps qs p rule other at spot (inr (inl h)) (inl g) = absurd ((one_reading frame addrs p).never_both h.mid h.said other spot h.taken g)
broken_same frame addrs ps qs p rule other at spot (inr (inl h)) (inr (inl g)) =
    let e = place_same frame addrs p h.mid g.mid h.said g.said h.taken g.taken in
    one_fault piece_size read_piece_size size_exact g.mid.at g.mid.rest rule other at spot (subst (λ (x : Place). piece_size.faults x.at x.rest rule at) e.0 h.invalid) g.invalid
broken_same frame addrs ps qs p rule other at spot (inr (inl h)) (inr (inr g)) = absurd (size_at_end frame addrs p g.1.end g.1.said rule at h g.1.taken g.1.all)
broken_same frame addrs ps qs p rule other at spot (inr (inr h)) (inl g) = absurd ((one_reading frame addrs p).never_both h.1.end h.1.said other spot h.1.taken g)
broken_same frame addrs ps qs p rule other at spot (inr (inr h)) (inr (inl g)) = absurd (size_at_end frame addrs p h.1.end h.1.said other spot g h.1.taken h.1.all)
broken_same frame addrs ps qs p rule other at spot (inr (inr h)) (inr (inr g)) = (h.1.rule_is ∙ sym g.1.rule_is, one_first frame addrs p at spot h.1.first g.1.first)

one_error : (frame : Frame) (addrs : Addresses) (bytes : List ℕ) (rule other at spot : ℕ) → BreakAt frame addrs bytes rule at → BreakAt frame addrs bytes other spot → (rule ≡ other) × (at ≡ spot)
one_error frame addrs bytes rule other at spot h g =
    let e = pieces_same frame addrs (start bytes) h.mid g.mid h.pieces g.pieces h.taken (broken_stops frame addrs h.pieces h.mid rule at h.broken) g.taken (broken_stops frame addrs g.pieces g.mid other spot g.broken) in
    broken_same frame addrs h.pieces g.pieces g.mid rule other at spot (subst (λ x. Broken frame addrs h.pieces x rule at) e.1 h.broken) g.broken

-- what says a location breaks no rule

place_unbroken : (frame : Frame) (addrs : Addresses) (ps : List Piece) (p end : Place) (said : Simple) (rule at : ℕ) → TakesPlace frame addrs p end said → end.rest ≡ [] → ((ps ≢ []) → said ≡ Simple.Empty) → Broken frame addrs ps p rule at → ⊥
place_unbroken frame addrs ps p end said rule at t a s (inl h) = (one_reading frame addrs p).never_both end said rule at t h
place_unbroken frame addrs ps p end said rule at t a s (inr (inl h)) = size_at_end frame addrs p end said rule at h t a
place_unbroken frame addrs ps p end said rule at t a s (inr (inr h)) = none_by_empty frame addrs p end (subst (λ z. TakesPlace frame addrs p end z) (s h.0) t) at h.1.first

never : (frame : Frame) (addrs : Addresses) (bytes : List ℕ) (loc : Option Loc) (rule at : ℕ) → SayLocation frame addrs bytes loc → ¬ BreakAt frame addrs bytes rule at
never frame addrs bytes loc rule at (inl h) g =
    let e = pieces_same frame addrs (start bytes) (start bytes) g.mid [] g.pieces refl (whole_stops frame addrs bytes loc h) g.taken (broken_stops frame addrs g.pieces g.mid rule at g.broken) in
    place_unbroken frame addrs g.pieces (start bytes) h.end h.said rule at h.taken h.all (λ n. absurd (n (sym e.0))) (subst (λ x. Broken frame addrs g.pieces x rule at) (sym e.1) g.broken)
never frame addrs bytes loc rule at (inr h) g =
    let e = pieces_same frame addrs (start bytes) h.mid g.mid h.pieces g.pieces h.taken (last_stops frame addrs bytes loc h) g.taken (broken_stops frame addrs g.pieces g.mid rule at g.broken) in
    place_unbroken frame addrs g.pieces h.mid h.end Simple.Empty rule at h.nothing_after h.all (λ n. refl) (subst (λ x. Broken frame addrs g.pieces x rule at) (sym e.1) g.broken)

pub expression_once : (frame : Frame) (addrs : Addresses) (bytes : List ℕ) → HasOneReading frame addrs bytes
expression_once frame addrs bytes = record { one_location = one_location frame addrs bytes; one_error = one_error frame addrs bytes; never_both = never frame addrs bytes }

-- lists

say_same : (frame : Frame) (addrs : Addresses) (x : Option Bytes) (a b : Option Loc) → SayOf frame addrs x a → SayOf frame addrs x b → a ≡ b
say_same frame addrs None a b h g = h ∙ sym g
say_same frame addrs (Some x) a b h g = one_location frame addrs x.bytes a b h g

break_same : (frame : Frame) (addrs : Addresses) (x : Option Bytes) (rule other at spot : ℕ) → BreakIn frame addrs x rule at → BreakIn frame addrs x other spot → (rule ≡ other) × (at ≡ spot)
break_same frame addrs None rule other at spot h g = absurd h
break_same frame addrs (Some x) rule other at spot h g =
    let e = one_error frame addrs x.bytes rule other h.0 g.0 h.1.0 g.1.0 in
    (e.0, h.1.1 ∙ ap (λ k. x.offset + k) e.1 ∙ sym g.1.1)

say_never : (frame : Frame) (addrs : Addresses) (x : Option Bytes) (loc : Option Loc) (rule at : ℕ) → SayOf frame addrs x loc → BreakIn frame addrs x rule at → ⊥
say_never frame addrs None loc rule at h g = g
say_never frame addrs (Some x) loc rule at h g = never frame addrs x.bytes loc rule g.0 h g.1.0

said_equal : (v w : Said) → v.entry ≡ w.entry → v.loc ≡ w.loc → v ≡ w
said_equal v w e f = ap (λ x. record { entry = x; loc = v.loc }) e ∙ ap (λ x. record { entry = w.entry; loc = x }) f

says_definite : (frame : Frame) (addrs : Addresses) (e : Located) → IsDefinite (says frame addrs e)
says_definite frame addrs e = record {
  one_value = λ n v w t u k l h g p.
      (said_equal v w (h.1.0 ∙ sym g.1.0) (say_same frame addrs e.expression v.loc w.loc h.1.1 g.1.1), ap (λ x. x ++ k) (sym h.0) ∙ p ∙ ap (λ x. x ++ l) g.0);
  one_fault = λ n s r q m k h g. break_same frame addrs e.expression r q m k h g;
  never_both = λ n v t k r m h g. say_never frame addrs e.expression v.loc r m h.1.1 g;
}

said_definite : (frame : Frame) (addrs : Addresses) → IsDefinite (said_entry frame addrs)
said_definite frame addrs =
    follow_definite (location_entry addrs) (says frame addrs) (definite (location_entry addrs) (read_location_entry addrs) (location_entry_exact addrs)) (says_definite frame addrs)

pub list_once : (frame : Frame) (addrs : Addresses) (base : ℕ) → HasOneAnswer outside (location_list frame addrs base)
list_once frame addrs base =
    one_answer outside (location_list frame addrs base)
    (made_definite (entries base) (row (said_entries frame addrs) false) (row_definite (said_entries frame addrs) (λ s. said_definite frame addrs) false))
