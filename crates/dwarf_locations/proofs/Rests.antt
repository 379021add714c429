-- Pieces one after the other, and what follows them.
use Rattle.std.proofs.Common.{◌≡◌, ◌≢◌, ◌<◌, ℕ, List, [], ◌∷◌, ◌++◌, length, Option, Some, filter, inl, inr, refl, sym, ap, subst, ◌∙◌, arith, length-append, option_map}
use Rattle.std.proofs.lemmas.List.Elements.{filter-append}
use Rattle.rv_bytes.specs.Places.{Place}
use Rattle.expr_eval.specs.Addresses.{Addresses}
use Rattle.expr_bytes.specs.Runs.{TakesPlace}
use Rattle.expr_bytes.specs.declared.place.Frame.{Frame}
use Rattle.expr_bytes.specs.declared.place.OpsErr.{OpsErr}
use Rattle.expr_bytes.specs.declared.place.Simple.{Simple}
use Rattle.layout_set.specs.declared.func.Loc.{Loc}
use Rattle.layout_set.specs.declared.func.Loc.TheVariants as locs
use Rattle.layout_set.specs.declared.func.Piece.{Piece}
use Rattle.dwarf_locations.specs.Expressions.{start, IsRefusedLocation, SayLocation}
use Rattle.dwarf_locations.specs.Pieces.{TakePieces, TakesPiece, has_bytes}
use Rattle.dwarf_locations.specs.Places.{place_of}
use Rattle.dwarf_locations.specs.Steps.{IsRefusedFirst, IsRefusedPart, IsRefusedRest, SayRest, StandsNone}
use Rattle.dwarf_locations.proofs.Firsts.{empty_by_none}
use Rattle.dwarf_locations.proofs.Sizes.{size_shorter}

-- one piece more
pub pieces_more : (frame : Frame) (addrs : Addresses) (old mid new : Place) (ps : List Piece) (p : Piece) → TakePieces frame addrs old mid ps → TakesPiece frame addrs mid new p → TakePieces frame addrs old new (ps ++ p ∷ [])
pieces_more frame addrs old mid new [] p t h = (new, (subst (λ q. TakesPiece frame addrs q new p) t h, refl))
pieces_more frame addrs old mid new (q ∷ ps) p t h = (t.0, (t.1.0, pieces_more frame addrs t.0 mid new ps p t.1.1 h))

pub kept_more : (first p : Piece) (kept more : List Piece) (all : List Piece) → kept ≡ filter has_bytes (first ∷ more) → all ≡ kept ++ filter has_bytes (p ∷ []) → all ≡ filter has_bytes (first ∷ (more ++ p ∷ []))
kept_more first p kept more all h g = g ∙ ap (λ z. z ++ filter has_bytes (p ∷ [])) h ∙ sym (filter-append has_bytes (first ∷ more) (p ∷ []))

-- a piece has a byte
pub piece_shorter : (frame : Frame) (addrs : Addresses) (old new : Place) (p : Piece) → TakesPiece frame addrs old new p → length new.rest < length old.rest
piece_shorter frame addrs old new p h =
    let s = size_shorter h.mid new p.size h.size in
    omega (arith, s, ap length h.taken.bytes, length-append h.taken.spelling h.mid.rest)

-- the end: nothing does anything after the last piece
pub rest_said : (frame : Frame) (addrs : Addresses) (old mid end : Place) (first : Piece) (kept more : List Piece) (said : Simple) → TakePieces frame addrs old mid more → kept ≡ filter has_bytes (first ∷ more)
    → TakesPlace frame addrs mid end said → end.rest ≡ [] → StandsNone frame addrs mid → SayRest frame addrs old first kept
rest_said frame addrs old mid end first kept more said t k h a n =
    record { more = more; mid = mid; taken = t; end = end; nothing_after = empty_by_none frame addrs mid end said h n; all = a; is = k }

-- the next part is invalid
pub rest_refused : (frame : Frame) (addrs : Addresses) (old mid : Place) (more : List Piece) (e : OpsErr) → TakePieces frame addrs old mid more → IsRefusedPart frame addrs mid e → IsRefusedRest frame addrs old e
rest_refused frame addrs old mid more (OpsErr.Refused offset rule) t h =
    record { more = more; mid = mid; taken = t; broken = elim h [ inl f ↦ inl f | inr b ↦ inr (inl b) ] }
rest_refused frame addrs old mid more OpsErr.Memory t h = tt

-- operations are left over
pub rest_left_over : (frame : Frame) (addrs : Addresses) (old mid end : Place) (more : List Piece) (said : Simple) (e : OpsErr) → TakePieces frame addrs old mid more → TakesPlace frame addrs mid end said → end.rest ≡ []
    → IsRefusedFirst frame addrs mid e → IsRefusedRest frame addrs old e
rest_left_over frame addrs old mid end more said (OpsErr.Refused offset rule) t h a f =
    record { more = more; mid = mid; taken = t; broken = inr (inr (record { end = end; said = said; taken = h; all = a; first = f.0; rule_is = f.1 })) }
rest_left_over frame addrs old mid end more said OpsErr.Memory t h a f = tt

-- a whole expression

pub whole_said : (frame : Frame) (addrs : Addresses) (bytes : List ℕ) (end : Place) (said : Simple) (loc : Option Loc) → TakesPlace frame addrs (start bytes) end said → end.rest ≡ [] → loc ≡ option_map locs.Whole (place_of said)
    → SayLocation frame addrs bytes loc
whole_said frame addrs bytes end said loc h a e = inl (record { end = end; said = said; taken = h; all = a; is = e })

pub pieces_said : (frame : Frame) (addrs : Addresses) (bytes : List ℕ) (mid : Place) (first : Piece) (kept : List Piece) → TakesPiece frame addrs (start bytes) mid first → SayRest frame addrs mid first kept
    → SayLocation frame addrs bytes (Some (locs.Pieces kept))
pieces_said frame addrs bytes mid first kept h r =
    inr (record {
      pieces = first ∷ r.more;
      some = λ e. cc;
      mid = r.mid;
      taken = (mid, (h, r.taken));
      end = r.end;
      nothing_after = r.nothing_after;
      all = r.all;
      is = ap (λ ps. Some (locs.Pieces ps)) r.is;
    })

pub first_refused : (frame : Frame) (addrs : Addresses) (bytes : List ℕ) (e : OpsErr) → IsRefusedPart frame addrs (start bytes) e → IsRefusedLocation frame addrs bytes e
first_refused frame addrs bytes (OpsErr.Refused offset rule) h =
    record { pieces = []; mid = start bytes; taken = refl; broken = elim h [ inl f ↦ inl f | inr b ↦ inr (inl b) ] }
first_refused frame addrs bytes OpsErr.Memory h = tt

pub later_refused : (frame : Frame) (addrs : Addresses) (bytes : List ℕ) (mid : Place) (first : Piece) (e : OpsErr) → TakesPiece frame addrs (start bytes) mid first → IsRefusedRest frame addrs mid e → IsRefusedLocation frame addrs bytes e
later_refused frame addrs bytes mid first (OpsErr.Refused offset rule) h r =
    let n : first ∷ r.more ≢ [] = λ e. cc in
    record {
      pieces = first ∷ r.more;
      mid = r.mid;
      taken = (mid, (h, r.taken));
      broken = elim r.broken [ inl f ↦ inl f | inr s ↦ inr (elim s [ inl b ↦ inl b | inr l ↦ inr (n, l) ]) ];
    }
later_refused frame addrs bytes mid first OpsErr.Memory h r = tt
