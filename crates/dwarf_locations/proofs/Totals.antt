-- Where in the bytes what is read ends, and what breaks a rule stands.
use Rattle.std.proofs.Common.{◌≡◌, ◌<◌, ◌≤◌, ℕ, ◌+◌, ◌^◌, Bool, true, false, List, [], ◌∷◌, length, Option, Some, None, inl, inr, sym, ap, subst, ◌∙◌, arith, length-append}
use Rattle.rv_bytes.specs.Forms.{choose, made, nothing}
use Rattle.rv_bytes.specs.Places.{Place}
use Rattle.rv_bytes.specs.Reads.{Takes}
use Rattle.expr_eval.specs.Addresses.{Addresses}
use Rattle.expr_bytes.specs.Runs.{IsFaultAt, TakesPlace}
use Rattle.expr_bytes.specs.declared.place.Frame.{Frame}
use Rattle.expr_bytes.specs.declared.place.OpsErr.{OpsErr}
use Rattle.expr_bytes.specs.declared.place.Simple.{Simple}
use Rattle.layout_set.specs.declared.func.Piece.{Piece}
use Rattle.dwarf_list_entries.specs.Kinds.{has_expression, location_kind}
use Rattle.dwarf_list_entries.specs.Locations.{Bytes, Located, counted, expression, location_entry, location_rest}
use Rattle.dwarf_list_entries.specs.declared.kind.Kind.{Kind}
use Rattle.dwarf_locations.specs.Expressions.{start, BreakAt, IsBadSize, IsRefusedLocation, StandsFirst}
use Rattle.dwarf_locations.specs.Pieces.{TakePieces, TakesPiece}

-- how many bytes there are in all
abbrev pub total : Place → ℕ
total p = p.at + length p.rest

place_total : (frame : Frame) (addrs : Addresses) (old new : Place) (said : Simple) → TakesPlace frame addrs old new said → total new ≡ total old
place_total frame addrs old new said h = omega (arith, h.past, ap length h.bytes, length-append h.spelling new.rest)

piece_total : (frame : Frame) (addrs : Addresses) (old new : Place) (p : Piece) → TakesPiece frame addrs old new p → total new ≡ total old
piece_total frame addrs old new p h =
    let a = place_total frame addrs old h.mid h.said h.taken in
    omega (arith, a, h.size.past, ap length h.size.bytes, length-append h.size.spelling new.rest)

pieces_total : (frame : Frame) (addrs : Addresses) (old new : Place) (ps : List Piece) → TakePieces frame addrs old new ps → total new ≡ total old
pieces_total frame addrs old new [] t = ap total t
pieces_total frame addrs old new (p ∷ ps) t = pieces_total frame addrs t.0 new ps t.1.1 ∙ piece_total frame addrs old t.0 p t.1.0

fault_inside : (frame : Frame) (addrs : Addresses) (old : Place) (rule at : ℕ) → IsFaultAt frame addrs old rule at → at ≤ total old
fault_inside frame addrs old rule at h = omega (arith, h.past, ap length h.bytes, length-append h.front h.back)

size_inside : (frame : Frame) (addrs : Addresses) (old : Place) (rule at : ℕ) → IsBadSize frame addrs old rule at → at ≤ total old
size_inside frame addrs old rule at h = let a = place_total frame addrs old h.mid h.said h.taken in omega (arith, a, h.invalid.0)

first_inside : (frame : Frame) (addrs : Addresses) (old : Place) (at : ℕ) → StandsFirst frame addrs old at → at ≤ total old
first_inside frame addrs old at h = let s = h.stands in omega (arith, s.is_back.0, ap length s.split, length-append s.front s.back)

-- what breaks a rule stands in the expression, or at its end
pub break_inside : (frame : Frame) (addrs : Addresses) (bytes : List ℕ) (rule at : ℕ) → BreakAt frame addrs bytes rule at → at ≤ length bytes
break_inside frame addrs bytes rule at h =
    let t = pieces_total frame addrs (start bytes) h.mid h.pieces h.taken in
    elim h.broken [
      | inl f ↦ (let w = fault_inside frame addrs h.mid rule at f in omega (arith, t, w))
      | inr s ↦ elim s [
        | inl b ↦ (let w = size_inside frame addrs h.mid rule at b in omega (arith, t, w))
        | inr l ↦ (let w = first_inside frame addrs h.mid at l.1.first in omega (arith, t, w))
      ]
    ]

-- the bytes of an expression are inside its entry

counted_inside : (n : ℕ) (b : Bytes) (t : List ℕ) → counted.spells n b t → b.offset + length b.bytes ≤ n + length t
counted_inside n b t h =
    let s = h.1 in
    let w = s.is_back in
    omega (arith, ap length s.split, length-append s.front s.back, ap (λ (x : Bytes). x.offset) w.1.0, ap (λ (x : Bytes). length x.bytes) w.1.0, ap length w.1.1.0)

expression_inside : (known : Bool) (n : ℕ) (b : Bytes) (t : List ℕ) → (choose {M = ℕ} known (made (λ (x : Bytes). Some x) counted) (nothing None)).spells n (Some b) t → b.offset + length b.bytes ≤ n + length t
expression_inside true n b t h = let e : b ≡ h.0 = cc in let w = counted_inside n h.0 t h.1.1 in rw e w
expression_inside false n b t h = let e = h.0 in cc

rest_inside : (addrs : Addresses) (kind : Option Kind) (n : ℕ) (v : Located) (b : Bytes) (t : List ℕ) → (location_rest addrs kind).spells n v t → v.expression ≡ Some b → b.offset + length b.bytes ≤ n + length t
rest_inside addrs None n v b t h e = absurd h
rest_inside addrs (Some kind) n v b t h e =
    let s = h.1 in
    let w = s.is_back in
    let x = w.1 in
    let y = x.is_back in
    let d : w.0 ≡ Some b = sym (ap (λ (z : Located). z.expression) y.1.0) ∙ e in
    let f = expression_inside (has_expression kind) (n + length s.front) b x.front (subst (λ o. (expression kind).spells (n + length s.front) o x.front) d x.is_front) in
    omega (arith, f, ap length s.split, length-append s.front s.back, ap length x.split, length-append x.front x.back)

pub entry_inside : (addrs : Addresses) (old new : Place) (v : Located) (b : Bytes) → Takes (location_entry addrs) old new v → v.expression ≡ Some b → b.offset + length b.bytes ≤ new.at
entry_inside addrs old new v b h e =
    let code = h.spells.0.0 in
    let s = h.spells.0.1 in
    let f = rest_inside addrs (location_kind code) (old.at + length s.front) v b s.back s.is_back e in
    omega (arith, f, h.past, ap length s.split, length-append s.front s.back)

-- what an expression refuses has a place in its section
pub refusal_inside : (frame : Frame) (addrs : Addresses) (bytes : List ℕ) (e : OpsErr) (offset rule base : ℕ) → base + length bytes < 2 ^ 64 → IsRefusedLocation frame addrs bytes e → e ≡ OpsErr.Refused offset rule → base + offset < 2 ^ 64
refusal_inside frame addrs bytes e offset rule base h f i =
    let w = break_inside frame addrs bytes rule offset (subst (λ d. IsRefusedLocation frame addrs bytes d) i f) in
    omega (arith, w, h)
