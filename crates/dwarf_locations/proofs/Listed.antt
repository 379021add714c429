-- Entries of location lists, one by one, with what their expressions say.
use Rattle.std.proofs.Common.{◌≡◌, ◌<◌, ℕ, Bool, true, false, List, [], ◌∷◌, ◌++◌, length, drop, Option, Result, Ok, Err, IfOk, IfErr, inr, refl, sym, ap, subst, ◌∙◌, arith, append-nil, append_assoc, length-append}
use Rattle.rv_bytes.specs.Forms.{RowSpells, RowFaults, row}
use Rattle.rv_bytes.specs.Places.{Place}
use Rattle.rv_bytes.specs.Reads.{Takes, IsRefusedBy}
use Rattle.rv_bytes.specs.Sections.{BeginsAt, IsFaultAt}
use Rattle.rv_bytes.specs.declared.err.DwErr.{DwErr}
use Rattle.expr_eval.specs.Addresses.{Addresses}
use Rattle.expr_bytes.specs.declared.place.Frame.{Frame}
use Rattle.layout_set.specs.declared.func.Entry.{Entry}
use Rattle.layout_set.specs.declared.func.Loc.{Loc}
use Rattle.dwarf_list_entries.specs.Entries.{base_after, bounds_from}
use Rattle.dwarf_list_entries.specs.Locations.{Located, location_entry}
use Rattle.dwarf_list_entries.specs.declared.entry.ListEntry.{ListEntry}
use Rattle.dwarf_lists.specs.Ranges.{is_end}
use Rattle.dwarf_locations.specs.Lists.{BreakIn, Said, SayOf, entries, location_list, said_entries, said_entry, within_bounds}
use Rattle.dwarf_locations.specs.Steps.{LeadsTo}

-- an entry, and then what its expression says
pub said_taken : (frame : Frame) (addrs : Addresses) (old new : Place) (e : Located) (loc : Option Loc) → Takes (location_entry addrs) old new e → SayOf frame addrs e.expression loc
    → Takes (said_entry frame addrs) old new (record { entry = e.entry; loc = loc })
said_taken frame addrs old new e loc h s =
    record { spelling = h.spelling; spells = (e, record { front = h.spelling; back = []; split = sym (append-nil h.spelling); is_front = h.spells; is_back = (refl, (refl, s)) }); bytes = h.bytes; past = h.past }

-- or the first rule that it breaks
pub said_refused : (frame : Frame) (addrs : Addresses) (old new : Place) (e : Located) (rule at : ℕ) → Takes (location_entry addrs) old new e → BreakIn frame addrs e.expression rule at → (said_entry frame addrs).faults old.at old.rest rule at
said_refused frame addrs old new e rule at h s = inr (e, record { front = h.spelling; back = new.rest; split = h.bytes; is_front = h.spells; is_back = s })

-- it has a byte
pub said_byte : (frame : Frame) (addrs : Addresses) (n : ℕ) (v : Said) (t : List ℕ) → (said_entry frame addrs).spells n v t → 0 < length t
said_byte frame addrs n v t h =
    let s = h.1 in
    let w = s.is_front.0.1 in
    omega (arith, ap length s.split, length-append s.front s.back, ap length w.split, length-append w.front w.back, w.is_front.1.1.1)

pub said_shorter : (frame : Frame) (addrs : Addresses) (old new : Place) (v : Said) → Takes (said_entry frame addrs) old new v → length new.rest < length old.rest
said_shorter frame addrs old new v h = let b = said_byte frame addrs old.at v h.spelling h.spells in omega (arith, b, ap length h.bytes, length-append h.spelling new.rest)

-- an entry before others
row_taken : (frame : Frame) (addrs : Addresses) (old mid new : Place) (v : Said) (vs : List Said) (b : Bool) → b ≡ is_end v.entry → Takes (said_entry frame addrs) old mid v → Takes (row (said_entries frame addrs) b) mid new vs
    → Takes (row (said_entries frame addrs) false) old new (v ∷ vs)
row_taken frame addrs old mid new v vs b e h r = record {
  spelling = h.spelling ++ r.spelling;
  spells = (refl, record { front = h.spelling; back = r.spelling; split = refl; is_front = h.spells; is_back = subst (λ n. RowSpells (said_entries frame addrs) (is_end v.entry) n vs r.spelling) h.past (subst (λ z. RowSpells (said_entries frame addrs) z mid.at vs r.spelling) e r.spells) });
  bytes = h.bytes ∙ ap (λ z. h.spelling ++ z) r.bytes ∙ sym (append_assoc h.spelling r.spelling new.rest);
  past = omega (arith, r.past, h.past, length-append h.spelling r.spelling);
}

row_refused : (frame : Frame) (addrs : Addresses) (old mid : Place) (v : Said) (rule at : ℕ) → is_end v.entry ≡ false → Takes (said_entry frame addrs) old mid v → (row (said_entries frame addrs) false).faults mid.at mid.rest rule at
    → (row (said_entries frame addrs) false).faults old.at old.rest rule at
row_refused frame addrs old mid v rule at e h r = (
  v ∷ r.0,
  (
    refl,
    record {
      front = h.spelling;
      back = mid.rest;
      split = h.bytes;
      is_front = h.spells;
      is_back = subst (λ n. RowFaults (said_entries frame addrs) (is_end v.entry) n r.0 mid.rest rule at) h.past (subst (λ z. RowFaults (said_entries frame addrs) z mid.at r.0 mid.rest rule at) (sym e) r.1);
    },
  ),
)

-- The turns of the loop.

pub at_first : (frame : Frame) (addrs : Addresses) (base : ℕ) (old : Place) → LeadsTo frame addrs base old [] base old
at_first frame addrs base old = record {
  taken = λ new vs h. record { spelling = h.spelling; spells = (vs, (refl, h.spells)); bytes = h.bytes; past = h.past };
  refused = λ rule at h. h;
}

-- an entry that doesn't end the list
pub goes_on : (frame : Frame) (addrs : Addresses) (first base : ℕ) (old here next : Place) (acc : List Entry) (v : Said) → LeadsTo frame addrs first old acc base here → Takes (said_entry frame addrs) here next v → is_end v.entry ≡ false
    → LeadsTo frame addrs first old (acc ++ within_bounds (bounds_from base v.entry) v.loc) (base_after base v.entry) next
goes_on frame addrs first base old here next acc v l h e = record {
  taken = λ new vs r.
      subst (λ es. Takes (location_list frame addrs first) old new es) (sym (append_assoc acc (within_bounds (bounds_from base v.entry) v.loc) (entries (base_after base v.entry) vs)))
      (l.taken new (v ∷ vs) (row_taken frame addrs here next new v vs false (sym e) h r));
  refused = λ rule at r. l.refused rule at (row_refused frame addrs here next v rule at e h r);
}

-- an end says nothing
end_says_nothing : (base : ℕ) (e : ListEntry) (loc : Option Loc) → is_end e ≡ true → within_bounds (bounds_from base e) loc ≡ []
end_says_nothing base ListEntry.EndOfList loc h = refl
end_says_nothing base (ListEntry.BaseAddress a) loc h = absurd (cc)
end_says_nothing base (ListEntry.OffsetPair a b) loc h = absurd (cc)
end_says_nothing base (ListEntry.StartEnd a b) loc h = absurd (cc)

-- the end of the list
pub ends : (frame : Frame) (addrs : Addresses) (first base : ℕ) (old here next : Place) (acc : List Entry) (v : Said) → LeadsTo frame addrs first old acc base here → Takes (said_entry frame addrs) here next v → is_end v.entry ≡ true
    → Takes (location_list frame addrs first) old next acc
ends frame addrs first base old here next acc v l h e =
    let none : Takes (row (said_entries frame addrs) true) next next [] = record { spelling = []; spells = (refl, refl); bytes = refl; past = omega arith } in
    let all = l.taken next (v ∷ []) (row_taken frame addrs here next next v [] true (sym e) h none) in
    let nothing : acc ++ (within_bounds (bounds_from base v.entry) v.loc ++ []) ≡ acc =
    ap (λ z. acc ++ (z ++ [])) (end_says_nothing base v.entry v.loc e) ∙ append-nil acc
    in
    subst (λ es. Takes (location_list frame addrs first) old next es) nothing all

-- an entry is invalid, or breaks a rule
pub breaks : (frame : Frame) (addrs : Addresses) (first base : ℕ) (old here : Place) (acc : List Entry) (e : DwErr) → LeadsTo frame addrs first old acc base here → IsRefusedBy (said_entry frame addrs) here e
    → IsRefusedBy (location_list frame addrs first) old e
breaks frame addrs first base old here acc (DwErr.Refused offset rule) l h = l.refused rule offset ([], (refl, h))
breaks frame addrs first base old here acc DwErr.Memory l h = tt

-- a list at a place of a section

pub list_begins : (frame : Frame) (addrs : Addresses) (base : ℕ) (section : List ℕ) (at : ℕ) (cut new : Place) (r : Result (List Entry) DwErr) → cut ≡ record { at = at; rest = drop at section } → at < length section
    → IfOk r (Takes (location_list frame addrs base) cut new) → IfOk r (BeginsAt (location_list frame addrs base) section at)
list_begins frame addrs base section at cut new (Ok es) c i h =
    let w = subst (λ p. Takes (location_list frame addrs base) p new es) c h in
    record { inside = i; begins = record { front = w.spelling; back = new.rest; split = w.bytes; is_front = w.spells; is_back = tt } }
list_begins frame addrs base section at cut new (Err e) c i h = tt

pub list_breaks : (frame : Frame) (addrs : Addresses) (base outside_rule : ℕ) (section : List ℕ) (at : ℕ) (cut : Place) (r : Result (List Entry) DwErr) → cut ≡ record { at = at; rest = drop at section } → at < length section
    → IfErr r (IsRefusedBy (location_list frame addrs base) cut) → IfErr r (IsFaultAt outside_rule (location_list frame addrs base) section at)
list_breaks frame addrs base outside_rule section at cut (Ok es) c i h = tt
list_breaks frame addrs base outside_rule section at cut (Err (DwErr.Refused offset rule)) c i h = inr (i, subst (λ p. (location_list frame addrs base).faults p.at p.rest rule offset) c h)
list_breaks frame addrs base outside_rule section at cut (Err DwErr.Memory) c i h = tt
