-- No expression is without a location that it says, or none, or a first rule that it breaks; and no place without a list.
use Rattle.std.proofs.Common.{◌≡◌, ◌≢◌, ◌<◌, ℕ, zero, suc, ◌+◌, Bool, true, false, List, [], ◌∷◌, ◌++◌, length, drop, Option, Some, None, filter, inl, inr, ◌⊎◌, refl, sym, subst, arith, append-nil, option_map}
use Rattle.std.proofs.lemmas.Bool.{cases_lt}
use Rattle.rv_bytes.specs.Forms.{Form}
use Rattle.rv_bytes.specs.Places.{Place}
use Rattle.rv_bytes.specs.Readers.{Res, got, bad}
use Rattle.rv_bytes.specs.Reads.{Takes}
use Rattle.rv_bytes.specs.Rules.{outside}
use Rattle.rv_bytes.specs.declared.err.DwErr.{DwErr}
use Rattle.rv_bytes.proofs.Exact.{Right}
use Rattle.expr_eval.specs.Addresses.{Addresses}
use Rattle.expr_bytes.specs.Operations.{Oper}
use Rattle.expr_bytes.specs.Operands.{operation}
use Rattle.expr_bytes.specs.Readers.{read_operation}
use Rattle.expr_bytes.specs.Rules.{bad_order, no_frame}
use Rattle.expr_bytes.specs.Runs.{Ends, IsFaultAt, TakesPlace}
use Rattle.expr_bytes.specs.declared.place.Frame.{Frame}
use Rattle.expr_bytes.specs.declared.place.Simple.{Simple}
use Rattle.expr_bytes.proofs.OperandsExact.{operation_exact}
use Rattle.expr_reader.specs.Nexts.{HasRead}
use Rattle.expr_reader.proofs.Nexts.{frame_refused, last_fault, next_fault, none_read, one_more, order_refused, place_taken}
use Rattle.layout_set.specs.declared.func.Entry.{Entry}
use Rattle.layout_set.specs.declared.func.Loc.{Loc}
use Rattle.layout_set.specs.declared.func.Loc.TheVariants as locs
use Rattle.layout_set.specs.declared.func.Piece.{Piece}
use Rattle.dwarf_list_entries.specs.Locations.{Bytes, location_entry}
use Rattle.dwarf_list_entries.specs.Readers.{read_location_entry}
use Rattle.dwarf_list_entries.proofs.EntriesExact.{location_entry_exact}
use Rattle.dwarf_lists.specs.Ranges.{is_end}
use Rattle.dwarf_list_entries.specs.Entries.{base_after, bounds_from}
use Rattle.dwarf_locations.specs.Expressions.{start}
use Rattle.dwarf_locations.specs.Laws.{HasList, HasReading}
use Rattle.dwarf_locations.specs.Lists.{BreakIn, SayOf, location_list, said_entry, within_bounds}
use Rattle.dwarf_locations.specs.Pieces.{TakePieces, TakesPiece, has_bytes, piece_size}
use Rattle.dwarf_locations.specs.Places.{place_of}
use Rattle.dwarf_locations.specs.Steps.{LeadsTo, read_piece_size}
use Rattle.dwarf_locations.proofs.Firsts.{empty_by_none, first_or_none, operation_shorter}
use Rattle.dwarf_locations.proofs.Known.{begin_known, ends_known, says_known, unframed_known}
use Rattle.dwarf_locations.proofs.Listed.{at_first, ends, goes_on, said_refused, said_shorter, said_taken}
use Rattle.dwarf_locations.proofs.Rests.{piece_shorter, pieces_more}
use Rattle.dwarf_locations.proofs.Sizes.{size_exact}

-- what an exact reader gives or refuses, in the words of forms
abbrev Decided : {A : Type 0} → Form ℕ A → Place → Type 0
Decided {A} F old = ((v : A) × ((new : Place) × Takes F old new v)) ⊎ ((rule : ℕ) × ((at : ℕ) × F.faults old.at old.rest rule at))

decided : {A : Type 0} (F : Form ℕ A) (old : Place) (x : Res ℕ A) → Right F old.at old.rest x → Decided F old
decided F old (got v m k) h = inl (v, (record { at = m; rest = k }, record { spelling = h.0; spells = h.1.0; bytes = h.1.1.0; past = h.1.1.1 }))
decided F old (bad rule at) h = inr (rule, (at, h))

-- one place

abbrev Reading : Frame → Addresses → Place → Type 0
Reading frame addrs old = ((new : Place) × ((said : Simple) × TakesPlace frame addrs old new said)) ⊎ ((rule : ℕ) × ((at : ℕ) × IsFaultAt frame addrs old rule at))

-- the operations end here
reading_ends : (frame : Frame) (addrs : Addresses) (old now : Place) (opers : List Oper) (last : ℕ) → HasRead frame addrs old now opers last → Ends now.rest → Reading frame addrs old
reading_ends frame addrs old now [] last h e = inl (now, (Simple.Empty, place_taken frame addrs old now [] last Simple.Empty h e (inl (refl, refl))))
reading_ends frame addrs old now (o ∷ opers) last h e = elim (says_known (o ∷ opers)) [
  | inl w ↦ inl (now, (w.0, place_taken frame addrs old now (o ∷ opers) last w.0 h e (inr w.1)))
  | inr n ↦ inr (bad_order, (last, last_fault frame addrs old now (o ∷ opers) last (DwErr.Refused last bad_order) h e (refl, (refl, ((λ q. cc), n)))))
]

-- an operation that does something goes on, or breaks a rule
goes_on_with : (frame : Frame) (addrs : Addresses) (old now new : Place) (opers : List Oper) (last : ℕ) (o : Oper) → HasRead frame addrs old now opers last → ¬ Ends now.rest → Takes (operation frame addrs) now new (Some o)
    → HasRead frame addrs old new (opers ++ o ∷ []) now.at ⊎ ((rule : ℕ) × ((at : ℕ) × IsFaultAt frame addrs old rule at))
goes_on_with frame addrs old now new opers last o h g w = elim (begin_known (opers ++ o ∷ [])) [
  | inr n ↦ inr (bad_order, (now.at, next_fault frame addrs old now opers last (DwErr.Refused now.at bad_order) h g (refl, order_refused frame addrs opers now new o w n)))
  | inl b ↦ elim (unframed_known o) [
    | inl u ↦ inr (no_frame, (now.at, next_fault frame addrs old now opers last (DwErr.Refused now.at no_frame) h g (refl, frame_refused frame addrs opers now new o w b u)))
    | inr f ↦ inl (one_more frame addrs old now new opers (opers ++ o ∷ []) last now.at h (record { oper = Some o; takes = w; is_added = refl; told = refl; in_order = (b, f) }))
  ]
]

idle_goes_on : (frame : Frame) (addrs : Addresses) (old now new : Place) (opers : List Oper) (last : ℕ) → HasRead frame addrs old now opers last → Takes (operation frame addrs) now new None → HasRead frame addrs old new opers last
idle_goes_on frame addrs old now new opers last h w =
    one_more frame addrs old now new opers opers last last h (record { oper = None; takes = w; is_added = sym (append-nil opers); told = refl; in_order = tt })

reading_from : (turns : ℕ) (frame : Frame) (addrs : Addresses) (old now : Place) (opers : List Oper) (last : ℕ) → length now.rest < turns → HasRead frame addrs old now opers last → Reading frame addrs old
reading_from zero frame addrs old now opers last few h = absurd (omega (arith, few))
reading_from (suc turns) frame addrs old now opers last few h = elim (ends_known now.rest) [
  | inl e ↦ reading_ends frame addrs old now opers last h e
  | inr g ↦ elim (decided (operation frame addrs) now (read_operation frame addrs now.at now.rest) ((operation_exact frame addrs).right now.at now.rest)) [
    | inl d ↦ by_operation (λ p os l. reading_from turns frame addrs old p os l) d.0 d.1.0 g d.1.1
    | inr d ↦ inr (d.0, (now.at, next_fault frame addrs old now opers last (DwErr.Refused now.at d.0) h g (refl, inl (refl, d.1.1.1))))
  ]
]
  where
    by_operation : ((p : Place) (os : List Oper) (l : ℕ) → length p.rest < turns → HasRead frame addrs old p os l → Reading frame addrs old) → (v : Option Oper) (new : Place) → ¬ Ends now.rest → Takes (operation frame addrs) now new v → Reading frame addrs old
    by_operation later None new g w = let s = operation_shorter frame addrs now new None w in later new opers last (omega (arith, s, few)) (idle_goes_on frame addrs old now new opers last h w)
    by_operation later (Some o) new g w = let s = operation_shorter frame addrs now new (Some o) w in elim (goes_on_with frame addrs old now new opers last o h g w) [
      | inl r ↦ later new (opers ++ o ∷ []) now.at (omega (arith, s, few)) r
      | inr f ↦ inr f
    ]

place_reading : (frame : Frame) (addrs : Addresses) (old : Place) → Reading frame addrs old
place_reading frame addrs old = reading_from (suc (length old.rest)) frame addrs old old [] old.at (omega arith) (none_read frame addrs old old.at)

-- an expression

-- the operations after pieces go up to the end
at_end : (frame : Frame) (addrs : Addresses) (bytes : List ℕ) (pieces : List Piece) (mid end : Place) (said : Simple) → TakePieces frame addrs (start bytes) mid pieces → TakesPlace frame addrs mid end said → end.rest ≡ [] → HasReading frame addrs bytes
at_end frame addrs bytes [] mid end said t h a =
    inl (option_map locs.Whole (place_of said), inl (record { end = end; said = said; taken = subst (λ p. TakesPlace frame addrs p end said) t h; all = a; is = refl }))
at_end frame addrs bytes (piece ∷ pieces) mid end said t h a =
    let some : piece ∷ pieces ≢ [] = λ e. cc in
    elim (first_or_none frame addrs mid end said h) [
      | inl f ↦ inr (
        bad_order,
        (f.0, record { pieces = piece ∷ pieces; mid = mid; taken = t; broken = inr (inr (some, record { end = end; said = said; taken = h; all = a; first = f.1; rule_is = refl })) }),
      )
      | inr n ↦ inl (
        Some (locs.Pieces (filter has_bytes (piece ∷ pieces))),
        inr (record { pieces = piece ∷ pieces; some = some; mid = mid; taken = t; end = end; nothing_after = empty_by_none frame addrs mid end said h n; all = a; is = refl }),
      )
    ]

some_rest : (s : List ℕ) → (s ≡ []) ⊎ (s ≢ [])
some_rest [] = inl refl
some_rest (b ∷ s) = inr (λ e. cc)

expression_from : (turns : ℕ) (frame : Frame) (addrs : Addresses) (bytes : List ℕ) (pieces : List Piece) (mid : Place) → length mid.rest < turns → TakePieces frame addrs (start bytes) mid pieces → HasReading frame addrs bytes
expression_from zero frame addrs bytes pieces mid few t = absurd (omega (arith, few))
expression_from (suc turns) frame addrs bytes pieces mid few t = elim (place_reading frame addrs mid) [
  | inr f ↦ inr (f.0, (f.1.0, record { pieces = pieces; mid = mid; taken = t; broken = inl f.1.1 }))
  | inl r ↦ elim (some_rest r.0.rest) [
    | inl a ↦ at_end frame addrs bytes pieces mid r.0 r.1.0 t r.1.1 a
    | inr g ↦ elim (decided piece_size r.0 (read_piece_size r.0.at r.0.rest) (size_exact.right r.0.at r.0.rest)) [
      | inr d ↦ inr (d.0, (d.1.0, record { pieces = pieces; mid = mid; taken = t; broken = inr (inl (record { mid = r.0; said = r.1.0; taken = r.1.1; goes_on = g; invalid = d.1.1 })) }))
      | inl d ↦ (
          let piece : Piece = record { size = d.0; place = place_of r.1.0 } in
          let h : TakesPiece frame addrs mid d.1.0 piece = record { mid = r.0; said = r.1.0; taken = r.1.1; size = d.1.1; place = refl } in
          let s = piece_shorter frame addrs mid d.1.0 piece h in
          expression_from turns frame addrs bytes (pieces ++ piece ∷ []) d.1.0 (omega (arith, s, few)) (pieces_more frame addrs (start bytes) mid d.1.0 pieces piece t h))
    ]
  ]
]

pub expression_reading : (frame : Frame) (addrs : Addresses) (bytes : List ℕ) → HasReading frame addrs bytes
expression_reading frame addrs bytes = expression_from (suc (length bytes)) frame addrs bytes [] (start bytes) (omega arith) refl

-- a list

-- what the expression of an entry says
said_reading : (frame : Frame) (addrs : Addresses) (x : Option Bytes) → ((loc : Option Loc) × SayOf frame addrs x loc) ⊎ ((rule : ℕ) × ((at : ℕ) × BreakIn frame addrs x rule at))
said_reading frame addrs None = inl (None, refl)
said_reading frame addrs (Some x) = elim (expression_reading frame addrs x.bytes) [
  | inl h ↦ inl h
  | inr h ↦ inr (h.0, (x.offset + h.1.0, (h.1.0, (h.1.1, refl))))
]

entry_reading : (frame : Frame) (addrs : Addresses) (old : Place) → Decided (said_entry frame addrs) old
entry_reading frame addrs old = elim (decided (location_entry addrs) old (read_location_entry addrs old.at old.rest) ((location_entry_exact addrs).right old.at old.rest)) [
  | inr d ↦ inr (d.0, (d.1.0, inl d.1.1))
  | inl d ↦ elim (said_reading frame addrs d.0.expression) [
    | inl s ↦ inl (record { entry = d.0.entry; loc = s.0 }, (d.1.0, said_taken frame addrs old d.1.0 d.0 s.0 d.1.1 s.1))
    | inr s ↦ inr (s.0, (s.1.0, said_refused frame addrs old d.1.0 d.0 s.0 s.1.0 d.1.1 s.1.1))
  ]
]

end_known : (b : Bool) → (b ≡ true) ⊎ (b ≡ false)
end_known true = inl refl
end_known false = inr refl

list_from : (turns : ℕ) (frame : Frame) (addrs : Addresses) (first base : ℕ) (old here : Place) (acc : List Entry) → length here.rest < turns → LeadsTo frame addrs first old acc base here → Decided (location_list frame addrs first) old
list_from zero frame addrs first base old here acc few l = absurd (omega (arith, few))
list_from (suc turns) frame addrs first base old here acc few l = elim (entry_reading frame addrs here) [
  | inr d ↦ inr (d.0, (d.1.0, l.refused d.0 d.1.0 ([], (refl, d.1.1))))
  | inl d ↦ elim (end_known (is_end d.0.entry)) [
    | inl e ↦ inl (acc, (d.1.0, ends frame addrs first base old here d.1.0 acc d.0 l d.1.1 e))
    | inr e ↦ (
        let s = said_shorter frame addrs here d.1.0 d.0 d.1.1 in
        list_from turns frame addrs first (base_after base d.0.entry) old d.1.0 (acc ++ within_bounds (bounds_from base d.0.entry) d.0.loc) (omega (arith, s, few))
        (goes_on frame addrs first base old here d.1.0 acc d.0 l d.1.1 e))
  ]
]

pub list_reading : (frame : Frame) (addrs : Addresses) (base : ℕ) (section : List ℕ) (at : ℕ) → HasList frame addrs base section at
list_reading frame addrs base section at =
    let here : Place = record { at = at; rest = drop at section } in
    elim (cases_lt at (length section)) [
      | inr o ↦ inr (at, (outside, inl (o, (refl, refl))))
      | inl i ↦ elim (list_from (suc (length here.rest)) frame addrs base base here here [] (omega arith) (at_first frame addrs base here)) [
        | inl d ↦ (
            let w = d.1.1 in
            inl (d.0, record { inside = i; begins = record { front = w.spelling; back = d.1.0.rest; split = w.bytes; is_front = w.spells; is_back = tt } }))
        | inr d ↦ inr (d.1.0, (d.0, inr (i, d.1.1)))
      ]
    ]
