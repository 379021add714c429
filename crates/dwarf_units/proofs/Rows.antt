-- The turns of the loop over the units of a section.
use Rattle.std.proofs.Common.{◌≡◌, ◌<◌, ◌≤◌, ℕ, ◌+◌, ◌-◌, ◌==◌, true, false, List, [], ◌∷◌, ◌++◌, length, drop, map, All, Option, Some, refl, sym, ap, subst, ◌∙◌, arith, append_assoc, append-nil, length-append}
use Rattle.std.proofs.lemmas.Bool.{ne_eqb, eq-eqb}
use Rattle.std.proofs.lemmas.List.{map-append, drop_all}
use Rattle.std.proofs.lemmas.List.Elements.{All-push, All-weaker, All-nil}
use Rattle.rv_bytes.specs.Readers.{Res, got, bad, with_value}
use Rattle.rv_bytes.specs.Forms.{row}
use Rattle.rv_bytes.proofs.Exact.{Right}
use Rattle.rv_bytes.proofs.Turns.{done, failed, goes_on}
use Rattle.dwarf_units.specs.Spots.{Spot, in_info}
use Rattle.dwarf_units.specs.Entries.{Entry}
use Rattle.dwarf_units.specs.Units.{CompileUnit, SoFar, units, at_start, after_unit, nodes_in, AreUnits, IsFirstFault, IsRefusal}
use Rattle.dwarf_units.specs.UnitReaders.{read_unit, read_units}
use Rattle.dwarf_units.specs.Kept.{table_at, KeepsTables, entries_in, Holds, AreKept}
use Rattle.dwarf_units.specs.UnitCalls.{so_far, TakesUnit, RefusesUnit}
use Rattle.dwarf_units.specs.declared.fault.UnitsErr.{UnitsErr}
use Rattle.dwarf_units.specs.declared.units.Units.{Units}
use Rattle.dwarf_units.proofs.UnitReads.{units_byte, units_all, units_exact}

-- up to this place there are these units, which are kept, and what is left is read after them as all is
pub record IsReadTo (abbrevs info : List ℕ) (at : ℕ) (kept : Units) : Type 0 where
  pub units : List CompileUnit
  pub whole : with_value (λ us. units ++ us) (read_units abbrevs (so_far (length info - at) kept) at (drop at info)) ≡ read_units abbrevs (at_start (length info)) 0 info
  pub holds : Holds units kept

-- at the start
pub read_to_start : (abbrevs info : List ℕ) (kept : Units) → kept.headers ≡ [] → kept.tree ≡ [] → IsReadTo abbrevs info 0 kept
read_to_start abbrevs info kept h t =
    let start : so_far (length info - 0) kept ≡ at_start (length info) = cc_start in
    record {
      units = [];
      whole = ap (λ s. with_value (λ us. us) (read_units abbrevs s 0 info)) start ∙ same (read_units abbrevs (at_start (length info)) 0 info);
      holds = record { headers = h; tree = t; tables = All-nil (λ v. table_at kept.tables v.header.abbrev_offset ≡ Some v.table) };
    }
  where
    cc_start : so_far (length info - 0) kept ≡ at_start (length info)
    cc_start = ap (λ l. record { left = l; units = length kept.headers; nodes = kept.tree }) (let e : length info - 0 ≡ length info = omega arith in e)
        ∙ ap (λ (hs : List _). record { left = length info; units = length hs; nodes = kept.tree }) h ∙ ap (λ (ns : List _). record { left = length info; units = 0; nodes = ns }) t

    same : (x : Res Spot (List CompileUnit)) → with_value (λ us. us) x ≡ x
    same (got v m k) = refl
    same (bad r m) = refl

entries_push : (us : List CompileUnit) (u : CompileUnit) → entries_in (us ++ u ∷ []) ≡ entries_in us ++ u.entries
entries_push [] u = append-nil u.entries
entries_push (v ∷ us) u = ap (λ es. v.entries ++ es) (entries_push us u) ∙ sym (append_assoc v.entries (entries_in us) u.entries)

-- one unit more is kept
holds_push : (us : List CompileUnit) (u : CompileUnit) (old new : Units) → Holds us old → new.headers ≡ old.headers ++ u.header ∷ [] → new.tree ≡ old.tree ++ nodes_in u.entries
    → table_at new.tables u.header.abbrev_offset ≡ Some u.table → KeepsTables old.tables new.tables → Holds (us ++ u ∷ []) new
holds_push us u old new h hs t there kept = record {
  headers = hs ∙ ap (λ l. l ++ u.header ∷ []) h.headers ∙ sym (map-append (λ (v : CompileUnit). v.header) us (u ∷ []));
  tree = t ∙ ap (λ l. l ++ nodes_in u.entries) h.tree ∙ sym (map-append (λ (e : Entry). e.node) (entries_in us) u.entries) ∙ ap nodes_in (sym (entries_push us u));
  tables = All-push (λ v. table_at new.tables v.header.abbrev_offset ≡ Some v.table) us u
      (All-weaker (λ v. table_at old.tables v.header.abbrev_offset ≡ Some v.table) (λ v. table_at new.tables v.header.abbrev_offset ≡ Some v.table) (λ v e. kept v.header.abbrev_offset v.table e) us h.tables) there;
}

-- after a unit the next one is due
pub read_on : (abbrevs info : List ℕ) (at : ℕ) (old new : Units) (end : ℕ) → at < length info → IsReadTo abbrevs info at old → TakesUnit abbrevs info at old new end → IsReadTo abbrevs info end new
read_on abbrevs info at old new end i h t = record {
  units = h.units ++ t.unit ∷ [];
  whole = subst (λ s. with_value (λ us. (h.units ++ t.unit ∷ []) ++ us) (read_units abbrevs s end (drop end info)) ≡ read_units abbrevs (at_start (length info)) 0 info) state
      (goes_on (units abbrevs) (read_unit abbrevs) (in_info 0) (units_byte abbrevs) (units_all abbrevs) (read_units abbrevs (at_start (length info)) 0 info) h.units (so_far (length info - at) old) at (drop at info) t.unit end (drop end info)
      h.whole (ne_eqb (length info - at) 0 (λ e. absurd (omega arith))) (t.reads (length info - at)));
  holds = holds_push h.units t.unit old new h.holds t.headers t.tree t.there t.kept;
}
  where
    counted : length old.headers + 1 ≡ length new.headers
    counted = omega (arith, ap length t.headers, length-append old.headers (t.unit.header ∷ []))

    left : length info - at - (t.unit.header.unit_length + 4) ≡ length info - end
    left = omega (arith, t.size)

    state : after_unit (so_far (length info - at) old) t.unit ≡ so_far (length info - end) new
    state =
        ap (λ l. record { left = l; units = length old.headers + 1; nodes = old.tree ++ nodes_in t.unit.entries }) left
        ∙ ap (λ n. record { left = length info - end; units = n; nodes = old.tree ++ nodes_in t.unit.entries }) counted
        ∙ ap (λ (ns : List _). record { left = length info - end; units = length new.headers; nodes = ns }) (sym t.tree)

-- at the end all units are kept
pub read_all : (abbrevs info : List ℕ) (at : ℕ) (kept : Units) → length info ≤ at → IsReadTo abbrevs info at kept → AreKept abbrevs info kept
read_all abbrevs info at kept l h =
    let e : read_units abbrevs (at_start (length info)) 0 info ≡ got h.units at (drop at info) =
    done (units abbrevs) (read_unit abbrevs) (in_info 0) (read_units abbrevs (at_start (length info)) 0 info) h.units (so_far (length info - at) kept) at (drop at info) h.whole (eq-eqb (length info - at) 0 (omega arith)) in
    let w = subst (Right (row (units abbrevs) (at_start (length info))) 0 info) e ((units_exact abbrevs (at_start (length info))).right 0 info) in
    let whole : info ≡ w.0 = w.1.1.0 ∙ ap (λ k. w.0 ++ k) (drop_all at info l) ∙ append-nil w.0 in
    record { units = h.units; are = subst ((row (units abbrevs) (at_start (length info))).spells 0 h.units) (sym whole) w.1.0; holds = h.holds }

-- what is refused is the first error
fault_is : (abbrevs info : List ℕ) (at : ℕ) (kept : Units) (r : ℕ) (spot : Spot) → at < length info → IsReadTo abbrevs info at kept
    → read_unit abbrevs (so_far (length info - at) kept) at (drop at info) ≡ bad r spot → IsFirstFault abbrevs info r spot
fault_is abbrevs info at kept r spot i h b =
    let e : read_units abbrevs (at_start (length info)) 0 info ≡ bad r spot =
    failed (units abbrevs) (read_unit abbrevs) (in_info 0) (read_units abbrevs (at_start (length info)) 0 info) h.units (so_far (length info - at) kept) at (drop at info) r spot h.whole
    (ne_eqb (length info - at) 0 (λ e. absurd (omega arith))) b in
    subst (Right (row (units abbrevs) (at_start (length info))) 0 info) e ((units_exact abbrevs (at_start (length info))).right 0 info)

pub first_fault : (abbrevs info : List ℕ) (at : ℕ) (kept : Units) (e : UnitsErr) → at < length info → IsReadTo abbrevs info at kept → RefusesUnit abbrevs info at kept e → IsRefusal abbrevs info e
first_fault abbrevs info at kept (UnitsErr.Info offset rule) i h f = fault_is abbrevs info at kept rule (in_info offset) i h (f (length info - at))
first_fault abbrevs info at kept (UnitsErr.Abbrev offset rule) i h f = fault_is abbrevs info at kept rule _ i h (f (length info - at))
first_fault abbrevs info at kept UnitsErr.Memory i h f = tt
