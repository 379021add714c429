-- What the calls that read a unit do, from what their parts do.
use Rattle.std.proofs.Common.{◌≡◌, ◌<◌, ◌≤◌, ℕ, ◌+◌, ◌-◌, List, [], ◌∷◌, ◌++◌, length, take, drop, Option, None, Result, Ok, Err, refl, sym, ap, subst, ◌∙◌, arith, length-append, length-drop, length-take-le}
use Rattle.std.proofs.lemmas.List.{drop-take}
use Rattle.rv_bytes.specs.Places.{Place}
use Rattle.rv_bytes.specs.Readers.{got, bad, with_value}
use Rattle.rv_bytes.specs.Results.{ReadsBy}
use Rattle.rv_bytes.specs.Sections.{BeginsAt}
use Rattle.rv_bytes.specs.declared.err.DwErr.{DwErr}
use Rattle.rv_bytes.proofs.Exact.{Right}
use Rattle.rv_bytes.proofs.Turns.{bad_back}
use Rattle.dwarf_abbrev.specs.Tables.{table}
use Rattle.dwarf_abbrev.specs.declared.decl.Abbrev.{Abbrev}
use Rattle.entry_tree.specs.Entries.{Entry as Node}
use Rattle.dwarf_units.specs.Entries.{due_under, present}
use Rattle.dwarf_units.specs.EntryReaders.{read_entries, nodes_after}
use Rattle.dwarf_units.specs.Follows.{MayFollow}
use Rattle.dwarf_units.specs.Units.{CompileUnit, SoFar, field, length_breaks, header_of, unit_of, body}
use Rattle.dwarf_units.specs.UnitReaders.{read_field, read_header, read_body, info_refusal}
use Rattle.dwarf_units.specs.UnitCalls.{so_far, TakesBody, RefusesBody, TakesUnit, RefusesUnit}
use Rattle.dwarf_units.specs.declared.fault.UnitsErr.{UnitsErr}
use Rattle.dwarf_units.specs.declared.header.UnitHeader.{UnitHeader}
use Rattle.dwarf_units.specs.declared.units.Units.{Units}
use Rattle.dwarf_units.proofs.Follows.{follows_later}
use Rattle.dwarf_units.proofs.UnitReads.{field_exact, field_past, body_exact}
use Rattle.dwarf_units.proofs.Bodies.{entries_refuse, unit_reads, unit_refuses}

-- what is refused among the entries, is refused of the body
pub entries_refused : (abbrevs : List ℕ) (before : Units) (cut : Place) (list : List Abbrev) (at m : ℕ) (k : List ℕ) (view : Unit {0} → List Node) (e : DwErr) (q : Place)
    → read_header abbrevs cut.at cut.rest ≡ got at m k → BeginsAt table abbrevs at list
    → ReadsBy view (with_value (nodes_after (due_under before.tree None)) (read_entries list (length before.headers) (due_under before.tree None) m k)) (Err e) q → RefusesBody abbrevs cut before (info_refusal e)
entries_refused abbrevs before cut list at m k view (DwErr.Refused o r) q h b g =
    λ left n size. entries_refuse abbrevs (so_far left before) n size cut.at cut.rest at m k list r o h b (bad_back (nodes_after (due_under before.tree None)) r o (read_entries list (length before.headers) (due_under before.tree None) m k) g)
entries_refused abbrevs before cut list at m k view DwErr.Memory q h b g = tt

-- a field and what follows it are all the bytes from its place on
field_long : (width : ℕ) (breaks : ℕ → Option ℕ) (section : List ℕ) (n v m : ℕ) (k : List ℕ) → read_field width breaks n (drop n section) ≡ got v m k → length section - n ≡ width + length k
field_long width breaks section n v m k h =
    let w = subst (Right (field width breaks) n (drop n section)) h ((field_exact width breaks).right n (drop n section)) in
    let long : length w.0 ≡ width = w.1.0.0.1.1.1 in
    omega (arith, long, ap length w.1.1.0, length-append w.0 k, length-drop n section)

-- a body ends inside its bytes
body_inside : (abbrevs : List ℕ) (s : SoFar) (n size p : ℕ) (t : List ℕ) (u : CompileUnit) (j : ℕ) (l : List ℕ) → read_body abbrevs s n size p t ≡ got u j l → j ≤ p + length t
body_inside abbrevs s n size p t u j l h =
    let w = subst (Right (body abbrevs s n size) p t) h ((body_exact abbrevs s n size).right p t) in
    omega (arith, w.1.1.1, ap length w.1.1.0, length-append w.0 l)

-- the bytes of a body, and their place
abbrev pub body_place : List ℕ → ℕ → ℕ → Place
body_place info start size = record { at = start; rest = drop start (take (start + size) info) }

-- a length and a body make a unit
pub unit_taken : (abbrevs info : List ℕ) (at size start : ℕ) (k : List ℕ) (q r : Place) (before mid : Units) (abbrev_offset : ℕ) (headers : List UnitHeader) → read_field 4 length_breaks at (drop at info) ≡ got size start k → size ≤ length k
    → at ≤ length info → q ≡ body_place info start size → TakesBody abbrevs q r before mid abbrev_offset → headers ≡ mid.headers ++ header_of at size abbrev_offset ∷ []
    → TakesUnit abbrevs info at before (record { headers = headers; tree = mid.tree; tables = mid.tables }) (start + size)
unit_taken abbrevs info at size start k q r before mid abbrev_offset headers h i inside e b hs =
    let u = unit_of at size abbrev_offset b.table b.entries in
    let past = field_past 4 length_breaks info at size start k h in
    let long = field_long 4 length_breaks info at size start k h in
    record {
      unit = u;
      reads = λ left. unit_reads abbrevs info (so_far left before) at size start k u r.at r.rest h i
          (ap (λ (p : Place). read_body abbrevs (so_far left before) at size p.at p.rest) (sym e) ∙ b.reads left at size);
      rises = omega (arith, past.0);
      inside = omega (arith, past.0, long, i, inside);
      size = omega (arith, past.0);
      headers = hs ∙ ap (λ l. l ++ header_of at size abbrev_offset ∷ []) b.headers;
      tree = b.tree;
      there = b.there;
      kept = b.kept;
    }

-- what is refused of the body, is refused of the unit
pub unit_refused : (abbrevs info : List ℕ) (at size start : ℕ) (k : List ℕ) (q : Place) (before : Units) (e : UnitsErr) → read_field 4 length_breaks at (drop at info) ≡ got size start k → size ≤ length k
    → q ≡ body_place info start size → RefusesBody abbrevs q before e → RefusesUnit abbrevs info at before e
unit_refused abbrevs info at size start k q before (UnitsErr.Info o rule) h i e f =
    λ left. unit_refuses abbrevs info (so_far left before) at size start k rule _ h i (ap (λ (p : Place). read_body abbrevs (so_far left before) at size p.at p.rest) (sym e) ∙ f left at size)
unit_refused abbrevs info at size start k q before (UnitsErr.Abbrev o rule) h i e f =
    λ left. unit_refuses abbrevs info (so_far left before) at size start k rule _ h i (ap (λ (p : Place). read_body abbrevs (so_far left before) at size p.at p.rest) (sym e) ∙ f left at size)
unit_refused abbrevs info at size start k q before UnitsErr.Memory h i e f = tt

-- after a unit the next one may follow
pub unit_follows : (abbrevs info : List ℕ) (at size start : ℕ) (k : List ℕ) (q r : Place) (before mid : Units) (abbrev_offset : ℕ) → read_field 4 length_breaks at (drop at info) ≡ got size start k → size ≤ length k
    → q ≡ body_place info start size → TakesBody abbrevs q r before mid abbrev_offset → MayFollow mid.tree None r.at → MayFollow mid.tree None (start + size)
unit_follows abbrevs info at size start k q r before mid abbrev_offset h i e b f =
    let past = field_past 4 length_breaks info at size start k h in
    let bytes : length (drop start (take (start + size) info)) ≡ size =
    ap length (drop-take start size info) ∙ length-take-le size (drop start info) (subst (λ l. size ≤ length l) past.1 i) in
    let reads = ap (λ (p : Place). read_body abbrevs (so_far 0 before) at size p.at p.rest) (sym e) ∙ b.reads 0 at size in
    let ends = body_inside abbrevs (so_far 0 before) at size start (drop start (take (start + size) info)) (unit_of at size abbrev_offset b.table b.entries) r.at r.rest reads in
    follows_later mid.tree None r.at (start + size) f (omega (arith, ends, bytes))
