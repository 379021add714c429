-- What follows a unit's length, and a unit.
use Rattle.std.proofs.Common.{◌≡◌, ◌<◌, ◌≤◌, ℕ, ◌+◌, List, ◌++◌, length, take, drop, map, nat_le, if◌then◌else◌, Option, Some, None, refl, sym, ap, subst, ◌∙◌, arith, drop-drop}
use Rattle.std.proofs.lemmas.Bool.{le-leb, lt-leb}
use Rattle.std.proofs.lemmas.List.{drop-take}
use Rattle.rv_bytes.specs.Rules.{short}
use Rattle.rv_bytes.specs.Readers.{Res, got, bad, and_then, with_value}
use Rattle.rv_bytes.specs.NestedReaders.{resume, read_boxed, spotted}
use Rattle.rv_bytes.specs.Sections.{BeginsAt}
use Rattle.rv_bytes.proofs.Sections.{begins_got}
use Rattle.dwarf_abbrev.specs.Tables.{table}
use Rattle.dwarf_abbrev.specs.TableReaders.{read_table}
use Rattle.dwarf_abbrev.specs.declared.decl.Abbrev.{Abbrev}
use Rattle.dwarf_abbrev.proofs.Tables.{table_exact}
use Rattle.entry_tree.specs.Entries.{Entry as Node}
use Rattle.dwarf_units.specs.Spots.{Spot, in_info, in_abbrev}
use Rattle.dwarf_units.specs.Entries.{Entry, due_under, present}
use Rattle.dwarf_units.specs.EntryReaders.{read_entries, read_tree, nodes_after}
use Rattle.dwarf_units.specs.Units.{CompileUnit, length_breaks, SoFar, unit_of, nodes_in}
use Rattle.dwarf_units.specs.UnitReaders.{read_field, read_header, read_table_at, read_body, read_unit}
use Rattle.dwarf_units.proofs.Results.{got_back}
use Rattle.dwarf_units.proofs.UnitReads.{field_past}
use Rattle.dwarf_units.proofs.Walks.{nodes_are}

-- a table that begins at a place is read there
table_got : (abbrevs : List ℕ) (at : ℕ) (list : List Abbrev) (m : ℕ) (k : List ℕ) → BeginsAt table abbrevs at list → read_table_at abbrevs at m k ≡ got list m k
table_got abbrevs at list m k b = ap (λ x. resume m k (spotted in_abbrev x)) (begins_got table read_table table_exact abbrevs at list b)

-- header, table and entries make a body
pub body_reads : (abbrevs : List ℕ) (s : SoFar) (n size p : ℕ) (t : List ℕ) (at m : ℕ) (k : List ℕ) (list : List Abbrev) (es : List (Option Entry)) (j : ℕ) (l : List ℕ)
    → read_header abbrevs p t ≡ got at m k → BeginsAt table abbrevs at list → read_entries list s.units (due_under s.nodes None) m k ≡ got es j l
    → read_body abbrevs s n size p t ≡ got (unit_of n size at list (present es)) j l
body_reads abbrevs s n size p t at m k list es j l h b r =
    ap (λ x. and_then x (λ at m t. and_then (read_table_at abbrevs at m t) (λ list m t. with_value (unit_of n size at list) (spotted in_info (read_tree list s.units s.nodes m t))))) h
    ∙ ap (λ x. and_then x (λ list m t. with_value (unit_of n size at list) (spotted in_info (read_tree list s.units s.nodes m t)))) (table_got abbrevs at list m k b)
    ∙ ap (λ x. with_value (unit_of n size at list) (spotted in_info (with_value present x))) r

-- the three ways in which it is refused
pub header_refuses : (abbrevs : List ℕ) (s : SoFar) (n size p : ℕ) (t : List ℕ) (r : ℕ) (m : Spot) → read_header abbrevs p t ≡ bad r m → read_body abbrevs s n size p t ≡ bad r m
header_refuses abbrevs s n size p t r m h =
    ap (λ x. and_then x (λ at m t. and_then (read_table_at abbrevs at m t) (λ list m t. with_value (unit_of n size at list) (spotted in_info (read_tree list s.units s.nodes m t))))) h

pub table_refuses : (abbrevs : List ℕ) (s : SoFar) (n size p : ℕ) (t : List ℕ) (at m : ℕ) (k : List ℕ) (r o : ℕ) → read_header abbrevs p t ≡ got at m k → read_table at (drop at abbrevs) ≡ bad r o
    → read_body abbrevs s n size p t ≡ bad r (in_abbrev o)
table_refuses abbrevs s n size p t at m k r o h b =
    ap (λ x. and_then x (λ at m t. and_then (read_table_at abbrevs at m t) (λ list m t. with_value (unit_of n size at list) (spotted in_info (read_tree list s.units s.nodes m t))))) h
    ∙ ap (λ x. and_then (resume m k (spotted in_abbrev x)) (λ list m t. with_value (unit_of n size at list) (spotted in_info (read_tree list s.units s.nodes m t)))) b

pub entries_refuse : (abbrevs : List ℕ) (s : SoFar) (n size p : ℕ) (t : List ℕ) (at m : ℕ) (k : List ℕ) (list : List Abbrev) (r o : ℕ)
    → read_header abbrevs p t ≡ got at m k → BeginsAt table abbrevs at list → read_entries list s.units (due_under s.nodes None) m k ≡ bad r o
    → read_body abbrevs s n size p t ≡ bad r (in_info o)
entries_refuse abbrevs s n size p t at m k list r o h b e =
    ap (λ x. and_then x (λ at m t. and_then (read_table_at abbrevs at m t) (λ list m t. with_value (unit_of n size at list) (spotted in_info (read_tree list s.units s.nodes m t))))) h
    ∙ ap (λ x. and_then x (λ list m t. with_value (unit_of n size at list) (spotted in_info (read_tree list s.units s.nodes m t)))) (table_got abbrevs at list m k b)
    ∙ ap (λ x. with_value (unit_of n size at list) (spotted in_info (with_value present x))) e

-- the entries that a walk led to are those before it and those that were read
pub entries_back : (list : List Abbrev) (unit : ℕ) (before z : List Node) (m : ℕ) (k : List ℕ) (j : ℕ) (l : List ℕ) → with_value (nodes_after (due_under before None)) (read_entries list unit (due_under before None) m k) ≡ got z j l
    → (es : List (Option Entry)) × ((read_entries list unit (due_under before None) m k ≡ got es j l) × (z ≡ before ++ nodes_in (present es)))
entries_back list unit before z m k j l h =
    let v = got_back (nodes_after (due_under before None)) z j l (read_entries list unit (due_under before None) m k) h in
    (v.0, (v.1.0, sym v.1.1 ∙ nodes_are (due_under before None) v.0))

-- a unit's length and its body make a unit
pub unit_reads : (abbrevs info : List ℕ) (s : SoFar) (at size m : ℕ) (k : List ℕ) (u : CompileUnit) (j : ℕ) (l : List ℕ)
    → read_field 4 length_breaks at (drop at info) ≡ got size m k → size ≤ length k → read_body abbrevs s at size m (drop m (take (m + size) info)) ≡ got u j l
    → read_unit abbrevs s at (drop at info) ≡ got u (m + size) (drop (m + size) info)
unit_reads abbrevs info s at size m k u j l h i b =
    let past = field_past 4 length_breaks info at size m k h in
    ap (λ x. and_then x (λ size m k. read_boxed (in_info at) size (read_body abbrevs s at size) m k)) h
    ∙ rw (le-leb size (length k) i) (
    ap (λ t. resume (m + size) (drop size k) (read_body abbrevs s at size m t)) (ap (take size) past.1 ∙ sym (drop-take m size info))
    ∙ ap (resume (m + size) (drop size k)) b
    ∙ ap (λ t. got u (m + size) t) (ap (drop size) past.1 ∙ drop-drop size m info)
    )

pub unit_refuses : (abbrevs info : List ℕ) (s : SoFar) (at size m : ℕ) (k : List ℕ) (r : ℕ) (p : Spot)
    → read_field 4 length_breaks at (drop at info) ≡ got size m k → size ≤ length k → read_body abbrevs s at size m (drop m (take (m + size) info)) ≡ bad r p
    → read_unit abbrevs s at (drop at info) ≡ bad r p
unit_refuses abbrevs info s at size m k r p h i b =
    let past = field_past 4 length_breaks info at size m k h in
    ap (λ x. and_then x (λ size m k. read_boxed (in_info at) size (read_body abbrevs s at size) m k)) h
    ∙ rw (le-leb size (length k) i) (
    ap (λ t. resume (m + size) (drop size k) (read_body abbrevs s at size m t)) (ap (take size) past.1 ∙ sym (drop-take m size info))
    ∙ ap (resume (m + size) (drop size k)) b
    )

pub length_refuses : (abbrevs info : List ℕ) (s : SoFar) (at r : ℕ) (p : Spot) → read_field 4 length_breaks at (drop at info) ≡ bad r p → read_unit abbrevs s at (drop at info) ≡ bad r p
length_refuses abbrevs info s at r p h = ap (λ x. and_then x (λ size m k. read_boxed (in_info at) size (read_body abbrevs s at size) m k)) h

pub unit_is_short : (abbrevs info : List ℕ) (s : SoFar) (at size m : ℕ) (k : List ℕ) → read_field 4 length_breaks at (drop at info) ≡ got size m k → length k < size
    → read_unit abbrevs s at (drop at info) ≡ bad short (in_info at)
unit_is_short abbrevs info s at size m k h i =
    ap (λ x. and_then x (λ size m k. read_boxed (in_info at) size (read_body abbrevs s at size) m k)) h ∙ rw (lt-leb size (length k) i) refl
