-- The readers of units are exact, so bytes are read in one way at most.
use Rattle.std.proofs.Common.{◌≡◌, ◌<◌, ℕ, ◌+◌, ◌-◌, ◌==◌, List, length, drop, Option, ap, subst, sym, ◌∙◌, arith, length-append, drop-drop}
use Rattle.std.proofs.Math.Seq.{drop-append_seam}
use Rattle.rv_bytes.specs.Forms.{item, row}
use Rattle.rv_bytes.specs.Numbers.{number}
use Rattle.rv_bytes.specs.NumberReaders.{read_number}
use Rattle.rv_bytes.specs.Nested.{boxed, elsewhere, within}
use Rattle.rv_bytes.specs.NestedReaders.{read_boxed, read_elsewhere, spotted}
use Rattle.rv_bytes.specs.Readers.{got, and_then, with_value, as_item}
use Rattle.rv_bytes.proofs.Exact.{Right, Exact, follow_exact, made_exact, here_exact, item_exact, definite}
use Rattle.rv_bytes.proofs.ByteNumbers.{number_exact}
use Rattle.rv_bytes.proofs.Nested.{boxed_exact, elsewhere_exact, within_exact}
use Rattle.rv_bytes.proofs.Rows.{HasBytes, AllExact, row_exact}
use Rattle.dwarf_abbrev.specs.Tables.{table}
use Rattle.dwarf_abbrev.specs.TableReaders.{read_table}
use Rattle.dwarf_abbrev.proofs.Tables.{table_exact}
use Rattle.dwarf_units.specs.Rules.{version, not_compile, address_size}
use Rattle.dwarf_units.specs.Spots.{in_info, in_abbrev}
use Rattle.dwarf_units.specs.Entries.{tree}
use Rattle.dwarf_units.specs.EntryReaders.{read_tree}
use Rattle.dwarf_units.specs.Units.{wants, length_breaks, table_breaks, field, header, SoFar, unit_of, body, unit_here, unit, units}
use Rattle.dwarf_units.specs.UnitReaders.{read_field, read_header, read_table_at, read_body, read_unit, read_units}
use Rattle.dwarf_units.specs.Laws.{OneSplit}
use Rattle.dwarf_units.proofs.Entries.{front_byte, tree_exact}

pub field_exact : (width : ℕ) (breaks : ℕ → Option ℕ) → Exact (field width breaks) (read_field width breaks)
field_exact width breaks =
    within_exact in_info (item (number width) breaks) (λ n s. as_item breaks n (read_number width n s)) (item_exact (number width) (read_number width) breaks (number_exact width))

pub header_exact : (abbrevs : List ℕ) → Exact (header abbrevs) (read_header abbrevs)
header_exact abbrevs =
    follow_exact _ _ (read_field 2 (wants 5 version)) _ (field_exact 2 (wants 5 version)) (λ _. follow_exact _ _ (read_field 1 (wants 1 not_compile)) _ (field_exact 1 (wants 1 not_compile))
    (λ _. follow_exact _ _ (read_field 1 (wants 8 address_size)) _ (field_exact 1 (wants 8 address_size)) (λ _. field_exact 4 (table_breaks abbrevs))))

table_at_exact : (abbrevs : List ℕ) (at : ℕ) → Exact (elsewhere abbrevs at (within in_abbrev table)) (read_table_at abbrevs at)
table_at_exact abbrevs at = elsewhere_exact abbrevs at (within in_abbrev table) (λ n s. spotted in_abbrev (read_table n s)) (within_exact in_abbrev table read_table table_exact)

pub body_exact : (abbrevs : List ℕ) (s : SoFar) (n size : ℕ) → Exact (body abbrevs s n size) (read_body abbrevs s n size)
body_exact abbrevs s n size =
    follow_exact _ _ (read_header abbrevs) _ (header_exact abbrevs) (λ at. follow_exact _ _ (read_table_at abbrevs at) _ (table_at_exact abbrevs at)
    (λ list. made_exact (unit_of n size at list) (within in_info (tree list s.units s.nodes)) (λ m t. spotted in_info (read_tree list s.units s.nodes m t))
    (within_exact in_info (tree list s.units s.nodes) (read_tree list s.units s.nodes) (tree_exact list s.units s.nodes))))

pub unit_exact : (abbrevs : List ℕ) (s : SoFar) → Exact (unit abbrevs s) (read_unit abbrevs s)
unit_exact abbrevs s = here_exact (unit_here abbrevs s) (λ n j t. and_then (read_field 4 length_breaks j t) (λ size m k. read_boxed (in_info n) size (read_body abbrevs s n size) m k))
    (λ n. follow_exact _ _ (read_field 4 length_breaks) _ (field_exact 4 length_breaks) (λ size. boxed_exact (in_info n) size (body abbrevs s n size) (read_body abbrevs s n size) (body_exact abbrevs s n size)))

pub units_byte : (abbrevs : List ℕ) → HasBytes (units abbrevs)
units_byte abbrevs s n v t o h = front_byte _ _ n t (λ u w. omega (arith, w.0.1.1.1)) h.1

pub units_all : (abbrevs : List ℕ) → AllExact (units abbrevs) (read_unit abbrevs)
units_all abbrevs s o = unit_exact abbrevs s

pub units_exact : (abbrevs : List ℕ) (s : SoFar) → Exact (row (units abbrevs) s) (read_units abbrevs s)
units_exact abbrevs s = row_exact (units abbrevs) (read_unit abbrevs) (in_info 0) (units_byte abbrevs) (units_all abbrevs) s

pub one_split : OneSplit
one_split abbrevs s = definite (row (units abbrevs) s) (read_units abbrevs s) (units_exact abbrevs s)

-- after a field of a section its place is that of the next byte
pub field_past : (width : ℕ) (breaks : ℕ → Option ℕ) (section : List ℕ) (n v m : ℕ) (k : List ℕ) → read_field width breaks n (drop n section) ≡ got v m k → (m ≡ n + width) × (k ≡ drop m section)
field_past width breaks section n v m k h =
    let w = subst (Right (field width breaks) n (drop n section)) h ((field_exact width breaks).right n (drop n section)) in
    let long : length w.0 ≡ width = w.1.0.0.1.1.1 in
    let past : m ≡ n + length w.0 = w.1.1.1 in (
      past ∙ ap (λ j. n + j) long,
      sym (drop-append_seam w.0 k) ∙ ap (drop (length w.0)) (sym w.1.1.0) ∙ drop-drop (length w.0) n section ∙ ap (λ j. drop j section) (sym past),
    )
