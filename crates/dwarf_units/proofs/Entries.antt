-- The readers of entries are exact.
use Rattle.std.proofs.Common.{◌<◌, ℕ, List, [], ◌∷◌, length, Option, Some, None, ap, arith, length-append}
use Rattle.rv_bytes.specs.Forms.{Splits, made, each, item, row}
use Rattle.rv_bytes.specs.Readers.{and_then, with_value, as_item}
use Rattle.rv_bytes.specs.Numbers.{uleb, IsUleb}
use Rattle.rv_bytes.specs.NumberReaders.{read_uleb}
use Rattle.rv_bytes.proofs.Exact.{Exact, nothing_exact, follow_exact, made_exact, each_exact, here_exact, item_exact}
use Rattle.rv_bytes.proofs.Lebs.{uleb_exact}
use Rattle.rv_bytes.proofs.Rows.{HasBytes, AllExact, row_exact}
use Rattle.dwarf_abbrev.specs.Attrs.{attr_form}
use Rattle.dwarf_abbrev.specs.AttrReaders.{read_attr}
use Rattle.dwarf_abbrev.specs.Declarations.{find_code}
use Rattle.dwarf_abbrev.specs.declared.attr.Spec.{Spec}
use Rattle.dwarf_abbrev.specs.declared.decl.Abbrev.{Abbrev}
use Rattle.dwarf_abbrev.proofs.Attrs.{attr_exact}
use Rattle.entry_tree.specs.Entries.{Entry as Node}
use Rattle.dwarf_units.specs.Entries.{Walk, due_under, code_breaks, attribute_of, attribute, entry_of, after_code, entry_here, entry, entries, present, tree}
use Rattle.dwarf_units.specs.EntryReaders.{read_attribute, read_attributes, read_after_code, read_entry, read_entries, read_tree}

pub attribute_exact : (spec : Spec) → Exact (attribute spec) (read_attribute spec)
attribute_exact spec = here_exact (λ n. made (attribute_of spec n) (attr_form spec)) (λ n m s. with_value (attribute_of spec n) (read_attr spec m s)) (λ n. made_exact (attribute_of spec n) (attr_form spec) (read_attr spec) (attr_exact spec))

pub attributes_exact : (specs : List Spec) → Exact (each attribute specs) (read_attributes specs)
attributes_exact specs = each_exact attribute read_attribute attribute_exact specs

after_code_exact : (unit : ℕ) (s : Walk) (n code : ℕ) (o : Option Abbrev) → Exact (after_code unit s n code o) (read_after_code unit s n code o)
after_code_exact unit s n code None = nothing_exact None
after_code_exact unit s n code (Some a) = made_exact (entry_of unit s n code a) (each attribute a.specs) (read_attributes a.specs) (attributes_exact a.specs)

pub entry_exact : (list : List Abbrev) (unit : ℕ) (s : Walk) → Exact (entry list unit s) (read_entry list unit s)
entry_exact list unit s =
    here_exact (entry_here list unit s) (λ n j t. and_then (as_item (code_breaks list s) j (read_uleb j t)) (λ code m k. read_after_code unit s n code (find_code list code) m k))
    (λ n. follow_exact _ _ (λ j t. as_item (code_breaks list s) j (read_uleb j t)) _ (item_exact uleb read_uleb (code_breaks list s) uleb_exact) (λ code. after_code_exact unit s n code (find_code list code)))

-- a LEB128 number has a byte
uleb_byte : (n : ℕ) (t : List ℕ) → IsUleb n t → 0 < length t
uleb_byte n t h = omega (arith, ap length h.0.bytes, length-append h.0.front (h.0.last ∷ []))

-- what begins with a byte has a byte
pub front_byte : (F : List ℕ → Type 0) (B : ℕ → List ℕ → Type 0) (n : ℕ) (t : List ℕ) → ((u : List ℕ) → F u → 0 < length u) → Splits F B n t → 0 < length t
front_byte F B n t f w = let one : 0 < length w.front = f w.front w.is_front in omega (arith, one, ap length w.split, length-append w.front w.back)

pub entries_byte : (list : List Abbrev) (unit : ℕ) → HasBytes (entries list unit)
entries_byte list unit s n v t o h = front_byte _ _ n t (λ u w. uleb_byte h.0 u w.0) h.1

pub entries_all : (list : List Abbrev) (unit : ℕ) → AllExact (entries list unit) (read_entry list unit)
entries_all list unit s o = entry_exact list unit s

pub entries_exact : (list : List Abbrev) (unit : ℕ) (s : Walk) → Exact (row (entries list unit) s) (read_entries list unit s)
entries_exact list unit s = row_exact (entries list unit) (read_entry list unit) 0 (entries_byte list unit) (entries_all list unit) s

pub tree_exact : (list : List Abbrev) (unit : ℕ) (before : List Node) → Exact (tree list unit before) (read_tree list unit before)
tree_exact list unit before = made_exact present (row (entries list unit) (due_under before None)) (read_entries list unit (due_under before None)) (entries_exact list unit (due_under before None))
