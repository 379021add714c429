-- The readers of entries, for proofs.
use Rattle.std.specs.Prelude.{◌≡◌, ℕ, List, [], ◌∷◌, Option, Some, None}
use Rattle.rv_bytes.specs.Readers.{got, Reader, and_then, with_value, as_item, read_each, read_row}
use Rattle.rv_bytes.specs.NumberReaders.{read_uleb}
use Rattle.rv_bytes.specs.declared.err.DwErr.{DwErr}
use Rattle.dwarf_abbrev.specs.AttrReaders.{read_attr}
use Rattle.dwarf_abbrev.specs.Declarations.{find_code}
use Rattle.dwarf_abbrev.specs.declared.attr.Spec.{Spec}
use Rattle.dwarf_abbrev.specs.declared.decl.Abbrev.{Abbrev}
use Rattle.entry_tree.specs.Entries.{Entry as Node}
use Rattle.dwarf_units.specs.Entries.{Attribute, Entry, Walk, due_under, code_breaks, attribute_of, entry_of, after, present}

-- the reader of `attribute`
abbrev pub read_attribute : Spec → Reader ℕ Attribute
read_attribute spec n s = with_value (attribute_of spec n) (read_attr spec n s)

-- the reader of the attributes of a declaration
abbrev pub read_attributes : List Spec → Reader ℕ (List Attribute)
read_attributes specs n s = read_each read_attribute specs n s

-- the reader of `after_code`
abbrev pub read_after_code : ℕ → Walk → ℕ → ℕ → Option Abbrev → Reader ℕ (Option Entry)
read_after_code unit s n code None m k = got None m k
read_after_code unit s n code (Some a) m k = with_value (entry_of unit s n code a) (read_attributes a.specs m k)

-- the reader of `entry`
abbrev pub read_entry : List Abbrev → ℕ → Walk → Reader ℕ (Option Entry)
read_entry list unit s n t = and_then (as_item (code_breaks list s) n (read_uleb n t)) (λ code m k. read_after_code unit s n code (find_code list code) m k)

-- the reader of the row of `entries`
abbrev pub read_entries : List Abbrev → ℕ → Walk → Reader ℕ (List (Option Entry))
read_entries list unit s n t = read_row (λ s. s.ended) (read_entry list unit) after 0 s n t

-- the reader of `tree`
abbrev pub read_tree : List Abbrev → ℕ → List Node → Reader ℕ (List Entry)
read_tree list unit before n t = with_value present (read_entries list unit (due_under before None) n t)

-- where the entries lead to, one after the other
abbrev pub after_all : Walk → List (Option Entry) → Walk
after_all s [] = s
after_all s (e ∷ es) = after_all (after s e) es

-- all entries of the section, after those of a unit
abbrev pub nodes_after : Walk → List (Option Entry) → List Node
nodes_after s es = (after_all s es).nodes

-- a value of which nothing is kept
abbrev pub nothing_of : {A : Type 0} → A → Unit {0}
nothing_of a = tt

-- what one entry more breaks is the rule of the refusal, which is at the entry's place
abbrev pub IsPlaceFault : Option ℕ → ℕ → DwErr → Type 0
IsPlaceFault breaks at (DwErr.Refused offset rule) = (breaks ≡ Some rule) × (offset ≡ at)
IsPlaceFault breaks at DwErr.Memory = Unit {0}
