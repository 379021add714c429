-- The entries of a unit in prefix order, with their attributes: DWARF 5, 2.3 and 7.5.2.
use Rattle.std.specs.Prelude.{ℕ, ◌==◌, ◌&&◌, not, Bool, true, false, if◌then◌else◌, List, [], ◌∷◌, ◌++◌, length, Option, Some, None, is_some, is_none, option_and_then}
use Rattle.rv_bytes.specs.Forms.{Form, nothing, follow, made, each, here, item, Steps, row}
use Rattle.rv_bytes.specs.Numbers.{uleb}
use Rattle.dwarf_abbrev.specs.Values.{Val}
use Rattle.dwarf_abbrev.specs.Attrs.{attr_form}
use Rattle.dwarf_abbrev.specs.Declarations.{find_code}
use Rattle.dwarf_abbrev.specs.declared.attr.Spec.{Spec}
use Rattle.dwarf_abbrev.specs.declared.decl.Abbrev.{Abbrev}
use Rattle.entry_tree.specs.Entries.{Entry as Node, new_entry, up_of, depth_of}
use Rattle.dwarf_units.specs.Rules.{not_compile, unknown_code, too_deep, too_many}

-- DW_TAG_compile_unit: DWARF 5, 7.5.3
abbrev pub compile_unit : ℕ
compile_unit = 0x11

-- an attribute of an entry: its code, its form, where its value begins, and the value
pub record Attribute : Type 0 where
  pub attr : ℕ
  pub form : ℕ
  pub offset : ℕ
  pub value : Val

-- an entry: where it is in the tree, whether a list of children follows it, and its attributes in order
pub record Entry : Type 0 where
  pub node : Node
  pub children : Bool
  pub attributes : List Attribute

-- among the entries of a unit: all entries of the section so far, the one whose children are due, and whether the unit's tree ended
pub record Walk : Type 0 where
  pub nodes : List Node
  pub under : Option ℕ
  pub ended : Bool

-- an entry below this one is due, or the unit's first one
abbrev pub due_under : List Node → Option ℕ → Walk
due_under t under = record { nodes = t; under = under; ended = false }

-- an entry below this one is due; where there is none, the tree has ended
abbrev pub goes_on : List Node → Option ℕ → Walk
goes_on t under = record { nodes = t; under = under; ended = is_none under }

-- the rule that one entry more breaks: it is nested too deep, or there are too many
abbrev pub place_breaks : Walk → Option ℕ
place_breaks s = if depth_of s.nodes s.under == 256 then Some too_deep else if length s.nodes == 8000000 then Some too_many else None

-- the rule that a code breaks which has this declaration. Without one only the code 0 may be there, which ends the children of an
-- entry; and a unit's first entry is a compile_unit.
abbrev pub declared_breaks : Walk → ℕ → Option Abbrev → Option ℕ
declared_breaks s code None = if code == 0 && is_some s.under then None else Some unknown_code
declared_breaks s code (Some a) = if is_none s.under && not (a.tag == compile_unit) then Some not_compile else place_breaks s

abbrev pub code_breaks : List Abbrev → Walk → ℕ → Option ℕ
code_breaks list s code = declared_breaks s code (find_code list code)

-- an attribute with this value at place n
abbrev pub attribute_of : Spec → ℕ → Val → Attribute
attribute_of spec n v = record { attr = spec.attr; form = spec.form; offset = n; value = v }

-- an attribute's value, with its place
abbrev pub attribute : Spec → Form ℕ Attribute
attribute spec = here (λ n. made (attribute_of spec n) (attr_form spec))

-- an entry of this unit at place n, with this code and declaration
abbrev pub entry_of : ℕ → Walk → ℕ → ℕ → Abbrev → List Attribute → Option Entry
entry_of unit s n code a attributes = Some (record { node = new_entry s.under n unit code a.tag; children = a.children; attributes = attributes })

-- what follows a code: the attributes of its declaration in order; nothing after the code 0, which is no entry
abbrev pub after_code : ℕ → Walk → ℕ → ℕ → Option Abbrev → Form ℕ (Option Entry)
after_code unit s n code None = nothing None
after_code unit s n code (Some a) = made (entry_of unit s n code a) (each attribute a.specs)

abbrev pub entry_here : List Abbrev → ℕ → Walk → ℕ → Form ℕ (Option Entry)
entry_here list unit s n = follow (item uleb (code_breaks list s)) (λ code. after_code unit s n code (find_code list code))

-- the next entry of a unit, or the code 0
abbrev pub entry : List Abbrev → ℕ → Walk → Form ℕ (Option Entry)
entry list unit s = here (entry_here list unit s)

-- after the code 0 the parent's siblings are due; after an entry its children, if it has a list of them, and else its siblings
abbrev pub after : Walk → Option Entry → Walk
after s None = goes_on s.nodes (option_and_then (up_of s.nodes) s.under)
after s (Some e) = goes_on (s.nodes ++ e.node ∷ []) (if e.children then Some (length s.nodes) else s.under)

-- entries and codes 0, until the tree of the first entry has ended
abbrev pub entries : List Abbrev → ℕ → Steps Walk (Option Entry) ℕ
entries list unit = record { over = λ s. s.ended; due = entry list unit; next = after }

-- those that are entries
abbrev pub present : List (Option Entry) → List Entry
present [] = []
present (None ∷ es) = present es
present (Some e ∷ es) = e ∷ present es

-- the tree of this unit, where these are the entries of the units before it
abbrev pub tree : List Abbrev → ℕ → List Node → Form ℕ (List Entry)
tree list unit before = made present (row (entries list unit) (due_under before None))
