-- The units of `.debug_info`, each with its header, its abbreviation table and its entries: DWARF 5, 7.5.1.
use Rattle.std.specs.Prelude.{◌≡◌, ℕ, ◌+◌, ◌-◌, ◌==◌, nat_lt, Bool, if◌then◌else◌, List, [], ◌∷◌, ◌++◌, length, map, Option, Some, None}
use Rattle.rv_bytes.specs.Forms.{Form, follow, made, here, item, Steps, row}
use Rattle.rv_bytes.specs.Numbers.{number}
use Rattle.rv_bytes.specs.Nested.{boxed, elsewhere, within}
use Rattle.dwarf_abbrev.specs.Rules.{table_outside}
use Rattle.dwarf_abbrev.specs.Tables.{table}
use Rattle.dwarf_abbrev.specs.declared.decl.Abbrev.{Abbrev}
use Rattle.entry_tree.specs.Entries.{Entry as Node}
use Rattle.dwarf_units.specs.Rules.{reserved_length, version, not_compile, address_size}
use Rattle.dwarf_units.specs.Spots.{Spot, in_info, in_abbrev}
use Rattle.dwarf_units.specs.Entries.{Entry, tree}
use Rattle.dwarf_units.specs.declared.header.UnitHeader.{UnitHeader}
use Rattle.dwarf_units.specs.declared.fault.UnitsErr.{UnitsErr}

-- a unit: its header, the table that the header names, and its entries in prefix order
pub record CompileUnit : Type 0 where
  pub header : UnitHeader
  pub table : List Abbrev
  pub entries : List Entry

-- the rule that a number breaks which isn't the wanted one
abbrev pub wants : ℕ → ℕ → ℕ → Option ℕ
wants wanted rule n = if n == wanted then None else Some rule

-- the rule that a unit_length breaks
abbrev pub length_breaks : ℕ → Option ℕ
length_breaks n = if nat_lt n 0xfffffff0 then None else Some reserved_length

-- the rule that a debug_abbrev_offset breaks, in a section of abbreviations
abbrev pub table_breaks : List ℕ → ℕ → Option ℕ
table_breaks abbrevs at = if nat_lt at (length abbrevs) then None else Some table_outside

-- a field of a header, of so many bytes
abbrev pub field : ℕ → (ℕ → Option ℕ) → Form Spot ℕ
field width breaks = within in_info (item (number width) breaks)

-- a header after its length: version 5, DW_UT_compile, 8 bytes in an address, and where the table begins
abbrev pub header : List ℕ → Form Spot ℕ
header abbrevs =
    follow (field 2 (wants 5 version)) (λ _. follow (field 1 (wants 1 not_compile)) (λ _. follow (field 1 (wants 8 address_size)) (λ _. field 4 (table_breaks abbrevs))))

-- how far a section is read: the bytes that are left, how many units there were, and all their entries
pub record SoFar : Type 0 where
  pub left : ℕ
  pub units : ℕ
  pub nodes : List Node

-- the header of a unit at place n, of so many bytes after its length, with its table at this place
abbrev pub header_of : ℕ → ℕ → ℕ → UnitHeader
header_of n size at = record { offset = n; unit_length = size; abbrev_offset = at }

abbrev pub unit_of : ℕ → ℕ → ℕ → List Abbrev → List Entry → CompileUnit
unit_of n size at list es = record { header = header_of n size at; table = list; entries = es }

-- what the length of a unit at place n counts, and after which anything may follow
abbrev pub body : List ℕ → SoFar → ℕ → ℕ → Form Spot CompileUnit
body abbrevs s n size =
    follow (header abbrevs) (λ at. follow (elsewhere abbrevs at (within in_abbrev table)) (λ list. made (unit_of n size at list) (within in_info (tree list s.units s.nodes))))

abbrev pub unit_here : List ℕ → SoFar → ℕ → Form Spot CompileUnit
unit_here abbrevs s n = follow (field 4 length_breaks) (λ size. boxed (in_info n) size (body abbrevs s n size))

-- a unit; one that passes the section is short at its length
abbrev pub unit : List ℕ → SoFar → Form Spot CompileUnit
unit abbrevs s = here (unit_here abbrevs s)

abbrev pub nodes_in : List Entry → List Node
nodes_in es = map (λ e. e.node) es

abbrev pub after_unit : SoFar → CompileUnit → SoFar
after_unit s u = record { left = s.left - (u.header.unit_length + 4); units = s.units + 1; nodes = s.nodes ++ nodes_in u.entries }

-- units up to the section's end
abbrev pub units : List ℕ → Steps SoFar CompileUnit Spot
units abbrevs = record { over = λ s. s.left == 0; due = unit abbrevs; next = after_unit }

-- at the start of a section of so many bytes
abbrev pub at_start : ℕ → SoFar
at_start size = record { left = size; units = 0; nodes = [] }

-- `.debug_info` consists of these units, whose tables are in `.debug_abbrev`
abbrev pub AreUnits : List ℕ → List ℕ → List CompileUnit → Type 0
AreUnits abbrevs info us = (row (units abbrevs) (at_start (length info))).spells 0 us info

-- the first invalid item of the two sections breaks this rule, and is at this place
abbrev pub IsFirstFault : List ℕ → List ℕ → ℕ → Spot → Type 0
IsFirstFault abbrevs info rule spot = (row (units abbrevs) (at_start (length info))).faults 0 info rule spot

-- the same for the answer of a call; out of memory says nothing of the bytes
abbrev pub IsRefusal : List ℕ → List ℕ → UnitsErr → Type 0
IsRefusal abbrevs info (UnitsErr.Info offset rule) = IsFirstFault abbrevs info rule (in_info offset)
IsRefusal abbrevs info (UnitsErr.Abbrev offset rule) = IsFirstFault abbrevs info rule (in_abbrev offset)
IsRefusal abbrevs info UnitsErr.Memory = Unit {0}
