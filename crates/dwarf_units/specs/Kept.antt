-- What is kept of units: the headers, the tree of all entries, and the tables; and an entry's attributes, which are read again.
use Rattle.std.specs.Prelude.{◌≡◌, ℕ, List, [], ◌∷◌, ◌++◌, map, Option, Some, All}
use Rattle.std.specs.Ordering.{nat_cmp}
use Rattle.std.specs.BTreeMap.{get}
use Rattle.rv_bytes.specs.Sections.{BeginsAt}
use Rattle.dwarf_abbrev.specs.Tables.{table}
use Rattle.dwarf_abbrev.specs.declared.decl.Abbrev.{Abbrev}
use Rattle.dwarf_units.specs.Entries.{Entry}
use Rattle.dwarf_units.specs.Units.{CompileUnit, AreUnits}
use Rattle.dwarf_units.specs.declared.tables.Tables.{Tables}
use Rattle.dwarf_units.specs.declared.units.Units.{Units}

-- the table that is kept for this place of `.debug_abbrev`
abbrev pub table_at : Tables → ℕ → Option (List Abbrev)
table_at tables at = get nat_cmp tables.by_offset at

-- each table that is kept begins at its place
abbrev pub AreTablesOf : List ℕ → Tables → Type 0
AreTablesOf abbrevs tables = (at : ℕ) (list : List Abbrev) → table_at tables at ≡ Some list → BeginsAt table abbrevs at list

-- each table that was kept is kept
abbrev pub KeepsTables : Tables → Tables → Type 0
KeepsTables old new = (at : ℕ) (list : List Abbrev) → table_at old at ≡ Some list → table_at new at ≡ Some list

-- all entries of units, in order
abbrev pub entries_in : List CompileUnit → List Entry
entries_in [] = []
entries_in (u ∷ us) = u.entries ++ entries_in us

-- these units are kept: their headers in order, their entries in order, each with the number of its parent, and the table of each
pub record Holds (us : List CompileUnit) (kept : Units) : Type 0 where
  pub headers : kept.headers ≡ map (λ u. u.header) us
  pub tree : kept.tree ≡ map (λ e. e.node) (entries_in us)
  pub tables : All (λ u. table_at kept.tables u.header.abbrev_offset ≡ Some u.table) us

-- `.debug_info` consists of units, and these are kept
pub record AreKept (abbrevs info : List ℕ) (kept : Units) : Type 0 where
  pub units : List CompileUnit
  pub are : AreUnits abbrevs info units
  pub holds : Holds units kept
