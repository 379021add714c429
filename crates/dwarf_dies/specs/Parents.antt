-- An entry and its parent, by their numbers; and the bases of a unit, which are those of its first entry.
use Rattle.std.specs.Prelude.{◌≡◌, ◌<◌, ℕ, Option, Some, None}
use Rattle.dwarf_entries.specs.Dies.{Die, Info, bases_of, parent_of}
use Rattle.dwarf_entries.specs.declared.sections.Bases.{Bases}
use Rattle.dwarf_dies.specs.Views.{die_of}

-- `up` is a lower number, and the entry with it owns the one with the number n
pub record IsParent (info : Info) (n up : ℕ) : Type 0 where
  pub lower : up < n
  pub owner : (d : Die) → die_of info n ≡ Some d → (p : Die) × ((parent_of d ≡ Some p) × (die_of info up ≡ Some p))

-- the entry with this number, if there is one, is the first one of its unit
abbrev pub IsRoot : Info → ℕ → Type 0
IsRoot info n = (d : Die) → die_of info n ≡ Some d → d.bases ≡ bases_of (Some d.entry)

-- an entry with this number has the same bases as the one with the number n
abbrev pub HasBasesOf : Info → ℕ → ℕ → Type 0
HasBasesOf info n number = (d : Die) → die_of info n ≡ Some d → (e : Die) × ((die_of info number ≡ Some e) × (e.bases ≡ d.bases))

abbrev pub bases_of_die : Die → Bases
bases_of_die d = d.bases
