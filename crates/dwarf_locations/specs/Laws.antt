-- Expressions and lists are read in one way, and none is without a reading.
use Rattle.std.specs.Prelude.{◌≡◌, ℕ, List, Option, ◌⊎◌}
use Rattle.expr_bytes.specs.declared.place.Frame.{Frame}
use Rattle.expr_eval.specs.Addresses.{Addresses}
use Rattle.layout_set.specs.declared.func.Entry.{Entry}
use Rattle.layout_set.specs.declared.func.Loc.{Loc}
use Rattle.rv_bytes.specs.Rules.{outside}
use Rattle.rv_bytes.specs.Sections.{BeginsAt, IsFaultAt}
use Rattle.rv_bytes.specs.declared.err.DwErr.{DwErr}
use Rattle.dwarf_locations.specs.Expressions.{BreakAt, SayLocation}
use Rattle.dwarf_locations.specs.Lists.{location_list}

-- an expression says at most one location, or none, has at most one first error, and never both
pub record HasOneReading (frame : Frame) (addrs : Addresses) (bytes : List ℕ) : Type 0 where
  pub one_location : (a b : Option Loc) → SayLocation frame addrs bytes a → SayLocation frame addrs bytes b → a ≡ b
  pub one_error : (rule other at spot : ℕ) → BreakAt frame addrs bytes rule at → BreakAt frame addrs bytes other spot → (rule ≡ other) × (at ≡ spot)
  pub never_both : (loc : Option Loc) (rule at : ℕ) → SayLocation frame addrs bytes loc → ¬ BreakAt frame addrs bytes rule at

-- an expression says a location, or none, or one of its operations is the first that breaks a rule
abbrev pub HasReading : Frame → Addresses → List ℕ → Type 0
HasReading frame addrs bytes = ((loc : Option Loc) × SayLocation frame addrs bytes loc) ⊎ ((rule : ℕ) × ((at : ℕ) × BreakAt frame addrs bytes rule at))

-- at a place of a section a list begins, or it has a first error
abbrev pub HasList : Frame → Addresses → ℕ → List ℕ → ℕ → Type 0
HasList frame addrs base section at =
    ((entries : List Entry) × BeginsAt (location_list frame addrs base) section at entries)
    ⊎ ((offset : ℕ) × ((rule : ℕ) × IsFaultAt outside (location_list frame addrs base) section at (DwErr.Refused offset rule)))
