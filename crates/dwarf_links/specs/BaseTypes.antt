-- What base types are: DWARF 5, 5.1.1.
use Rattle.std.specs.Prelude.{◌≡◌, ℕ, if◌then◌else◌, Option, Some, None, option_and_then, Result}
use Rattle.std.specs.BTreeMap.{BTreeMap, get}
use Rattle.std.specs.Ordering.{nat_cmp}
use Rattle.layout_set.specs.declared.primitive.Primitive.{Primitive}
use Rattle.dwarf_entries.specs.Dies.{Die, Info, what}
use Rattle.dwarf_entries.specs.Primitives.{base_type_of}
use Rattle.dwarf_entries.specs.Tags.{passes}
use Rattle.dwarf_dies.specs.Views.{die_of}
use Rattle.dwarf_scopes.specs.Tags.{is_base_type}

-- what an entry is as a base type, where it is one: a primitive, or the rule that it breaks
abbrev pub base_type_in : Info → Die → Option (Result Primitive ℕ)
base_type_in info d = if passes is_base_type (what d) then Some (base_type_of info d) else None

-- the map has what each base type is, by its number, and nothing else
abbrev pub HasBaseTypes : Info → BTreeMap ℕ (Result Primitive ℕ) → Type 0
HasBaseTypes info kinds = (number : ℕ) → get nat_cmp kinds number ≡ option_and_then (base_type_in info) (die_of info number)
