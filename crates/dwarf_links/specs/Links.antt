-- What is kept to follow links.
use Rattle.std.specs.Prelude.{◌≡◌, ℕ, List, Result}
use Rattle.std.specs.BTreeMap.{BTreeMap}
use Rattle.layout_set.specs.declared.primitive.Primitive.{Primitive}
use Rattle.dwarf_entries.specs.Dies.{Info}
use Rattle.dwarf_links.specs.BaseTypes.{HasBaseTypes}
use Rattle.dwarf_links.specs.SetTypes.{numbers_of_types}

-- the types of the set, and the base types
pub record AreTables (info : Info) (types : List ℕ) (kinds : BTreeMap ℕ (Result Primitive ℕ)) : Type 0 where
  pub types_are : types ≡ numbers_of_types info
  pub kinds_are : HasBaseTypes info kinds
