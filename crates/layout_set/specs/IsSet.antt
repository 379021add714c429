-- What every set is, lawful or not: a text for a name is Rust's, or raw.
use Rattle.std.specs.Prelude.{◌⊎◌, IsTrue, List, IfSome}
use Rattle.std.specs.List.{All}
use Rattle.names.specs.declared.name.Name.{Name}
use Rattle.type_names.specs.Names.{IsProper}
use Rattle.layout_set.specs.declared.set.Set.{Set}
use Rattle.layout_set.specs.declared.set.TypeDef.{TypeDef}
use Rattle.layout_set.specs.NameShapes.{is_raw}
use Rattle.layout_set.specs.DerivedNames.{name_of}

-- a name of Rust's grammar, or a raw text
abbrev pub IsNamed : Name → Type 0
IsNamed name = IsProper name ⊎ IsTrue (is_raw name)

abbrev pub AreNamed : List TypeDef → Type 0
AreNamed types = All (λ t. IfSome (name_of t) IsNamed) types

-- what every set is: its names are Rust's or raw texts
pub record IsSet (set : Set) : Type 0 where
  pub types : AreNamed set.types
  pub statics : All (λ s. IsNamed s.name) set.statics
  pub funcs : All (λ f. IsNamed f.name) set.funcs
