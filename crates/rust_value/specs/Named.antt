-- The names in a value.
use Rattle.std.specs.Prelude.{ℕ, List, [], ◌∷◌, Option, Some, None}
use Rattle.std.specs.List.{AllByRecursion, flat_map}
use Rattle.names.specs.Words.{IsWord}
use Rattle.rust_value.specs.declared.value.Val.{Val, fold-Val}
use Rattle.rust_value.specs.declared.value.Part.{Part, fold-Part}
use Rattle.rust_value.specs.declared.value.Val.TheOpen.{Val-F, Part-F}

-- all names of several lists
abbrev pub together : List (List (List ℕ)) → List (List ℕ)
together lists = flat_map (λ names. names) lists

-- the names in a content, if there is one
abbrev pub content_names : Option (List (List ℕ)) → List (List ℕ)
content_names None = []
content_names (Some names) = names

-- the name of a field, and the names in its value
abbrev pub part_step : Part-F (List (List ℕ)) (List (List ℕ)) → List (List ℕ)
part_step part = part.name ∷ part.val

-- the names of fields and variants in one value, with those of the values inside in their places
abbrev pub val_step : Val-F (List (List ℕ)) (List (List ℕ)) → List (List ℕ)
val_step (Val-F.Fields parts) = together parts
val_step (Val-F.Variant name parts) = name ∷ together parts
val_step (Val-F.Seq len shown) = together shown
val_step (Val-F.Pointer kind at content) = content_names content
val_step (Val-F.Slice kind at len content) = content_names content
val_step _ = []

-- the names of fields and variants in a value, in order
abbrev pub names_of : Val → List (List ℕ)
names_of = fold-Val (List (List ℕ)) (List (List ℕ)) val_step part_step

-- the name of a field, and the names in its value
abbrev pub part_names : Part → List (List ℕ)
part_names = fold-Part (List (List ℕ)) (List (List ℕ)) val_step part_step

-- each of the names is a word
abbrev pub AreWords : List (List ℕ) → Type 0
AreWords names = AllByRecursion IsWord names

-- each name of a field or a variant in the value is a word
abbrev pub HasWords : Val → Type 0
HasWords val = AreWords (names_of val)
