-- The variants of an enum: of each its name, its selector and its fields, by its helper.
use Rattle.std.specs.Prelude.{ℕ, ◌==◌, Bool, false, List, [], ◌∷◌, map, filter_map, find, codes, ℤ}
use Rattle.std.specs.Prelude.{pos, negsuc, Option, Some, None, option_and_then, unwrap_or}
use Rattle.std.specs.Option.{option_map}
use Rattle.layout_set.specs.declared.set.Selector.{Selector}
use Rattle.layout_set.specs.declared.set.Variant.{Variant}
use Rattle.cv_type_defs.specs.EnumNames.{constant_name}
use Rattle.cv_type_defs.specs.Enumerations.{Enumerator, enumerators_in}
use Rattle.cv_type_defs.specs.FieldLists.{Members}
use Rattle.cv_type_defs.specs.Fields.{fields_in}
use Rattle.cv_type_defs.specs.Helpers.{Named, helper_of, members_at, members_of_named, variant_members, variants_of}
use Rattle.cv_type_defs.specs.Selectors.{Kept, selector_of}
use Rattle.cv_type_defs.specs.Symbols.{constant_of}
use Rattle.cv_type_defs.specs.TypeRefs.{Info, field_of}
use Rattle.cv_type_defs.specs.Unions.{VariantField, variant_fields}

abbrev pub is_same_number : ℤ → ℤ → Bool
is_same_number (pos a) (pos b) = a == b
is_same_number (negsuc a) (negsuc b) = a == b
is_same_number a b = false

-- the constant NAME of a helper
abbrev pub name_constant : Info → Named → Option ℤ
name_constant info helper = constant_of info.symbols (constant_name helper.head.name (codes "NAME"))

-- the names of all variants, as the first helper that leads to them has them
abbrev first_named : List Named → Option Named
first_named [] = None
first_named (n ∷ names) = Some n

abbrev pub names_of_all : Info → List ℕ → List VariantField → List Named
names_of_all info name vs =
    filter_map (λ v. option_and_then (variants_of info.records name) (helper_of info.records name v)) vs

-- the LF_ENUM with the names of the variants of the enum that has this name
abbrev pub names_record : Info → List ℕ → Members → Option Named
names_record info name members = first_named (names_of_all info name (variant_fields members))

-- its enumerators
abbrev pub variant_names : Info → List ℕ → Named → List Enumerator
variant_names info name helper = enumerators_in (members_at info.records (variants_of info.records name helper))

-- the enumerator that names a variant: the first whose number is the constant NAME of its helper
abbrev pub naming : Info → List ℕ → Named → Option Enumerator
naming info name helper =
    option_and_then (λ z. find (λ e. is_same_number e.number z) (variant_names info name helper)) (name_constant info helper)

abbrev selector_with : Info → Option Kept → Named → Selector
selector_with info None helper = Selector.Only
selector_with info (Some kept) helper = selector_of info.symbols helper.head.name kept (members_of_named info.records helper)

abbrev no_variant : Variant
no_variant = record { name = []; sel = Selector.Only; fields = [] }

abbrev variant_with : Info → List ℕ → Option Kept → Option Named → Variant
variant_with info name kept None = no_variant
variant_with info name kept (Some helper) = record {
  name = unwrap_or (option_map (λ e. e.name) (naming info name helper)) [];
  sel = selector_with info kept helper;
  fields = map (field_of info) (fields_in (variant_members info.records (Some helper)));
}

-- a variant of the enum that has this name, with selectors that are kept so
abbrev pub variant_of : Info → List ℕ → Option Kept → VariantField → Variant
variant_of info name kept v = variant_with info name kept (helper_of info.records name v)
