-- The variants among fields, and the one field of a helper.
use Rattle.std.specs.Prelude.{if◌then◌else◌, List, [], ◌∷◌, codes, filter_map, Option, Some, None}
use Rattle.std.specs.Option.{option_map}
use Rattle.cv_type_defs.specs.EnumNames.{variant_number}
use Rattle.cv_type_defs.specs.Fields.{CvField, is_named}
use Rattle.cv_type_defs.specs.Unions.{VariantField}

-- the variant that a field is
abbrev pub variant_in : CvField → Option VariantField
variant_in f = option_map (λ n. record { number = n; field = f }) (variant_number f.name)

-- the variants among some fields, in order
abbrev pub variants_among : List CvField → List VariantField
variants_among fields = filter_map variant_in fields

-- the one of some fields, where it is called `value`
abbrev pub only_value : List CvField → Option CvField
only_value (f ∷ []) = if is_named (codes "value") f then Some f else None
only_value _ = None
