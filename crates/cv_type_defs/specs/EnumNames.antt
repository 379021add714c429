-- The names of the members of an enum's LF_UNION, of its helpers and of their constants.
use Rattle.std.specs.Prelude.{ℕ, ◌-◌, ◌^◌, true, if◌then◌else◌, List, ◌++◌, nat_eq, length, drop, codes, Option, None}
use Rattle.std.specs.Fmt.{decimal}
use Rattle.std.specs.List.{starts_with}
use Rattle.names.specs.Reading.{number}
use Rattle.cv_type_defs.specs.Texts.{whole_of}

-- the number N of a text `variantN`, a u32 without leading zeros
unfoldable pub variant_number : List ℕ → Option ℕ
variant_number text =
    if starts_with nat_eq text (codes "variant") then whole_of ((number true (2 ^ 32 - 1)).read (drop (length (codes "variant")) text)) else None

-- the helper of the variant N: `enum2$<X>::VariantN`
abbrev pub helper_name : List ℕ → ℕ → List ℕ
helper_name name n = name ++ codes "::Variant" ++ decimal n

-- the enum of the variants' names: `enum2$<X>::VariantNames`
abbrev pub variants_name : List ℕ → List ℕ
variants_name name = name ++ codes "::VariantNames"

-- the constant of a static member of a helper
abbrev pub constant_name : List ℕ → List ℕ → List ℕ
constant_name helper member = helper ++ codes "::" ++ member
