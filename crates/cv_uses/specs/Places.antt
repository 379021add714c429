-- Where the links of records lead that may be simple pointers.
use Rattle.std.specs.Prelude.{ℕ, if◌then◌else◌, List, [], ◌∷◌, flat_map, map, Option, Some, None}
use Rattle.layout_set.specs.declared.shapes.FatContent.{FatContent}
use Rattle.cv_type_defs.specs.FatPointers.{Fat}
use Rattle.cv_type_defs.specs.FieldLists.{Members}
use Rattle.cv_type_defs.specs.Fields.{CvField, field_target}
use Rattle.cv_type_defs.specs.Helpers.{helper_of, variant_members}
use Rattle.cv_type_defs.specs.Links.{Target}
use Rattle.cv_type_defs.specs.Numbering.{is_numbered}
use Rattle.cv_type_defs.specs.Records.{kind_at}
use Rattle.cv_type_defs.specs.Unions.{VariantField, variant_fields}
use Rattle.cv_type_defs.specs.Uses.{field_targets, kind_uses}
use Rattle.cv_type_records.specs.declared.kinds.TypeKind.{TypeKind}
use Rattle.cv_type_records.specs.declared.kinds.TypeRec.{TypeRec}

abbrev uses_by : List TypeRec → ℕ → Option TypeKind → List Target
uses_by records place (Some kind) = if is_numbered kind then kind_uses records place kind else []
uses_by records place None = []

-- where the links of the record at a place lead
abbrev pub uses_at : List TypeRec → ℕ → List Target
uses_at records place = uses_by records place (kind_at records place)

-- the fields of a fat pointer that are pointers
abbrev fat_fields : FatContent → CvField → CvField → List CvField
fat_fields FatContent.OfDyn a b = a ∷ b ∷ []
fat_fields _ a b = a ∷ []

-- where these lead
abbrev pub fat_uses : List TypeRec → Fat → List Target
fat_uses records fat = map (field_target records) (fat_fields fat.content fat.first fat.second)

-- where the fields of a structure lead, which may be a fat pointer
abbrev pub structure_uses : List TypeRec → Members → Option Fat → List Target
structure_uses records members None = field_targets records members
structure_uses records members (Some fat) = fat_uses records fat

-- where the fields of a variant lead
abbrev pub variant_uses : List TypeRec → List ℕ → VariantField → List Target
variant_uses records name v = field_targets records (variant_members records (helper_of records name v))

-- where the fields of some variants lead
abbrev pub uses_of_variants : List TypeRec → List ℕ → List VariantField → List Target
uses_of_variants records name vs = flat_map (variant_uses records name) vs

-- where the fields of all variants of an enum lead
abbrev pub enum_uses : List TypeRec → List ℕ → Members → List Target
enum_uses records name members = uses_of_variants records name (variant_fields members)
