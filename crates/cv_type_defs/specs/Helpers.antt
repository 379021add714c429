-- The helpers of an enum: of each variant an LF_STRUCTURE `VariantN`, with the structure of its fields, its constants' names, and
-- the LF_ENUM `VariantNames`, which has the names of all variants.
use Rattle.std.specs.Prelude.{ℕ, if◌then◌else◌, List, [], ◌∷◌, filter_map, bytes_eq, codes, Option, Some, None, option_and_then}
use Rattle.std.specs.Option.{option_map}
use Rattle.cv_type_defs.specs.EnumNames.{helper_name, variants_name}
use Rattle.cv_type_defs.specs.FieldLists.{Members, members_of, no_members}
use Rattle.cv_type_defs.specs.Fields.{CvField, field_target, fields_in, is_named}
use Rattle.cv_type_defs.specs.Links.{Target, target}
use Rattle.cv_type_defs.specs.Records.{Head, Leaf, head_of, is_same_leaf, kind_at}
use Rattle.cv_type_defs.specs.Unions.{VariantField}
use Rattle.cv_type_records.specs.declared.kinds.Member.{Member}
use Rattle.cv_type_records.specs.declared.kinds.TypeRec.{TypeRec}

-- a record with a name, at its place
pub record Named : Type 0 where
  pub place : ℕ
  pub head : Head

abbrev with_leaf : Leaf → ℕ → Head → Option Named
with_leaf leaf place h = if is_same_leaf leaf h.leaf then Some (record { place = place; head = h }) else None

-- the record of this leaf to which a link leads
abbrev pub named_at : List TypeRec → Leaf → Target → Option Named
named_at records leaf (Target.Record place) = option_and_then (with_leaf leaf place) (option_and_then head_of (kind_at records place))
named_at records leaf _ = None

-- the same, where it has this name
abbrev pub called_at : List TypeRec → Leaf → List ℕ → Target → Option Named
called_at records leaf name to =
    option_and_then (λ n. if bytes_eq n.head.name name then Some n else None) (named_at records leaf to)

abbrev pub members_of_named : List TypeRec → Named → Members
members_of_named records n = members_of records n.place n.head.fields

-- the members of a record, if it is there
abbrev pub members_at : List TypeRec → Option Named → Members
members_at records None = no_members None
members_at records (Some n) = members_of_named records n

-- the helper of a variant of the enum that has this name
abbrev pub helper_of : List TypeRec → List ℕ → VariantField → Option Named
helper_of records name v = called_at records Leaf.Structure (helper_name name v.number) (field_target records v.field)

-- a static member, and the place of the list in which it stands
pub record StaticMember : Type 0 where
  pub list : ℕ
  pub ty : ℕ

abbrev static_named : List ℕ → ℕ → Member → Option StaticMember
static_named name list (Member.Static attributes ty text) = if bytes_eq text name then Some (record { list = list; ty = ty }) else None
static_named name list _ = None

-- the static members of this name; all others are passed over
abbrev pub statics_named : List ℕ → Members → List StaticMember
statics_named name members = filter_map (λ p. static_named name p.list p.member) members.items

abbrev pub only : {A : Type 0} → List A → Option A
only (a ∷ []) = Some a
only _ = None

abbrev value_in : List CvField → Option CvField
value_in (f ∷ []) = if is_named (codes "value") f then Some f else None
value_in _ = None

-- the member `value` of a helper, where it has no other LF_MEMBER
abbrev pub value_of : List TypeRec → Named → Option CvField
value_of records helper = value_in (fields_in (members_of_named records helper))

-- the structure that has a variant's fields, of any name
abbrev pub structure_of : List TypeRec → Named → Option Named
structure_of records helper = option_and_then (λ f. named_at records Leaf.Structure (field_target records f)) (value_of records helper)

-- the fields of a variant
abbrev pub variant_members : List TypeRec → Option Named → Members
variant_members records helper = members_at records (option_and_then (structure_of records) helper)

-- where the static member NAME of a helper leads, where it has one
abbrev pub names_target : List TypeRec → Named → Option Target
names_target records helper = option_map (λ s. target records s.list s.ty) (only (statics_named (codes "NAME") (members_of_named records helper)))

-- the LF_ENUM of the variants' names, as one helper has it
abbrev pub variants_of : List TypeRec → List ℕ → Named → Option Named
variants_of records name helper =
    option_and_then (λ to. called_at records Leaf.Enum (variants_name name) to) (names_target records helper)
