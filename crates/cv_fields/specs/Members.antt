-- The fields among members.
use Rattle.std.specs.Prelude.{List, [], ◌∷◌, filter_map, Option, Some, None}
use Rattle.cv_type_defs.specs.FieldLists.{Placed}
use Rattle.cv_type_defs.specs.Fields.{CvField}
use Rattle.cv_type_records.specs.declared.kinds.Member.{Member}
use Rattle.std.specs.Prelude.{ℕ}

abbrev field_by : ℕ → Member → Option CvField
field_by list (Member.Field attributes ty offset name) = Some (record { list = list; ty = ty; offset = offset; name = name })
field_by list _ = None

-- the field that a member is
abbrev pub field_in : Placed → Option CvField
field_in p = field_by p.list p.member

-- the fields among some members, in order
abbrev pub fields_among : List Placed → List CvField
fields_among members = filter_map field_in members

abbrev both : Option CvField → Option CvField → Option (CvField × CvField)
both (Some a) (Some b) = Some (a, b)
both _ _ = None

-- two members that are both fields, and no more
abbrev pub two_fields : List Placed → Option (CvField × CvField)
two_fields (a ∷ b ∷ []) = both (field_in a) (field_in b)
two_fields _ = None
