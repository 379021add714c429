-- The LF_ENUMERATEs among members.
use Rattle.std.specs.Prelude.{List, filter_map, Option, Some, None}
use Rattle.cv_type_defs.specs.Enumerations.{Enumerator}
use Rattle.cv_type_defs.specs.FieldLists.{Placed}
use Rattle.cv_type_records.specs.declared.kinds.Member.{Member}

abbrev enumerator_by : Member → Option Enumerator
enumerator_by (Member.Enumerate attributes number name) = Some (record { name = name; number = number })
enumerator_by _ = None

-- the enumerator that a member is
abbrev pub enumerator_in : Placed → Option Enumerator
enumerator_in p = enumerator_by p.member

-- the enumerators among some members, in order
abbrev pub enumerators_among : List Placed → List Enumerator
enumerators_among members = filter_map enumerator_in members
