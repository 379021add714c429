-- Where the index of a type leads: to a simple type, or to a record before the one that has it, through LF_MODIFIERs and from a
-- forward reference on to its complete record.
use Rattle.std.specs.Prelude.{ℕ, zero, suc, ◌+◌, ◌==◌, nat_lt, if◌then◌else◌, List, Option, Some, None, option_and_then}
use Rattle.cv_type_defs.specs.Records.{Head, head_of, is_forward, complete_place, kind_at}
use Rattle.cv_type_defs.specs.Rules.{bad_index, no_complete}
use Rattle.cv_type_defs.specs.SimpleTypes.{first_index}
use Rattle.cv_type_records.specs.declared.kinds.TypeKind.{TypeKind}
use Rattle.cv_type_records.specs.declared.kinds.TypeRec.{TypeRec}

-- a simple type, the place of a record that is neither an LF_MODIFIER nor a forward reference, or the rule that is broken
pub data Target : Type 0 where
  Simple : ℕ → Target
  Record : ℕ → Target
  Broken : ℕ → Target

-- the type for which an LF_MODIFIER stands
abbrev pub modified : Option TypeKind → Option ℕ
modified (Some (TypeKind.Modifier ty modifiers)) = Some ty
modified _ = None

abbrev completed : Option ℕ → Target
completed (Some place) = Target.Record place
completed None = Target.Broken no_complete

abbrev meant_by : List TypeRec → ℕ → Option Head → Target
meant_by records place None = Target.Record place
meant_by records place (Some h) = if is_forward h then completed (complete_place records h) else Target.Record place

-- the record for which the one at a place stands, which is no LF_MODIFIER
abbrev pub meant : List TypeRec → ℕ → Target
meant records place = meant_by records place (option_and_then head_of (kind_at records place))

abbrev pub through : Option ℕ → (ℕ → Target) → Target → Target
through None next here = here
through (Some ty) next here = next ty

-- where an index leads that must be below that of the record at this place
unfoldable pub target : List TypeRec → ℕ → ℕ → Target
target records zero index = if nat_lt index first_index then Target.Simple index else Target.Broken bad_index
target records (suc place) index =
    if index == first_index + place
    then through (modified (kind_at records place)) (target records place) (meant records place)
    else target records place index

-- the rule that an index breaks by itself
abbrev pub broken_rule : Target → Option ℕ
broken_rule (Target.Broken rule) = Some rule
broken_rule _ = None
