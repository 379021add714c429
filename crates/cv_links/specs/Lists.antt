-- The members of field lists that are still to come.
use Rattle.std.specs.Prelude.{ℕ, List, [], ◌∷◌, Option, Some, None, Result, Ok, Err}
use Rattle.cv_type_defs.specs.FieldLists.{Members, Placed, chained, members_below, no_members}
use Rattle.cv_type_defs.specs.Records.{kind_at}
use Rattle.cv_type_defs.specs.Rules.{wrong_kind}
use Rattle.cv_type_records.specs.declared.kinds.Member.{Member}
use Rattle.cv_type_records.specs.declared.kinds.TypeKind.{TypeKind}
use Rattle.cv_type_records.specs.declared.kinds.TypeRec.{TypeRec}
use Rattle.cv_links.specs.declared.members.Part.{Part}

abbrev pub placed : ℕ → Member → Placed
placed list m = record { list = list; member = m }

-- these members of the list at a place, and those to which LF_INDEX leads
abbrev pub from_list : List TypeRec → ℕ → List Member → Members
from_list records place members = chained (members_below records place) place members

abbrev listed_by : List TypeRec → ℕ → Option TypeKind → Members
listed_by records place (Some (TypeKind.FieldList members)) = from_list records place members
listed_by records place _ = no_members (Some wrong_kind)

-- the members of the record at a place
abbrev pub list_at : List TypeRec → ℕ → Members
list_at records place = listed_by records place (kind_at records place)

-- the members that a part of a list begins, or none and the rule that is broken
abbrev pub begun : List TypeRec → Result Part ℕ → Members
begun records (Ok part) = from_list records part.list part.members.now
begun records (Err rule) = no_members (Some rule)

-- the members that are still to come
abbrev pub still : List TypeRec → Option Part → List Placed
still records None = []
still records (Some part) = (from_list records part.list part.members.now).items

-- where LF_INDEX leads
abbrev pub index_in : Member → Option ℕ
index_in (Member.Index zero_field fields) = Some fields
index_in _ = None

abbrev pub first_index_in : Option ℕ → Option ℕ → Option ℕ
first_index_in (Some fields) rest = Some fields
first_index_in None rest = rest

-- where members go on
abbrev pub continued : List Member → Option ℕ
continued [] = None
continued (m ∷ ms) = first_index_in (index_in m) (continued ms)
