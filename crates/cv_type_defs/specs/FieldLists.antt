-- The members of a field list: LF_FIELDLIST, which goes on where LF_INDEX leads.
use Rattle.std.specs.Prelude.{ℕ, zero, suc, ◌+◌, ◌==◌, nat_lt, if◌then◌else◌, List, [], ◌∷◌, Option, Some, None}
use Rattle.cv_type_defs.specs.Records.{kind_at}
use Rattle.cv_type_defs.specs.Rules.{bad_index, wrong_kind}
use Rattle.cv_type_defs.specs.SimpleTypes.{first_index}
use Rattle.cv_type_records.specs.declared.kinds.Member.{Member}
use Rattle.cv_type_records.specs.declared.kinds.TypeKind.{TypeKind}
use Rattle.cv_type_records.specs.declared.kinds.TypeRec.{TypeRec}

-- a member, and the place of the record in which it stands: its links lead below that
pub record Placed : Type 0 where
  pub list : ℕ
  pub member : Member

-- the members up to the end, or up to a link that breaks a rule
pub record Members : Type 0 where
  pub items : List Placed
  pub rule : Option ℕ

abbrev pub no_members : Option ℕ → Members
no_members rule = record { items = []; rule = rule }

abbrev with_member : ℕ → Member → Members → Members
with_member place m rest = record { items = record { list = place; member = m } ∷ rest.items; rule = rest.rule }

-- the members of the record at a place: LF_INDEX is the last of them, and leads to those that follow
abbrev pub chained : (ℕ → Members) → ℕ → List Member → Members
chained next place [] = no_members None
chained next place (Member.Index zero_field fields ∷ rest) = with_member place (Member.Index zero_field fields) (next fields)
chained next place (m ∷ rest) = with_member place m (chained next place rest)

abbrev listed : (ℕ → Members) → ℕ → Option TypeKind → Members
listed next place (Some (TypeKind.FieldList members)) = chained next place members
listed next place _ = no_members (Some wrong_kind)

-- the members where an index leads that must be below that of the record at this place
unfoldable pub members_below : List TypeRec → ℕ → ℕ → Members
members_below records zero index = no_members (Some (if nat_lt index first_index then wrong_kind else bad_index))
members_below records (suc place) index =
    if index == first_index + place
    then listed (members_below records place) place (kind_at records place)
    else members_below records place index

-- the members of the complete record at a place, which has this index as its field list; 0 is the empty list
abbrev pub members_of : List TypeRec → ℕ → ℕ → Members
members_of records place fields = if fields == 0 then no_members None else members_below records place fields
