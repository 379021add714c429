-- LF_MEMBER: a field, with its type, its offset in bytes and its name.
use Rattle.std.specs.Prelude.{ℕ, ◌^◌, nat_lt, if◌then◌else◌, Bool, List, filter_map, bytes_eq, ℤ, pos, negsuc, Option, Some, None, unwrap_or}
use Rattle.cv_type_defs.specs.FieldLists.{Members}
use Rattle.cv_type_defs.specs.Links.{Target, target}
use Rattle.cv_type_records.specs.declared.kinds.Member.{Member}
use Rattle.cv_type_records.specs.declared.kinds.TypeRec.{TypeRec}

-- a number of 32 bits without a sign
abbrev pub u32_of : ℤ → Option ℕ
u32_of (pos n) = if nat_lt n (2 ^ 32) then Some n else None
u32_of (negsuc n) = None

-- the same, where 0 stands for another number, which breaks a rule
abbrev pub u32_or_0 : ℤ → ℕ
u32_or_0 n = unwrap_or (u32_of n) 0

-- a field, and the place of the list in which it stands
pub record CvField : Type 0 where
  pub list : ℕ
  pub ty : ℕ
  pub offset : ℤ
  pub name : List ℕ

abbrev field_in : ℕ → Member → Option CvField
field_in list (Member.Field attributes ty offset name) = Some (record { list = list; ty = ty; offset = offset; name = name })
field_in list _ = None

-- the fields among some members, in order; all others are passed over
abbrev pub fields_in : Members → List CvField
fields_in members = filter_map (λ p. field_in p.list p.member) members.items

-- where the type of a field leads, which is below the list that has it
abbrev pub field_target : List TypeRec → CvField → Target
field_target records f = target records f.list f.ty

abbrev pub is_named : List ℕ → CvField → Bool
is_named name f = bytes_eq f.name name
