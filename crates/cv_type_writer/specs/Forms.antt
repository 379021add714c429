-- Which type records and members can be written.
use Rattle.std.specs.Prelude.{◌≡◌, ℕ, List, Option, Some, None, is_some}
use Rattle.std.specs.List.{All}
use Rattle.cv_parts.specs.Puts.{IsName}
use Rattle.cv_record_writer.specs.Contents.{IsNumeric}
use Rattle.cv_type_records.specs.Contents.{has_unique}
use Rattle.cv_type_records.specs.declared.kinds.Member.{Member}
use Rattle.cv_type_records.specs.declared.kinds.TypeKind.{TypeKind}

-- the member's name can be written, and a numeric leaf holds its number
abbrev pub MemberHasForm : Member → Type 0
MemberHasForm (Member.Index zero_field fields) = Unit {0}
MemberHasForm (Member.Enumerate attributes value name) = IsNumeric value × IsName name
MemberHasForm (Member.Field attributes ty offset name) = IsNumeric offset × IsName name
MemberHasForm (Member.Static attributes ty name) = IsName name
MemberHasForm (Member.Nest zero_field ty name) = IsName name

-- a unique name that is there can be written
abbrev pub UniqueIsName : Option (List ℕ) → Type 0
UniqueIsName None = Unit {0}
UniqueIsName (Some name) = IsName name

-- a unique name is there exactly where the property has the bit 0x200, and can be written
pub record IsUnique (property : ℕ) (unique : Option (List ℕ)) : Type 0 where
  pub there : has_unique property ≡ is_some unique
  pub is_name : UniqueIsName unique

-- The record's kind is known, its names can be written, numeric leaves hold its numbers, and so it is with its members.
abbrev pub HasForm : TypeKind → Type 0
HasForm (TypeKind.Modifier ty modifiers) = Unit {0}
HasForm (TypeKind.Pointer ty attributes) = Unit {0}
HasForm (TypeKind.Procedure returned call options count args) = Unit {0}
HasForm (TypeKind.ArgList types) = Unit {0}
HasForm (TypeKind.FieldList members) = All MemberHasForm members
HasForm (TypeKind.Array elem index size name) = IsNumeric size × IsName name
HasForm (TypeKind.Structure count property fields derived vshape size name unique) = IsNumeric size × (IsName name × IsUnique property unique)
HasForm (TypeKind.Union count property fields size name unique) = IsNumeric size × (IsName name × IsUnique property unique)
HasForm (TypeKind.Enum count property ty fields name unique) = IsName name × IsUnique property unique
HasForm (TypeKind.Other kind) = ⊥
