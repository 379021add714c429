-- What was appended.
use Rattle.std.specs.Prelude.{◌≡◌, ℕ, ◌+◌, List, Option, Some, ◌++◌, length, is_some}
use Rattle.rv_bytes.specs.Forms.{Form, made}
use Rattle.rv_bytes.specs.Writers.{SpellsEverywhere}
use Rattle.cv_parts.specs.Puts.{pad_size}
use Rattle.cv_parts.specs.Series.{to_end}
use Rattle.cv_record_writer.specs.Contents.{all_bytes}
use Rattle.cv_type_records.specs.Members.{index, enumerate, field, static_member, nest, member, kept}
use Rattle.cv_type_records.specs.Contents.{has_unique, unique, contents}
use Rattle.cv_type_records.specs.Types.{type_rec, type_record}
use Rattle.cv_type_records.specs.declared.kinds.Member.{Member}
use Rattle.cv_type_records.specs.declared.kinds.TypeKind.{TypeKind}
use Rattle.cv_type_writer.specs.MemberBytes.{plain_bytes, member_bytes}
use Rattle.cv_type_writer.specs.TypeBytes.{type_number, unique_bytes}
use Rattle.cv_type_writer.specs.TypeRecords.{type_bytes}

-- the form of a member's fields, by its leaf
abbrev pub fields_form : Member → Form ℕ Member
fields_form (Member.Index zero_field fields) = index
fields_form (Member.Enumerate attributes value name) = enumerate
fields_form (Member.Field attributes ty offset name) = field
fields_form (Member.Static attributes ty name) = static_member
fields_form (Member.Nest zero_field ty name) = nest

-- a member and its pad, before which it is that member
pub record PutsMember (m : Member) (old new : List ℕ) : Type 0 where
  pub appended : new ≡ old ++ member_bytes m
  pub spells : SpellsEverywhere member (Some m) (plain_bytes m)

-- members, each with its pad, which are these members up to the end
pub record PutsMembers (ms : List Member) (old new : List ℕ) : Type 0 where
  pub appended : new ≡ old ++ all_bytes member_bytes ms
  pub spells : SpellsEverywhere (made kept (to_end (λ _. member) (length (all_bytes member_bytes ms)))) ms (all_bytes member_bytes ms)

-- a unique name, or nothing, as a property says
pub record PutsUnique (name : Option (List ℕ)) (old new : List ℕ) : Type 0 where
  pub appended : new ≡ old ++ unique_bytes name
  pub spells : (property : ℕ) → has_unique property ≡ is_some name → SpellsEverywhere (unique property) name (unique_bytes name)

-- the fields of a record, where the pad that brings the record to a multiple of 4 follows them in it
pub record PutsFields (kind : TypeKind) (bytes old new : List ℕ) : Type 0 where
  pub appended : new ≡ old ++ bytes
  pub spells : SpellsEverywhere (contents (type_number kind) (length bytes + pad_size (length bytes))) kind bytes

-- a record, which is one wherever it stands
pub record PutsType (kind : TypeKind) (old new : List ℕ) : Type 0 where
  pub appended : new ≡ old ++ type_bytes kind
  pub spells : (n : ℕ) → type_record.spells n (type_rec n kind) (type_bytes kind)
