-- The bytes of the members of field lists, each by the member's name.
use Rattle.std.specs.Prelude.{ℕ, ℤ, List, ◌++◌, length}
use Rattle.byteorder.specs.Endian.{little_bytes}
use Rattle.rv_bytes.specs.Leaves.{numeric_bytes}
use Rattle.cv_parts.specs.Puts.{name_bytes, pads, pad_size}
use Rattle.cv_type_records.specs.Leaves.{lf_index, lf_enumerate, lf_member, lf_stmember, lf_nesttype}
use Rattle.cv_type_records.specs.declared.kinds.Member.{Member}

-- the number of a member's leaf
abbrev pub leaf_number : Member → ℕ
leaf_number (Member.Index zero_field fields) = lf_index
leaf_number (Member.Enumerate attributes value name) = lf_enumerate
leaf_number (Member.Field attributes ty offset name) = lf_member
leaf_number (Member.Static attributes ty name) = lf_stmember
leaf_number (Member.Nest zero_field ty name) = lf_nesttype

-- LF_INDEX
abbrev pub index_bytes : ℕ → ℕ → List ℕ
index_bytes zero_field fields = little_bytes 2 zero_field ++ little_bytes 4 fields

-- LF_ENUMERATE
abbrev pub enumerate_bytes : ℕ → ℤ → List ℕ → List ℕ
enumerate_bytes attributes value name = little_bytes 2 attributes ++ (numeric_bytes value ++ name_bytes name)

-- LF_MEMBER
abbrev pub field_bytes : ℕ → ℕ → ℤ → List ℕ → List ℕ
field_bytes attributes ty offset name = little_bytes 2 attributes ++ (little_bytes 4 ty ++ (numeric_bytes offset ++ name_bytes name))

-- LF_STMEMBER
abbrev pub static_bytes : ℕ → ℕ → List ℕ → List ℕ
static_bytes attributes ty name = little_bytes 2 attributes ++ (little_bytes 4 ty ++ name_bytes name)

-- LF_NESTTYPE
abbrev pub nest_bytes : ℕ → ℕ → List ℕ → List ℕ
nest_bytes zero_field ty name = little_bytes 2 zero_field ++ (little_bytes 4 ty ++ name_bytes name)

-- a member's fields, by its leaf
abbrev pub member_fields : Member → List ℕ
member_fields (Member.Index zero_field fields) = index_bytes zero_field fields
member_fields (Member.Enumerate attributes value name) = enumerate_bytes attributes value name
member_fields (Member.Field attributes ty offset name) = field_bytes attributes ty offset name
member_fields (Member.Static attributes ty name) = static_bytes attributes ty name
member_fields (Member.Nest zero_field ty name) = nest_bytes zero_field ty name

-- a member's leaf, and its fields
abbrev pub plain_bytes : Member → List ℕ
plain_bytes m = little_bytes 2 (leaf_number m) ++ member_fields m

-- a member, and the pad that brings it to a multiple of 4
abbrev pub member_bytes : Member → List ℕ
member_bytes m = plain_bytes m ++ pads (pad_size (length (plain_bytes m)))
