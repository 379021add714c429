-- The kinds of type records and the leaves of members by their numbers, named as CodeView names them.
use Rattle.std.specs.Prelude.{ℕ, ◌==◌, if◌then◌else◌, Option, Some, None}
use Rattle.cv_type_records.specs.declared.leaves.TypeLeaf.{TypeLeaf}
use Rattle.cv_type_records.specs.declared.leaves.MemberLeaf.{MemberLeaf}

abbrev pub lf_modifier : ℕ
lf_modifier = 0x1001

abbrev pub lf_pointer : ℕ
lf_pointer = 0x1002

abbrev pub lf_procedure : ℕ
lf_procedure = 0x1008

abbrev pub lf_arglist : ℕ
lf_arglist = 0x1201

abbrev pub lf_fieldlist : ℕ
lf_fieldlist = 0x1203

abbrev pub lf_array : ℕ
lf_array = 0x1503

abbrev pub lf_structure : ℕ
lf_structure = 0x1505

abbrev pub lf_union : ℕ
lf_union = 0x1506

abbrev pub lf_enum : ℕ
lf_enum = 0x1507

abbrev pub lf_index : ℕ
lf_index = 0x1404

abbrev pub lf_enumerate : ℕ
lf_enumerate = 0x1502

abbrev pub lf_member : ℕ
lf_member = 0x150d

abbrev pub lf_stmember : ℕ
lf_stmember = 0x150e

abbrev pub lf_nesttype : ℕ
lf_nesttype = 0x1510

-- the kinds whose contents are read; None for a record that is passed over
unfoldable pub leaf_of : ℕ → Option TypeLeaf
leaf_of kind =
    if kind == lf_modifier then Some TypeLeaf.Modifier
    else if kind == lf_pointer then Some TypeLeaf.Pointer
    else if kind == lf_procedure then Some TypeLeaf.Procedure
    else if kind == lf_arglist then Some TypeLeaf.ArgList
    else if kind == lf_fieldlist then Some TypeLeaf.FieldList
    else if kind == lf_array then Some TypeLeaf.Array
    else if kind == lf_structure then Some TypeLeaf.Structure
    else if kind == lf_union then Some TypeLeaf.Union
    else if kind == lf_enum then Some TypeLeaf.Enum
    else None

-- the leaves of members; None for one that is unknown
unfoldable pub member_leaf_of : ℕ → Option MemberLeaf
member_leaf_of leaf =
    if leaf == lf_index then Some MemberLeaf.Index
    else if leaf == lf_enumerate then Some MemberLeaf.Enumerate
    else if leaf == lf_member then Some MemberLeaf.Field
    else if leaf == lf_stmember then Some MemberLeaf.Static
    else if leaf == lf_nesttype then Some MemberLeaf.Nest
    else None
