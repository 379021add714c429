-- The contents of type records, field by field, each by the record's name.
use Rattle.std.specs.Prelude.{ℕ, ◌==◌, not, bit_and, Bool, List, Option, Some, None}
use Rattle.rv_bytes.specs.Forms.{Form, nothing, follow, made, choose}
use Rattle.rv_bytes.specs.Numbers.{number, text}
use Rattle.rv_bytes.specs.Leaves.{numeric}
use Rattle.cv_parts.specs.Series.{to_end, so_many}
use Rattle.cv_type_records.specs.Leaves.{leaf_of}
use Rattle.cv_type_records.specs.Members.{member, kept}
use Rattle.cv_type_records.specs.declared.leaves.TypeLeaf.{TypeLeaf}
use Rattle.cv_type_records.specs.declared.kinds.TypeKind.{TypeKind}

-- LF_MODIFIER
abbrev pub modifier : Form ℕ TypeKind
modifier = follow (number 4) (λ ty. made (TypeKind.Modifier ty) (number 2))

-- LF_POINTER
abbrev pub pointer : Form ℕ TypeKind
pointer = follow (number 4) (λ ty. made (TypeKind.Pointer ty) (number 4))

-- LF_PROCEDURE
abbrev pub procedure : Form ℕ TypeKind
procedure =
    follow (number 4) (λ returned. follow (number 1) (λ call. follow (number 1) (λ options. follow (number 2) (λ count.
    made (TypeKind.Procedure returned call options count) (number 4)))))

-- LF_ARGLIST: a count, and as many types
abbrev pub arglist : Form ℕ TypeKind
arglist = follow (number 4) (λ count. made TypeKind.ArgList (so_many (number 4) count))

-- LF_FIELDLIST: members to the end of so many bytes
abbrev pub fieldlist : ℕ → Form ℕ TypeKind
fieldlist size = made TypeKind.FieldList (made kept (to_end (λ _. member) size))

-- LF_ARRAY
abbrev pub array : Form ℕ TypeKind
array = follow (number 4) (λ elem. follow (number 4) (λ index. follow numeric (λ size. made (TypeKind.Array elem index size) text)))

-- whether a property has the bit 0x200, by which a unique name follows the name
abbrev pub has_unique : ℕ → Bool
has_unique property = not (bit_and property 0x200 == 0)

-- the unique name, where the property says that it is there
abbrev pub unique : ℕ → Form ℕ (Option (List ℕ))
unique property = choose (has_unique property) (made (λ t. Some t) text) (nothing None)

-- LF_STRUCTURE
abbrev pub structure : Form ℕ TypeKind
structure =
    follow (number 2) (λ count. follow (number 2) (λ property. follow (number 4) (λ fields. follow (number 4) (λ derived. follow (number 4) (λ vshape.
    follow numeric (λ size. follow text (λ name. made (TypeKind.Structure count property fields derived vshape size name) (unique property))))))))

-- LF_UNION
abbrev pub union : Form ℕ TypeKind
union =
    follow (number 2) (λ count. follow (number 2) (λ property. follow (number 4) (λ fields.
    follow numeric (λ size. follow text (λ name. made (TypeKind.Union count property fields size name) (unique property))))))

-- LF_ENUM
abbrev pub enum : Form ℕ TypeKind
enum =
    follow (number 2) (λ count. follow (number 2) (λ property. follow (number 4) (λ ty. follow (number 4) (λ fields.
    follow text (λ name. made (TypeKind.Enum count property ty fields name) (unique property))))))

-- the contents of a record by its kind, of so many bytes
abbrev pub by_kind : TypeLeaf → ℕ → Form ℕ TypeKind
by_kind TypeLeaf.Modifier size = modifier
by_kind TypeLeaf.Pointer size = pointer
by_kind TypeLeaf.Procedure size = procedure
by_kind TypeLeaf.ArgList size = arglist
by_kind TypeLeaf.FieldList size = fieldlist size
by_kind TypeLeaf.Array size = array
by_kind TypeLeaf.Structure size = structure
by_kind TypeLeaf.Union size = union
by_kind TypeLeaf.Enum size = enum

-- a record of another kind is passed over, and has the kind's number
abbrev pub by_leaf : Option TypeLeaf → ℕ → ℕ → Form ℕ TypeKind
by_leaf None kind size = nothing (TypeKind.Other kind)
by_leaf (Some leaf) kind size = by_kind leaf size

-- what follows a kind, in so many bytes
abbrev pub contents : ℕ → ℕ → Form ℕ TypeKind
contents kind size = by_leaf (leaf_of kind) kind size
