-- The tags that are looked at, by their codes, and which of them stand for types: DWARF 5, 7.5.3, table 7.3.
use Rattle.std.specs.Prelude.{ℕ, ◌==◌, Bool, true, false, if◌then◌else◌, Option, Some, None}
use Rattle.dwarf_entries.specs.declared.tag.Tag.{Tag}

-- what a code says an entry describes; None for entries that are passed over with all below them
unfoldable pub tag_of : ℕ → Option Tag
tag_of code =
    if code == 0x01 then Some Tag.ArrayType
    else if code == 0x04 then Some Tag.EnumerationType
    else if code == 0x05 then Some Tag.FormalParameter
    else if code == 0x0b then Some Tag.LexicalBlock
    else if code == 0x0d then Some Tag.Member
    else if code == 0x0f then Some Tag.PointerType
    else if code == 0x11 then Some Tag.CompileUnit
    else if code == 0x13 then Some Tag.StructureType
    else if code == 0x15 then Some Tag.SubroutineType
    else if code == 0x16 then Some Tag.Typedef
    else if code == 0x17 then Some Tag.UnionType
    else if code == 0x19 then Some Tag.Variant
    else if code == 0x21 then Some Tag.SubrangeType
    else if code == 0x24 then Some Tag.BaseType
    else if code == 0x28 then Some Tag.Enumerator
    else if code == 0x2e then Some Tag.Subprogram
    else if code == 0x2f then Some Tag.TemplateTypeParameter
    else if code == 0x33 then Some Tag.VariantPart
    else if code == 0x34 then Some Tag.Variable
    else if code == 0x39 then Some Tag.Namespace
    else None

-- whether entries of the tag describe types
abbrev pub is_type : Tag → Bool
is_type Tag.ArrayType = true
is_type Tag.EnumerationType = true
is_type Tag.PointerType = true
is_type Tag.StructureType = true
is_type Tag.SubroutineType = true
is_type Tag.Typedef = true
is_type Tag.UnionType = true
is_type Tag.BaseType = true
is_type _ = false

-- whether entries of the tag are types of the set, but for the structures of variants
abbrev pub is_numbered : Tag → Bool
is_numbered Tag.ArrayType = true
is_numbered Tag.EnumerationType = true
is_numbered Tag.PointerType = true
is_numbered Tag.StructureType = true
is_numbered Tag.UnionType = true
is_numbered _ = false

-- whether the names of entries of the tag are those of the entries below, with `::` between
abbrev pub is_named_scope : Tag → Bool
is_named_scope Tag.Namespace = true
is_named_scope Tag.StructureType = true
is_named_scope Tag.EnumerationType = true
is_named_scope Tag.UnionType = true
is_named_scope _ = false

-- there is a tag, and it has this property
abbrev pub passes : (Tag → Bool) → Option Tag → Bool
passes test None = false
passes test (Some t) = test t

-- whether the code is that of a tag with this property
abbrev pub tagged : (Tag → Bool) → ℕ → Bool
tagged test code = passes test (tag_of code)
