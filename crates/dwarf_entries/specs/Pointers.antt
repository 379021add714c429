-- Pointers, by what they lead to and how their names begin, and structures that are fat pointers: DWARF 5, 5.3 and 5.14.
use Rattle.std.specs.Prelude.{ℕ, ◌&&◌, not, Bool, true, false, if◌then◌else◌, List, [], ◌∷◌, nat_eq, codes, Option, Some, None}
use Rattle.std.specs.List.{starts_with}
use Rattle.layout_set.specs.NameShapes.{fat_of}
use Rattle.layout_set.specs.declared.primitive.Primitive.{Primitive}
use Rattle.layout_set.specs.declared.set.TypeRef.{TypeRef}
use Rattle.layout_set.specs.declared.set.TypeDef.{TypeDef}
use Rattle.layout_set.specs.declared.shapes.FatContent.{FatContent}
use Rattle.names.specs.declared.name.Name.{Name}
use Rattle.names.specs.declared.name.PtrKind.{PtrKind}
use Rattle.dwarf_entries.specs.Codes.{at_type}
use Rattle.dwarf_entries.specs.Dies.{Die, Info, what}
use Rattle.dwarf_entries.specs.FatPairs.{Placed, is_counted, is_with_table, pair_of}
use Rattle.dwarf_entries.specs.Lookups.{has}
use Rattle.dwarf_entries.specs.Names.{joined_text, name_of}
use Rattle.dwarf_entries.specs.Structures.{members_of, location_of}
use Rattle.dwarf_entries.specs.Tags.{passes}
use Rattle.dwarf_entries.specs.Texts.{own_text}
use Rattle.dwarf_entries.specs.TypeLinks.{End, type_end, type_of, type_rule, or_unit}
use Rattle.dwarf_entries.specs.declared.tag.Tag.{Tag}

-- the text begins so
abbrev pub begins_with : List ℕ → List ℕ → Bool
begins_with front text = starts_with nat_eq text front

-- the kind of a pointer of this name; what follows isn't compared
unfoldable pub kind_of_name : List ℕ → PtrKind
kind_of_name text =
    if begins_with (codes "&mut ") text then PtrKind.RefMut
    else if begins_with (codes "&") text then PtrKind.Ref
    else if begins_with (codes "*const ") text then PtrKind.Const
    else if begins_with (codes "*mut ") text then PtrKind.Mut
    else if begins_with (codes "alloc::boxed::Box<") text then PtrKind.Boxed
    else PtrKind.Mut

abbrev is_subroutine : Tag → Bool
is_subroutine Tag.SubroutineType = true
is_subroutine _ = false

abbrev pub ends_at_function : End → Bool
ends_at_function (End.reached d) = passes is_subroutine (what d)
ends_at_function _ = false

-- what a pointer leads to: nothing where it is one to a function, and a unit where it has no type
abbrev pub pointee_of : Info → Die → Option TypeRef
pointee_of info d =
    if not (has at_type d.entry) then Some (TypeRef.Prim Primitive.«Unit»)
    else if ends_at_function (type_end info d) then None
    else Some (or_unit (type_of info d))

abbrev thin_or_function : PtrKind → Option TypeRef → TypeDef
thin_or_function kind None = TypeDef.FnPtr
thin_or_function kind (Some to) = TypeDef.Thin kind to

-- the type that a pointer is
abbrev pub pointer_def : Info → Die → TypeDef
pointer_def info d = thin_or_function (kind_of_name (joined_text info d)) (pointee_of info d)

-- the rule that a pointer's link breaks; it alone may lead to a function's type
abbrev pub pointer_rule : Info → Die → Option ℕ
pointer_rule info d = if not (has at_type d.entry) then None else if ends_at_function (type_end info d) then None else type_rule info d

abbrev is_pointer : Tag → Bool
is_pointer Tag.PointerType = true
is_pointer _ = false

abbrev pointee_at : Info → End → Option TypeRef
pointee_at info (End.reached d) = if passes is_pointer (what d) then pointee_of info d else None
pointee_at info _ = None

-- what the thin pointer leads to that is the type of a member, where that is one
abbrev pub thin_pointee : Info → Die → Option TypeRef
thin_pointee info m = pointee_at info (type_end info m)

abbrev pub is_byte : Option TypeRef → Bool
is_byte (Some (TypeRef.Prim Primitive.U8)) = true
is_byte _ = false

abbrev pub is_there : Option TypeRef → Bool
is_there None = false
is_there (Some to) = true

-- the name of a member, and where it lies
abbrev pub placed : Info → Die → Placed
placed info m = record { name = own_text info m; offset = location_of m }

-- the fat pointer of a name, a kind, what it leads to and two members, where these are as they must be
abbrev pub fat_pair : Info → Name → PtrKind → FatContent → Die → Die → Option TypeDef
fat_pair info name kind FatContent.OfSlice a b =
    if is_counted (pair_of (placed info a) (placed info b)) && is_there (thin_pointee info a) then Some (TypeDef.Slice name kind (or_unit (type_of info a))) else None
fat_pair info name kind FatContent.OfStr a b =
    if is_counted (pair_of (placed info a) (placed info b)) && is_byte (thin_pointee info a) then Some (TypeDef.Str name kind (or_unit (type_of info a))) else None
fat_pair info name kind FatContent.OfDyn a b =
    if is_with_table (pair_of (placed info a) (placed info b)) && (is_there (thin_pointee info a) && is_there (thin_pointee info b))
    then Some (TypeDef.Dyn name kind (or_unit (type_of info a)) (or_unit (type_of info b))) else None

abbrev fat_with : Info → Name → Option (PtrKind × FatContent) → List Die → Option TypeDef
fat_with info name (Some fat) (a ∷ b ∷ []) = fat_pair info name fat.0 fat.1 a b
fat_with info name _ _ = None

-- the fat pointer that a structure is, where it has no variant part, a fat name, and just the two members of that name in order
abbrev pub fat_pointer : Info → Die → Option TypeDef
fat_pointer info d = fat_with info (name_of info d) (fat_of (name_of info d)) (members_of info d)
