-- The shapes of names: paths, names of structs, and names of fat pointers.
use Rattle.std.specs.Prelude.{ℕ, Bool, true, false, ◌&&◌, is_none, if◌then◌else◌, List, [], ◌∷◌, Option, Some, None, codes}
use Rattle.std.specs.Str.{bytes_eq}
use Rattle.names.specs.declared.name.Name.{Name, out-Name}
use Rattle.names.specs.declared.name.Name.TheOpen.{Name-F}
use Rattle.names.specs.declared.name.Seg.{Seg}
use Rattle.names.specs.declared.name.PtrKind.{PtrKind}
use Rattle.names.specs.declared.name.PtrKind.TheVariants.{Boxed}
use Rattle.layout_set.specs.declared.shapes.FatContent.{FatContent}
use Rattle.layout_set.specs.declared.shapes.FatContent.TheVariants.{OfSlice, OfStr, OfDyn}

abbrev is_raw_layer : Name-F Name Seg → Bool
is_raw_layer (Name-F.Raw text) = true
is_raw_layer _ = false

-- the name is a text in place of a name
abbrev pub is_raw : Name → Bool
is_raw name = is_raw_layer (out-Name name)

abbrev is_path_layer : Name-F Name Seg → Bool
is_path_layer (Name-F.Path segs) = true
is_path_layer _ = false

abbrev pub is_path : Name → Bool
is_path name = is_path_layer (out-Name name)

abbrev is_struct_layer : Name-F Name Seg → Bool
is_struct_layer (Name-F.Path segs) = true
is_struct_layer (Name-F.Tuple (part ∷ parts)) = true
is_struct_layer (Name-F.Dyn members) = true
is_struct_layer _ = false

-- a path, a tuple of at least one part or a `Dyn`
abbrev pub is_struct_name : Name → Bool
is_struct_name name = is_struct_layer (out-Name name)

abbrev fat_content_layer : Name-F Name Seg → Option FatContent
fat_content_layer (Name-F.Slice item) = Some OfSlice
fat_content_layer Name-F.Str = Some OfStr
fat_content_layer (Name-F.Dyn members) = Some OfDyn
fat_content_layer _ = None

-- what a fat pointer to something of this name leads to
abbrev pub fat_content : Name → Option FatContent
fat_content name = fat_content_layer (out-Name name)

abbrev pub is_empty : {X : Type 0} → List X → Bool
is_empty [] = true
is_empty (x ∷ xs) = false

-- the segment is this word, without a number
abbrev pub is_called : List ℕ → Seg → Bool
is_called word seg = bytes_eq seg.word word && is_none seg.number

-- the segment is this word alone
abbrev pub is_plain : List ℕ → Seg → Bool
is_plain word seg = is_called word seg && is_empty seg.args

abbrev pub content_of_args : List Name → Option FatContent
content_of_args [] = None
content_of_args (first ∷ rest) = fat_content first

-- the segments are `alloc::boxed::Box`, with args or without
abbrev pub is_box : List Seg → Bool
is_box (a ∷ b ∷ c ∷ []) = is_plain (codes "alloc") a && (is_plain (codes "boxed") b && is_called (codes "Box") c)
is_box _ = false

abbrev pub args_at_last : List Seg → List Name
args_at_last (a ∷ b ∷ c ∷ []) = c.args
args_at_last _ = []

-- what a box of these segments leads to, where its first arg is without a size
abbrev pub box_content : List Seg → Option FatContent
box_content segs = if is_box segs then content_of_args (args_at_last segs) else None

abbrev pub with_kind : PtrKind → Option FatContent → Option (PtrKind × FatContent)
with_kind kind None = None
with_kind kind (Some content) = Some (kind, content)

abbrev fat_layer : Name-F Name Seg → Option (PtrKind × FatContent)
fat_layer (Name-F.Pointer kind to) = with_kind kind (fat_content to)
fat_layer (Name-F.Path segs) = with_kind Boxed (box_content segs)
fat_layer _ = None

-- the kind of a fat name, and what it leads to
abbrev pub fat_of : Name → Option (PtrKind × FatContent)
fat_of name = fat_layer (out-Name name)
