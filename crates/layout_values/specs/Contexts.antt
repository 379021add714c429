-- What a part is read in.
use Rattle.std.specs.Prelude.{ℕ, ◌+◌, ◌*◌, min, ◌==◌, Bool, List, Option, Some, None}
use Rattle.std.specs.List.{range_with_len, find}
use Rattle.snapshot_file.specs.Memory.{Run, sub, number, items_at}
use Rattle.layout_set.specs.declared.set.Set.{Set}
use Rattle.layout_set.specs.declared.set.TypeRef.{TypeRef}
use Rattle.layout_set.specs.declared.set.TypeDef.{TypeDef}
use Rattle.layout_set.specs.declared.set.Field.{Field}
use Rattle.layout_set.specs.declared.set.Tag.{Tag}
use Rattle.layout_set.specs.declared.set.Case.{Case}
use Rattle.layout_set.specs.Primitives.{prim_bytes}
use Rattle.layout_set.specs.Sizes.{size}

-- a part: items, each of which is a byte or missing
abbrev pub Items : Type 0
Items = List (Option ℕ)

-- the types of a set, the bytes of a pointer, the memory, and how many elements of a sequence are shown at most
pub record Context : Type 0 where
  pub types : List TypeDef
  pub ptr : ℕ
  pub memory : List Run
  pub width : ℕ

-- the types of a set, where a pointer has `ptr` bytes
abbrev pub context_at : ℕ → Set → List Run → ℕ → Context
context_at ptr set memory width = record { types = set.types; ptr = ptr; memory = memory; width = width }

-- the types of a set and its target's pointer size
abbrev pub context_of : Set → List Run → ℕ → Context
context_of set memory width = context_at set.target.ptr set memory width

-- the little-endian number of so many items from an offset on, where none of them is missing
unfoldable pub number_at : Items → ℕ → ℕ → Option ℕ
number_at part off n = number (sub part off n)

-- the number of an enum's tag, without sign; 0 where the enum has no tag
abbrev pub tag_number : ℕ → Option Tag → Items → Option ℕ
tag_number ptr None part = Some 0
tag_number ptr (Some tag) part = number_at part tag.off (prim_bytes ptr tag.prim)

abbrev pub has_number : ℕ → Case → Bool
has_number n x = n == x.number

-- the first case with this number
abbrev pub case_of : List Case → ℕ → Option Case
case_of cases n = find (has_number n) cases

-- the part of a field
abbrev pub field_part : Context → Items → Field → Items
field_part c part field = sub part field.off (size c.ptr c.types field.ty)

-- the part of an array's element
abbrev pub element_part : Context → TypeRef → Items → ℕ → Items
element_part c elem part i = sub part (i * size c.ptr c.types elem) (size c.ptr c.types elem)

-- what stands at an address, of a type
abbrev pub target_part : Context → TypeRef → ℕ → Items
target_part c to at = items_at c.memory at (size c.ptr c.types to)

-- the part of an element from an address on
abbrev pub far_part : Context → TypeRef → ℕ → ℕ → Items
far_part c elem at i = items_at c.memory (at + i * size c.ptr c.types elem) (size c.ptr c.types elem)

-- the numbers of the elements that are shown
abbrev pub shown_of : Context → ℕ → List ℕ
shown_of c count = range_with_len 0 (min count c.width)
