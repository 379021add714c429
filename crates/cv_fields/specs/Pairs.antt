-- The two fields of a fat pointer, and what they are by themselves.
use Rattle.std.specs.Prelude.{ℕ, ◌==◌, ◌&&◌, if◌then◌else◌, Bool, false, List, ℤ, pos, negsuc, Option, Some, None}
use Rattle.layout_set.specs.declared.shapes.FatContent.{FatContent}
use Rattle.names.specs.declared.name.PtrKind.{PtrKind}
use Rattle.cv_type_defs.specs.FatPointers.{Fat, is_fat_pair}
use Rattle.cv_type_defs.specs.Fields.{CvField, is_named}
use Rattle.cv_type_defs.specs.Links.{Target}
use Rattle.cv_type_records.specs.declared.kinds.TypeRec.{TypeRec}

-- a link to this simple type
abbrev pub is_simple : ℕ → Option Target → Bool
is_simple t (Some (Target.Simple index)) = index == t
is_simple t _ = false

abbrev pub is_at : ℕ → ℤ → Bool
is_at offset (pos n) = n == offset
is_at offset (negsuc n) = false

-- the field has this name, and lies there
abbrev pub is_placed : List ℕ → ℕ → CvField → Bool
is_placed name offset f = is_named name f && is_at offset f.offset

-- the fat pointer of this kind to this with these fields, where these are as they must be
abbrev pub fat_by : List TypeRec → Option (PtrKind × FatContent) → CvField → CvField → Option Fat
fat_by records (Some fat) a b = if is_fat_pair records fat.1 a b then Some (record { kind = fat.0; content = fat.1; first = a; second = b }) else None
fat_by records None a b = None
