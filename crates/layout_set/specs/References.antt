-- The types that a type refers to.
use Rattle.std.specs.Prelude.{List, [], ◌∷◌, ◌++◌, map}
use Rattle.layout_set.specs.declared.set.Field.{Field}
use Rattle.layout_set.specs.declared.set.Param.{Param}
use Rattle.layout_set.specs.declared.set.Variant.{Variant}
use Rattle.layout_set.specs.declared.set.TypeRef.{TypeRef}
use Rattle.layout_set.specs.declared.set.TypeDef.{TypeDef}
use Rattle.layout_set.specs.declared.set.TypeDef.TheVariants.{Struct, Array, Thin, Slice, Str, Dyn, FnPtr, CLike, Enum, Bytes}

abbrev pub param_types : List Param → List TypeRef
param_types params = map (λ p. p.ty) params

abbrev pub field_types : List Field → List TypeRef
field_types fields = map (λ f. f.ty) fields

-- the types of all variants' fields
abbrev pub variant_types : List Variant → List TypeRef
variant_types [] = []
variant_types (v ∷ variants) = field_types v.fields ++ variant_types variants

-- all types that a type refers to, by its params, its fields, as an array or as a pointer
abbrev pub references : TypeDef → List TypeRef
references (Struct name size align params fields) = param_types params ++ field_types fields
references (Array elem count) = elem ∷ []
references (Thin kind to) = to ∷ []
references (Slice name kind ptr) = ptr ∷ []
references (Str name kind ptr) = ptr ∷ []
references (Dyn name kind ptr vtable) = ptr ∷ vtable ∷ []
references FnPtr = []
references (CLike name tag cases) = []
references (Enum name size align params tag variants) = param_types params ++ variant_types variants
references (Bytes name size align) = []

-- the types that a type contains by value: by its fields or as an array, whatever the count
abbrev pub contents : TypeDef → List TypeRef
contents (Struct name size align params fields) = field_types fields
contents (Array elem count) = elem ∷ []
contents (Thin kind to) = []
contents (Slice name kind ptr) = []
contents (Str name kind ptr) = []
contents (Dyn name kind ptr vtable) = []
contents FnPtr = []
contents (CLike name tag cases) = []
contents (Enum name size align params tag variants) = variant_types variants
contents (Bytes name size align) = []
