-- What is looked up: the record of cv_type_defs, and the steps that its definitions take.
use Rattle.std.specs.Prelude.{ℕ, List, Option, Some, None}
use Rattle.cv_symbol_records.specs.declared.kinds.SymRec.{SymRec}
use Rattle.cv_type_records.specs.declared.kinds.TypeRec.{TypeRec}
use Rattle.layout_set.specs.declared.primitive.Primitive.{Primitive}
use Rattle.layout_set.specs.declared.set.TypeRef.{TypeRef}
use Rattle.cv_type_defs.specs.Rules.{wrong_kind}
use Rattle.cv_type_defs.specs.TypeRefs.{Info}

-- the same of these records, symbols and simple types
abbrev pub info_with : List TypeRec → List SymRec → List ℕ → Info
info_with records symbols used = record { records = records; symbols = symbols; used = used }

-- the rule that a link breaks which leads to no type
abbrev pub type_there : Option TypeRef → Option ℕ
type_there None = Some wrong_kind
type_there (Some ty) = None

abbrev pub primitive_in : Option TypeRef → Option Primitive
primitive_in (Some (TypeRef.Prim prim)) = Some prim
primitive_in _ = None

-- the rule that a link breaks which leads to no primitive
abbrev pub primitive_there : Option Primitive → Option ℕ
primitive_there None = Some wrong_kind
primitive_there (Some prim) = None
