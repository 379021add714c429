-- What type records say: types of a set, and the type for which each index stands; or the first rule that they break.
use Rattle.std.specs.Prelude.{◌≡◌, ℕ, ◌+◌, ◌==◌, ◌||◌, Bool, true, if◌then◌else◌, List, ◌++◌, map, filter_map, Option, Some, None, unwrap_or, is_some}
use Rattle.std.specs.List.{list_any}
use Rattle.std.specs.Option.{option_map}
use Rattle.layout_set.specs.declared.primitive.Primitive.{Primitive}
use Rattle.layout_set.specs.declared.set.TypeDef.{TypeDef}
use Rattle.layout_set.specs.declared.set.TypeRef.{TypeRef}
use Rattle.names.specs.declared.name.PtrKind.{PtrKind}
use Rattle.rv_bytes.specs.Forms.{Form}
use Rattle.rv_bytes.specs.Meanings.{Meaning}
use Rattle.cv_symbol_records.specs.declared.kinds.SymRec.{SymRec}
use Rattle.cv_type_records.specs.declared.kinds.TypeRec.{TypeRec}
use Rattle.cv_type_defs.specs.Items.{Spot, first_fault}
use Rattle.cv_type_defs.specs.Links.{Target, target}
use Rattle.cv_type_defs.specs.SimpleTypes.{first_index, primitive_at, simple_pointer}
use Rattle.cv_type_defs.specs.TypeRefs.{Info, info_of, pointer_number, type_of}
use Rattle.cv_type_defs.specs.Types.{def_of, items, numbered}
use Rattle.cv_type_defs.specs.Uses.{with_places}
use Rattle.cv_type_defs.specs.declared.read_types.ReadTypes.{ReadTypes}

-- the pointer to a simple type, which has no mark of what kind it is
abbrev pub simple_pointer_def : ℕ → TypeDef
simple_pointer_def t = TypeDef.Thin PtrKind.Mut (TypeRef.Prim (unwrap_or (primitive_at t) Primitive.«Unit»))

-- the types of the set: the numbered records in order, and then the simple pointers that are used, rising
abbrev pub types_in : Info → List TypeDef
types_in info = map (def_of info) (numbered info) ++ map simple_pointer_def info.used

-- the index of a simple pointer that is used, and its type
abbrev pointer_ref : Info → ℕ → ℕ × TypeRef
pointer_ref info t = (simple_pointer t, TypeRef.User (pointer_number info t))

-- a link to a simple pointer that nothing uses stands for no type
abbrev stands_for_type : Info → Target → Bool
stands_for_type info (Target.Simple index) = is_some (primitive_at index) || list_any (λ t. index == simple_pointer t) info.used
stands_for_type info to = true

-- the index of a record, and the type for which it stands, if there is one
abbrev record_ref_to : Info → ℕ → Target → Option (ℕ × TypeRef)
record_ref_to info index to = if stands_for_type info to then option_map (λ ty. (index, ty)) (type_of info to) else None

abbrev record_ref : Info → ℕ × TypeRec → Option (ℕ × TypeRef)
record_ref info p = record_ref_to info (first_index + p.0) (target info.records (p.0 + 1) (first_index + p.0))

-- the types of indices, rising: those of the simple pointers that are used, and of the records that stand for a type
abbrev pub refs_in : Info → List (ℕ × TypeRef)
refs_in info = map (pointer_ref info) info.used ++ filter_map (record_ref info) (with_places info.records)

-- what is said
abbrev pub said : Info → ReadTypes
said info = record { types = types_in info; refs = refs_in info }

-- the first rule that a record breaks, and where
abbrev pub fault_in : List TypeRec → List SymRec → Option (ℕ × Spot)
fault_in records symbols = first_fault (items (info_of records symbols))

-- The records define these types, beside the constants and the variables of these symbols: no item breaks a rule, and this is
-- what they say.
pub record Define (records : List TypeRec) (symbols : List SymRec) (read : ReadTypes) : Type 0 where
  pub valid : fault_in records symbols ≡ None
  pub is : read ≡ said (info_of records symbols)

-- the records define no types: this is the first rule that one breaks, and where
abbrev pub AreRefused : List TypeRec → List SymRec → ℕ → Spot → Type 0
AreRefused records symbols rule spot = fault_in records symbols ≡ Some (rule, spot)

-- records define at most one list of types, are refused by at most one rule at one place, and never both
pub record HaveOneMeaning (records : List TypeRec) (symbols : List SymRec) : Type 0 where
  pub one_list : (a b : ReadTypes) → Define records symbols a → Define records symbols b → a ≡ b
  pub one_fault : (r q : ℕ) (s t : Spot) → AreRefused records symbols r s → AreRefused records symbols q t → (r ≡ q) × (s ≡ t)
  pub never_both : (a : ReadTypes) (r : ℕ) (s : Spot) → Define records symbols a → AreRefused records symbols r s → ⊥

-- the meaning of the bytes of `.debug$T` beside these symbols, which are split into records by this form
abbrev pub types_meaning : List SymRec → Form Spot (List TypeRec) → Meaning Spot (List TypeRec) ReadTypes
types_meaning symbols form = record {
  form = form;
  fault = λ records. fault_in records symbols;
  said = λ records. said (info_of records symbols);
}
