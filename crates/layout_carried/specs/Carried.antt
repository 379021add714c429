-- What CodeView carries of a set.
use Rattle.std.specs.Prelude.{ℕ, ◌+◌, ◌==◌, if◌then◌else◌, nat_lt, ◌&&◌, Bool, true, false, List, [], ◌∷◌, map, Option, Some, None}
use Rattle.std.specs.List.{filter}
use Rattle.std.specs.Option.{option_map}
use Rattle.layout_set.specs.declared.func.Entry.{Entry}
use Rattle.layout_set.specs.declared.func.Func.{Func}
use Rattle.layout_set.specs.declared.func.Loc.{Loc}
use Rattle.layout_set.specs.declared.func.Loc.TheVariants.{Whole, Pieces}
use Rattle.layout_set.specs.declared.func.Piece.{Piece}
use Rattle.layout_set.specs.declared.func.Place.{Place}
use Rattle.layout_set.specs.declared.func.Place.TheVariants.{Reg, Mem, Fixed, Value, Expr}
use Rattle.layout_set.specs.declared.func.Scope.{Scope}
use Rattle.layout_set.specs.declared.func.Var.{Var}
use Rattle.layout_set.specs.declared.primitive.Primitive.{Primitive}
use Rattle.layout_set.specs.declared.primitive.Primitive.TheVariants.{Isize, Usize, I32, I64, U32, U64, I128, U128}
use Rattle.layout_set.specs.declared.set.Field.{Field}
use Rattle.layout_set.specs.declared.set.Set.{Set}
use Rattle.layout_set.specs.declared.set.Static.{Static}
use Rattle.layout_set.specs.declared.set.Tag.{Tag}
use Rattle.layout_set.specs.declared.set.TypeDef.{TypeDef}
use Rattle.layout_set.specs.declared.set.TypeDef.TheVariants as defs
use Rattle.layout_set.specs.declared.set.TypeRef.{TypeRef}
use Rattle.layout_set.specs.declared.set.TypeRef.TheVariants.{Prim, User}
use Rattle.layout_set.specs.declared.set.Variant.{Variant}

-- the unsigned and the signed number of a pointer's size: pointers have 4 or 8 bytes
abbrev pub unsigned_of : ℕ → Primitive
unsigned_of ptr = if ptr == 4 then U32 else U64

abbrev pub signed_of : ℕ → Primitive
signed_of ptr = if ptr == 4 then I32 else I64

-- numbers that are named for a pointer's size are numbers of that size there
abbrev pub carried_prim : ℕ → Primitive → Primitive
carried_prim ptr Usize = unsigned_of ptr
carried_prim ptr Isize = signed_of ptr
carried_prim ptr prim = prim

-- a tag of 128 bits has no sign
abbrev pub carried_tag_prim : ℕ → Primitive → Primitive
carried_tag_prim ptr I128 = U128
carried_tag_prim ptr prim = carried_prim ptr prim

abbrev pub carried_ref : ℕ → TypeRef → TypeRef
carried_ref ptr (Prim prim) = Prim (carried_prim ptr prim)
carried_ref ptr (User i) = User i

abbrev pub carried_field : ℕ → Field → Field
carried_field ptr f = record f { ty = carried_ref ptr f.ty }

abbrev pub carried_variant : ℕ → Variant → Variant
carried_variant ptr v = record v { fields = map (carried_field ptr) v.fields }

abbrev pub carried_tag : ℕ → Tag → Tag
carried_tag ptr t = record t { prim = carried_tag_prim ptr t.prim }

-- a type without params and align
abbrev pub carried_type : ℕ → TypeDef → TypeDef
carried_type ptr (defs.Struct name size align params fields) = defs.Struct name size 0 [] (map (carried_field ptr) fields)
carried_type ptr (defs.Array elem count) = defs.Array (carried_ref ptr elem) count
carried_type ptr (defs.Thin kind to) = defs.Thin kind (carried_ref ptr to)
carried_type ptr (defs.Slice name kind first) = defs.Slice name kind (carried_ref ptr first)
carried_type ptr (defs.Str name kind first) = defs.Str name kind (carried_ref ptr first)
carried_type ptr (defs.Dyn name kind first vtable) = defs.Dyn name kind (carried_ref ptr first) (carried_ref ptr vtable)
carried_type ptr defs.FnPtr = defs.FnPtr
carried_type ptr (defs.CLike name tag cases) = defs.CLike name (carried_tag_prim ptr tag) cases
carried_type ptr (defs.Enum name size align params tag variants) =
    defs.Enum name size 0 [] (option_map (carried_tag ptr) tag) (map (carried_variant ptr) variants)
carried_type ptr (defs.Bytes name size align) = defs.Bytes name size 0

abbrev pub carried_static : ℕ → Static → Static
carried_static ptr s = record s { ty = carried_ref ptr s.ty }

-- the place is a register, or memory at one
abbrev pub place_carries : Place → Bool
place_carries (Reg reg) = true
place_carries (Mem reg n) = true
place_carries (Fixed at) = false
place_carries (Value text) = false
place_carries (Expr ops) = false

abbrev pub place_carries_if : Option Place → Bool
place_carries_if None = false
place_carries_if (Some place) = place_carries place

-- the pieces from this offset on all have such a place, and begin below offset 4096
abbrev pub pieces_carry : ℕ → List Piece → Bool
pieces_carry off [] = true
pieces_carry off (p ∷ pieces) = (nat_lt off 4096 && place_carries_if p.place) && pieces_carry (off + p.size) pieces

abbrev pub loc_carries : Loc → Bool
loc_carries (Whole place) = place_carries place
loc_carries (Pieces pieces) = pieces_carry 0 pieces

abbrev pub entry_carries : Entry → Bool
entry_carries e = loc_carries e.loc

-- a variable with those of its entries that are carried
abbrev pub carried_var : ℕ → Var → Var
carried_var ptr v = record v { ty = carried_ref ptr v.ty; entries = filter entry_carries v.entries }

abbrev pub carried_scope : ℕ → Scope → Scope
carried_scope ptr s = record s { vars = map (carried_var ptr) s.vars }

-- a function whose frame is not known
abbrev pub carried_func : ℕ → Func → Func
carried_func ptr f = record f { frame = None; scopes = map (carried_scope ptr) f.scopes }

abbrev pub carried : Set → Set
carried set = record set {
  types = map (carried_type set.target.ptr) set.types;
  statics = map (carried_static set.target.ptr) set.statics;
  funcs = map (carried_func set.target.ptr) set.funcs;
}
