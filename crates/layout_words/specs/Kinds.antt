-- The words by which lines are told apart.
use Rattle.std.specs.Prelude.{ℕ, if◌then◌else◌, List, [], ◌∷◌, Option, Some, None, codes}
use Rattle.std.specs.Str.{bytes_eq}
use Rattle.names.specs.declared.name.PtrKind.{PtrKind}
use Rattle.names.specs.declared.name.PtrKind.TheVariants as pointers
use Rattle.layout_set.specs.declared.primitive.Primitive.{Primitive}
use Rattle.layout_set.specs.declared.primitive.Primitive.TheVariants as prims
use Rattle.expr_eval.specs.declared.operation.Op.{Op}
use Rattle.expr_eval.specs.declared.operation.Op.TheVariants as ops
use Rattle.layout_words.specs.declared.kinds.NumberedOp.{NumberedOp}
use Rattle.layout_words.specs.declared.kinds.NumberedOp.TheVariants as numbered
use Rattle.layout_words.specs.declared.kinds.PlaceKind.{PlaceKind}
use Rattle.layout_words.specs.declared.kinds.PlaceKind.TheVariants as places
use Rattle.layout_words.specs.declared.kinds.LineKind.{LineKind}
use Rattle.layout_words.specs.declared.kinds.LineKind.TheVariants as firsts
use Rattle.layout_words.specs.declared.kinds.TypeKind.{TypeKind}
use Rattle.layout_words.specs.declared.kinds.TypeKind.TheVariants as types
use Rattle.layout_words.specs.declared.kinds.SelectorKind.{SelectorKind}
use Rattle.layout_words.specs.declared.kinds.SelectorKind.TheVariants as selectors

-- the first of some items whose word this is
abbrev pub named_in : {A : Type 0} → (A → List ℕ) → List A → List ℕ → Option A
named_in name [] word = None
named_in name (x ∷ xs) word = if bytes_eq word (name x) then Some x else named_in name xs word

-- the first word of a line
abbrev pub line_kind_word : LineKind → List ℕ
line_kind_word firsts.Version = codes "rdbg-layout"
line_kind_word firsts.Target = codes "target"
line_kind_word firsts.Type = codes "type"
line_kind_word firsts.Param = codes "param"
line_kind_word firsts.Field = codes "field"
line_kind_word firsts.Case = codes "case"
line_kind_word firsts.Tag = codes "tag"
line_kind_word firsts.Variant = codes "variant"
line_kind_word firsts.Static = codes "static"
line_kind_word firsts.Func = codes "fn"
line_kind_word firsts.Scope = codes "scope"
line_kind_word firsts.Var = codes "var"
line_kind_word firsts.Arg = codes "arg"
line_kind_word firsts.At = codes "at"
line_kind_word firsts.Piece = codes "piece"

abbrev pub all_line_kinds : List LineKind
all_line_kinds = firsts.Version ∷ firsts.Target ∷ firsts.Type ∷ firsts.Param ∷ firsts.Field ∷ firsts.Case ∷ firsts.Tag ∷ firsts.Variant ∷ firsts.Static ∷ firsts.Func ∷ firsts.Scope ∷ firsts.Var ∷ firsts.Arg ∷ firsts.At ∷ firsts.Piece ∷ []

abbrev pub line_kind_of : List ℕ → Option LineKind
line_kind_of word = named_in line_kind_word all_line_kinds word

-- the third word of a type's line
abbrev pub type_kind_word : TypeKind → List ℕ
type_kind_word types.Struct = codes "struct"
type_kind_word types.Array = codes "array"
type_kind_word types.Thin = codes "thin"
type_kind_word types.Slice = codes "slice"
type_kind_word types.Str = codes "str"
type_kind_word types.Dyn = codes "dyn"
type_kind_word types.Function = codes "fn"
type_kind_word types.CLike = codes "clike"
type_kind_word types.Enum = codes "enum"
type_kind_word types.Bytes = codes "bytes"

abbrev pub all_type_kinds : List TypeKind
all_type_kinds = types.Struct ∷ types.Array ∷ types.Thin ∷ types.Slice ∷ types.Str ∷ types.Dyn ∷ types.Function ∷ types.CLike ∷ types.Enum ∷ types.Bytes ∷ []

abbrev pub type_kind_of : List ℕ → Option TypeKind
type_kind_of word = named_in type_kind_word all_type_kinds word

-- the third word of a variant's line
abbrev pub selector_word : SelectorKind → List ℕ
selector_word selectors.Exact = codes "exact"
selector_word selectors.Span = codes "span"
selector_word selectors.Only = codes "only"

abbrev pub all_selector_kinds : List SelectorKind
all_selector_kinds = selectors.Exact ∷ selectors.Span ∷ selectors.Only ∷ []

abbrev pub selector_kind_of : List ℕ → Option SelectorKind
selector_kind_of word = named_in selector_word all_selector_kinds word

abbrev pub pointer_word : PtrKind → List ℕ
pointer_word pointers.Ref = codes "ref"
pointer_word pointers.RefMut = codes "refmut"
pointer_word pointers.Const = codes "const"
pointer_word pointers.Mut = codes "mut"
pointer_word pointers.Boxed = codes "box"

abbrev pub all_pointers : List PtrKind
all_pointers = pointers.Ref ∷ pointers.RefMut ∷ pointers.Const ∷ pointers.Mut ∷ pointers.Boxed ∷ []

abbrev pub pointer_of : List ℕ → Option PtrKind
pointer_of word = named_in pointer_word all_pointers word

-- the name of a primitive, as in Rust
abbrev pub primitive_word : Primitive → List ℕ
primitive_word prims.Unit = codes "()"
primitive_word prims.Bool = codes "bool"
primitive_word prims.Char = codes "char"
primitive_word prims.I8 = codes "i8"
primitive_word prims.I16 = codes "i16"
primitive_word prims.I32 = codes "i32"
primitive_word prims.I64 = codes "i64"
primitive_word prims.I128 = codes "i128"
primitive_word prims.Isize = codes "isize"
primitive_word prims.U8 = codes "u8"
primitive_word prims.U16 = codes "u16"
primitive_word prims.U32 = codes "u32"
primitive_word prims.U64 = codes "u64"
primitive_word prims.U128 = codes "u128"
primitive_word prims.Usize = codes "usize"
primitive_word prims.F32 = codes "f32"
primitive_word prims.F64 = codes "f64"

abbrev pub all_primitives : List Primitive
all_primitives = prims.Unit ∷ prims.Bool ∷ prims.Char ∷ prims.I8 ∷ prims.I16 ∷ prims.I32 ∷ prims.I64 ∷ prims.I128 ∷ prims.Isize ∷ prims.U8 ∷ prims.U16 ∷ prims.U32 ∷ prims.U64 ∷ prims.U128 ∷ prims.Usize ∷ prims.F32 ∷ prims.F64 ∷ []

abbrev pub primitive_of : List ℕ → Option Primitive
primitive_of word = named_in primitive_word all_primitives word

-- the word that says what a place is
abbrev pub place_word : PlaceKind → List ℕ
place_word places.Reg = codes "reg"
place_word places.Mem = codes "mem"
place_word places.Fixed = codes "fixed"
place_word places.Value = codes "value"
place_word places.Expr = codes "expr"
place_word places.Pieces = codes "pieces"
place_word places.Nowhere = codes "none"

-- what an entry may be
abbrev pub all_entry_kinds : List PlaceKind
all_entry_kinds = places.Reg ∷ places.Mem ∷ places.Fixed ∷ places.Value ∷ places.Expr ∷ places.Pieces ∷ []

abbrev pub entry_kind_of : List ℕ → Option PlaceKind
entry_kind_of word = named_in place_word all_entry_kinds word

-- what a piece may be
abbrev pub all_piece_kinds : List PlaceKind
all_piece_kinds = places.Reg ∷ places.Mem ∷ places.Fixed ∷ places.Value ∷ places.Expr ∷ places.Nowhere ∷ []

abbrev pub piece_kind_of : List ℕ → Option PlaceKind
piece_kind_of word = named_in place_word all_piece_kinds word

-- what stands before the colon of an operation with a number
abbrev pub numbered_word : NumberedOp → List ℕ
numbered_word numbered.Const = codes "const"
numbered_word numbered.Deref = codes "deref"
numbered_word numbered.Pick = codes "pick"
numbered_word numbered.Plus = codes "plus"
numbered_word numbered.Reg = codes "reg"

abbrev pub all_numbered_ops : List NumberedOp
all_numbered_ops = numbered.Const ∷ numbered.Deref ∷ numbered.Pick ∷ numbered.Plus ∷ numbered.Reg ∷ []

abbrev pub numbered_of : List ℕ → Option NumberedOp
numbered_of word = named_in numbered_word all_numbered_ops word

-- the word of an operation without a number
abbrev pub plain_word : Op → List ℕ
plain_word ops.Dup = codes "dup"
plain_word ops.Drop = codes "drop"
plain_word ops.Over = codes "over"
plain_word ops.Swap = codes "swap"
plain_word ops.Rot = codes "rot"
plain_word ops.And = codes "and"
plain_word ops.Minus = codes "minus"
plain_word ops.Mul = codes "mul"
plain_word ops.Neg = codes "neg"
plain_word ops.Not = codes "not"
plain_word ops.Or = codes "or"
plain_word ops.Plus = codes "plus"
plain_word ops.Shl = codes "shl"
plain_word ops.Shr = codes "shr"
plain_word ops.Shra = codes "shra"
plain_word ops.Xor = codes "xor"
plain_word ops.Cfa = codes "cfa"
plain_word ops.Entry = codes "entry"
plain_word ops.StackValue = codes "value"
plain_word _ = []

abbrev pub all_plain_ops : List Op
all_plain_ops = ops.Dup ∷ ops.Drop ∷ ops.Over ∷ ops.Swap ∷ ops.Rot ∷ ops.And ∷ ops.Minus ∷ ops.Mul ∷ ops.Neg ∷ ops.Not ∷ ops.Or ∷ ops.Plus ∷ ops.Shl ∷ ops.Shr ∷ ops.Shra ∷ ops.Xor ∷ ops.Cfa ∷ ops.Entry ∷ ops.StackValue ∷ []

abbrev pub plain_of : List ℕ → Option Op
plain_of word = named_in plain_word all_plain_ops word
