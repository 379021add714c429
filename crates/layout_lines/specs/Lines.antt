-- The lines of types, statics and functions, by their forms.
use Rattle.std.specs.Prelude.{◌≡◌, ℕ, ℤ, ◌<◌, ◌^◌, if◌then◌else◌, List, [], ◌++◌, Option, Some, None, IfSome}
use Rattle.std.specs.Fmt.{decimal}
use Rattle.names.specs.declared.name.Name.{Name}
use Rattle.names.specs.declared.name.PtrKind.{PtrKind}
use Rattle.layout_set.specs.declared.primitive.Primitive.{Primitive}
use Rattle.layout_set.specs.declared.set.TypeRef.{TypeRef}
use Rattle.layout_set.specs.declared.set.TypeDef.{TypeDef}
use Rattle.layout_set.specs.declared.set.TypeDef.TheVariants.{Struct, Array, Thin, Slice, Str, Dyn, FnPtr, CLike, Enum, Bytes}
use Rattle.layout_set.specs.declared.set.Selector.{Selector}
use Rattle.layout_set.specs.declared.set.Selector.TheVariants.{Exact, Span, Only}
use Rattle.snapshot_file.specs.declared.registers.Reg.{Reg}
use Rattle.layout_set.specs.declared.func.Place.{Place}
use Rattle.layout_set.specs.declared.func.Place.TheVariants as place
use Rattle.layout_set.specs.declared.func.Zone.{Zone}
use Rattle.layout_words.specs.declared.kinds.PlaceKind.{PlaceKind}
use Rattle.layout_words.specs.declared.kinds.PlaceKind.TheVariants as places
use Rattle.layout_words.specs.declared.kinds.TypeKind.{TypeKind}
use Rattle.layout_words.specs.declared.kinds.TypeKind.TheVariants as kinds
use Rattle.layout_words.specs.declared.kinds.SelectorKind.{SelectorKind}
use Rattle.layout_words.specs.declared.kinds.SelectorKind.TheVariants as selectors
use Rattle.layout_lines.specs.declared.line.Line.{Line}
use Rattle.layout_lines.specs.declared.line.Line.TheVariants as lines
use Rattle.layout_words.specs.declared.kinds.LineKind.{LineKind}
use Rattle.layout_words.specs.declared.kinds.LineKind.TheVariants as firsts
use Rattle.layout_words.specs.Kinds.{line_kind_word, type_kind_word, selector_word, place_word}
use Rattle.layout_words.specs.Spellings.{number, address, reference, pointer, primitive, word, name}
use Rattle.layout_words.specs.PlaceSpellings.{register, frame, hex, signed, digits, zone}
use Rattle.layout_words.specs.Forms.{Left, Form, behind, nothing, ◌·◌, rest, many, operations}
use Rattle.names.specs.Words.{IsWord}

-- WORD T
abbrev pub param_form : Form (List ℕ × (TypeRef × Unit {0}))
param_form = word · reference · nothing

-- WORD OFF T
abbrev pub field_form : Form (List ℕ × (ℕ × (TypeRef × Unit {0})))
field_form = word · number 32 · reference · nothing

-- WORD N
abbrev pub case_form : Form (List ℕ × (ℕ × Unit {0}))
case_form = word · number 64 · nothing

-- OFF PRIM
abbrev pub tag_form : Form (ℕ × (Primitive × Unit {0}))
tag_form = number 32 · primitive · nothing

-- H T NAME, none T NAME
abbrev pub static_form : Form (Option ℕ × (TypeRef × Name))
static_form = address · reference · rest name

-- SIZE ALIGN NAME
abbrev pub sized_form : Form (ℕ × (ℕ × Name))
sized_form = number 32 · number 32 · rest name

-- COUNT T
abbrev pub array_form : Form (ℕ × (TypeRef × Unit {0}))
array_form = number 64 · reference · nothing

-- K T
abbrev pub thin_form : Form (PtrKind × (TypeRef × Unit {0}))
thin_form = pointer · reference · nothing

-- K T NAME
abbrev pub fat_form : Form (PtrKind × (TypeRef × Name))
fat_form = pointer · reference · rest name

-- K T T NAME
abbrev pub dyn_form : Form (PtrKind × (TypeRef × (TypeRef × Name)))
dyn_form = pointer · reference · reference · rest name

-- PRIM NAME
abbrev pub clike_form : Form (Primitive × Name)
clike_form = primitive · rest name

-- N
abbrev pub exact_form : Form (ℕ × Unit {0})
exact_form = number 128 · nothing

-- N N
abbrev pub span_form : Form (ℕ × (ℕ × Unit {0}))
span_form = number 128 · number 128 · nothing

-- REG NAME, none NAME
abbrev pub func_form : Form (Option Reg × Name)
func_form = frame · rest name

-- DEPTH H..H ..
abbrev pub scope_form : Form (ℕ × List Zone)
scope_form = number 32 · many zone

-- REG
abbrev pub reg_form : Form (Reg × Unit {0})
reg_form = register · nothing

-- REG N
abbrev pub mem_form : Form (Reg × (ℤ × Unit {0}))
mem_form = register · signed · nothing

-- H
abbrev pub fixed_form : Form (ℕ × Unit {0})
fixed_form = hex · nothing

-- HEX
abbrev pub value_form : Form (List ℕ × Unit {0})
value_form = digits · nothing

-- N
abbrev pub count_form : Form (ℕ × Unit {0})
count_form = number 32 · nothing

abbrev pub kind_of_type : TypeDef → TypeKind
kind_of_type (Struct name size align params fields) = kinds.Struct
kind_of_type (Array elem count) = kinds.Array
kind_of_type (Thin kind to) = kinds.Thin
kind_of_type (Slice name kind ptr) = kinds.Slice
kind_of_type (Str name kind ptr) = kinds.Str
kind_of_type (Dyn name kind ptr vtable) = kinds.Dyn
kind_of_type FnPtr = kinds.Function
kind_of_type (CLike name tag cases) = kinds.CLike
kind_of_type (Enum name size align params tag variants) = kinds.Enum
kind_of_type (Bytes name size align) = kinds.Bytes

-- a type's line behind the word of its kind
abbrev pub type_rest : TypeDef → Left
type_rest (Struct name size align params fields) = sized_form.text (size, (align, name))
type_rest (Array elem count) = array_form.text (count, (elem, tt))
type_rest (Thin kind to) = thin_form.text (kind, (to, tt))
type_rest (Slice name kind ptr) = fat_form.text (kind, (ptr, name))
type_rest (Str name kind ptr) = fat_form.text (kind, (ptr, name))
type_rest (Dyn name kind ptr vtable) = dyn_form.text (kind, (ptr, (vtable, name)))
type_rest FnPtr = None
type_rest (CLike name tag cases) = clike_form.text (tag, name)
type_rest (Enum name size align params tag variants) = sized_form.text (size, (align, name))
type_rest (Bytes name size align) = sized_form.text (size, (align, name))

abbrev pub kind_of_selector : Selector → SelectorKind
kind_of_selector (Exact n) = selectors.Exact
kind_of_selector (Span lo hi) = selectors.Span
kind_of_selector Only = selectors.Only

-- a variant's line behind the word of its kind
abbrev pub selector_rest : Selector → Left
selector_rest (Exact n) = exact_form.text (n, tt)
selector_rest (Span lo hi) = span_form.text (lo, (hi, tt))
selector_rest Only = None

abbrev pub kind_of_place : Place → PlaceKind
kind_of_place (place.Reg reg) = places.Reg
kind_of_place (place.Mem reg n) = places.Mem
kind_of_place (place.Fixed at) = places.Fixed
kind_of_place (place.Value text) = places.Value
kind_of_place (place.Expr ops) = places.Expr

-- a place behind the word of its kind
abbrev pub place_rest : Place → Left
place_rest (place.Reg reg) = reg_form.text (reg, tt)
place_rest (place.Mem reg n) = mem_form.text (reg, (n, tt))
place_rest (place.Fixed at) = fixed_form.text (at, tt)
place_rest (place.Value text) = value_form.text (text, tt)
place_rest (place.Expr ops) = operations.text ops

-- the word of the kind, and what follows
abbrev pub kind_text : PlaceKind → Left → List ℕ
kind_text kind left = place_word kind ++ behind left

abbrev pub place_text : Place → List ℕ
place_text p = kind_text (kind_of_place p) (place_rest p)

abbrev pub place_text_if : Option Place → List ℕ
place_text_if None = place_word places.Nowhere
place_text_if (Some p) = place_text p

-- an entry's line behind its first word: H H, and what it is
abbrev pub entry_rest : ℕ → ℕ → List ℕ → Left
entry_rest lo hi text = Some (hex.text lo ++ behind (Some (hex.text hi ++ behind (Some text))))

-- a line behind its first word; `next` is the number of the next type
abbrev pub line_rest : ℕ → Line → Left
line_rest next (lines.Type def) = Some (decimal next ++ behind (Some (type_kind_word (kind_of_type def) ++ behind (type_rest def))))
line_rest next (lines.Param p) = param_form.text (p.name, (p.ty, tt))
line_rest next (lines.Field f) = field_form.text (f.name, (f.off, (f.ty, tt)))
line_rest next (lines.Case c) = case_form.text (c.name, (c.number, tt))
line_rest next (lines.Tag t) = tag_form.text (t.off, (t.prim, tt))
line_rest next (lines.Variant w sel) = Some (w ++ behind (Some (selector_word (kind_of_selector sel) ++ behind (selector_rest sel))))
line_rest next (lines.Static s) = static_form.text (s.addr, (s.ty, s.name))
line_rest next (lines.Func f) = func_form.text (f.frame, f.name)
line_rest next (lines.Scope s) = scope_form.text (s.depth, s.zones)
line_rest next (lines.Var v) = param_form.text (v.name, (v.ty, tt))
line_rest next (lines.Whole lo hi p) = entry_rest lo hi (place_text p)
line_rest next (lines.Pieces lo hi count) = entry_rest lo hi (kind_text places.Pieces (count_form.text (count, tt)))
line_rest next (lines.Piece p) = Some (decimal p.size ++ behind (Some (place_text_if p.place)))

abbrev pub kind_of_line : Line → LineKind
kind_of_line (lines.Type def) = firsts.Type
kind_of_line (lines.Param p) = firsts.Param
kind_of_line (lines.Field f) = firsts.Field
kind_of_line (lines.Case c) = firsts.Case
kind_of_line (lines.Tag t) = firsts.Tag
kind_of_line (lines.Variant w sel) = firsts.Variant
kind_of_line (lines.Static s) = firsts.Static
kind_of_line (lines.Func f) = firsts.Func
kind_of_line (lines.Scope s) = firsts.Scope
kind_of_line (lines.Var v) = if v.param then firsts.Arg else firsts.Var
kind_of_line (lines.Whole lo hi p) = firsts.At
kind_of_line (lines.Pieces lo hi count) = firsts.At
kind_of_line (lines.Piece p) = firsts.Piece

-- a line without its end
abbrev pub line_text : ℕ → Line → List ℕ
line_text next l = line_kind_word (kind_of_line l) ++ behind (line_rest next l)

-- the numbers are within their types, the words are words, and the names are names
abbrev pub IsTypeLine : TypeDef → Type 0
IsTypeLine (Struct name size align params fields) = sized_form.Is (size, (align, name)) × ((params ≡ []) × (fields ≡ []))
IsTypeLine (Array elem count) = array_form.Is (count, (elem, tt))
IsTypeLine (Thin kind to) = thin_form.Is (kind, (to, tt))
IsTypeLine (Slice name kind ptr) = fat_form.Is (kind, (ptr, name))
IsTypeLine (Str name kind ptr) = fat_form.Is (kind, (ptr, name))
IsTypeLine (Dyn name kind ptr vtable) = dyn_form.Is (kind, (ptr, (vtable, name)))
IsTypeLine FnPtr = Unit {0}
IsTypeLine (CLike name tag cases) = clike_form.Is (tag, name) × (cases ≡ [])
IsTypeLine (Enum name size align params tag variants) = sized_form.Is (size, (align, name)) × ((params ≡ []) × ((tag ≡ None) × (variants ≡ [])))
IsTypeLine (Bytes name size align) = sized_form.Is (size, (align, name))

abbrev pub IsSelector : Selector → Type 0
IsSelector (Exact n) = exact_form.Is (n, tt)
IsSelector (Span lo hi) = span_form.Is (lo, (hi, tt))
IsSelector Only = Unit {0}

abbrev pub IsPlaceLine : Place → Type 0
IsPlaceLine (place.Reg reg) = reg_form.Is (reg, tt)
IsPlaceLine (place.Mem reg n) = mem_form.Is (reg, (n, tt))
IsPlaceLine (place.Fixed at) = fixed_form.Is (at, tt)
IsPlaceLine (place.Value text) = value_form.Is (text, tt)
IsPlaceLine (place.Expr ops) = operations.Is ops

abbrev pub IsLine : Line → Type 0
IsLine (lines.Type def) = IsTypeLine def
IsLine (lines.Param p) = param_form.Is (p.name, (p.ty, tt))
IsLine (lines.Field f) = field_form.Is (f.name, (f.off, (f.ty, tt)))
IsLine (lines.Case c) = case_form.Is (c.name, (c.number, tt))
IsLine (lines.Tag t) = tag_form.Is (t.off, (t.prim, tt))
IsLine (lines.Variant w sel) = IsWord w × IsSelector sel
IsLine (lines.Static s) = static_form.Is (s.addr, (s.ty, s.name))
IsLine (lines.Func f) = func_form.Is (f.frame, f.name) × (f.scopes ≡ [])
IsLine (lines.Scope s) = scope_form.Is (s.depth, s.zones) × (s.vars ≡ [])
IsLine (lines.Var v) = param_form.Is (v.name, (v.ty, tt)) × (v.entries ≡ [])
IsLine (lines.Whole lo hi p) = (hex.Is lo × hex.Is hi) × IsPlaceLine p
IsLine (lines.Pieces lo hi count) = (hex.Is lo × hex.Is hi) × count_form.Is (count, tt)
IsLine (lines.Piece p) = (p.size < 2 ^ 32) × IfSome p.place IsPlaceLine
