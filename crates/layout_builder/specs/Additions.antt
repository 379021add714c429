-- A set with one line more.
use Rattle.std.specs.Prelude.{ℕ, ◌==◌, if◌then◌else◌, List, [], ◌∷◌, ◌++◌, length, Option, Some, None}
use Rattle.layout_set.specs.declared.func.Entry.{Entry}
use Rattle.layout_set.specs.declared.func.Func.{Func}
use Rattle.layout_set.specs.declared.func.Loc.TheVariants.{Whole, Pieces}
use Rattle.layout_set.specs.declared.func.Piece.{Piece}
use Rattle.layout_set.specs.declared.func.Scope.{Scope}
use Rattle.layout_set.specs.declared.func.Var.{Var}
use Rattle.layout_set.specs.declared.set.Set.{Set}
use Rattle.layout_set.specs.declared.set.Field.{Field}
use Rattle.layout_set.specs.declared.set.Selector.{Selector}
use Rattle.layout_set.specs.declared.set.TypeDef.{TypeDef}
use Rattle.layout_set.specs.declared.set.TypeDef.TheVariants.{Struct, CLike, Enum}
use Rattle.layout_set.specs.declared.set.Variant.{Variant}
use Rattle.layout_lines.specs.declared.open_entry.OpenEntry.{OpenEntry}
use Rattle.layout_lines.specs.declared.line.Line.{Line}
use Rattle.layout_lines.specs.declared.line.Line.TheVariants as lines

-- a list whose last item is changed
abbrev pub with_last : {A : Type 0} → (A → A) → List A → List A
with_last f [] = []
with_last f (x ∷ []) = f x ∷ []
with_last f (x ∷ y ∷ xs) = x ∷ with_last f (y ∷ xs)

abbrev pub with_field : Field → Variant → Variant
with_field f v = record v { fields = v.fields ++ f ∷ [] }

-- one more variant, without fields
abbrev pub with_variant : List ℕ → Selector → List Variant → List Variant
with_variant name sel variants = variants ++ record { name = name; sel = sel; fields = [] } ∷ []

-- the type with the part, where it may be the next one
abbrev pub with_part : Line → TypeDef → TypeDef
with_part (lines.Param p) (Struct name size align params fields) = Struct name size align (params ++ p ∷ []) fields
with_part (lines.Field f) (Struct name size align params fields) = Struct name size align params (fields ++ f ∷ [])
with_part (lines.Case c) (CLike name tag cases) = CLike name tag (cases ++ c ∷ [])
with_part (lines.Param p) (Enum name size align params tag variants) = Enum name size align (params ++ p ∷ []) tag variants
with_part (lines.Tag t) (Enum name size align params tag variants) = Enum name size align params (Some t) variants
with_part (lines.Variant w sel) (Enum name size align params tag variants) = Enum name size align params tag (with_variant w sel variants)
with_part (lines.Field f) (Enum name size align params tag variants) = Enum name size align params tag (with_last (with_field f) variants)
with_part line def = def

-- the last variable of the last scope of the last function with one more entry
abbrev pub with_entry : Entry → Var → Var
with_entry e v = record v { entries = v.entries ++ e ∷ [] }

abbrev pub with_var : Var → Scope → Scope
with_var v s = record s { vars = s.vars ++ v ∷ [] }

abbrev pub with_scope : Scope → Func → Func
with_scope s f = record f { scopes = f.scopes ++ s ∷ [] }

abbrev pub with_entry_in_scope : Entry → Scope → Scope
with_entry_in_scope e s = record s { vars = with_last (with_entry e) s.vars }

abbrev pub with_entry_in_func : Entry → Func → Func
with_entry_in_func e f = record f { scopes = with_last (with_entry_in_scope e) f.scopes }

abbrev pub with_var_in_func : Var → Func → Func
with_var_in_func v f = record f { scopes = with_last (with_var v) f.scopes }

-- the set with one more entry of its last variable
abbrev pub entry_added : Set → Entry → Set
entry_added set e = record set { funcs = with_last (with_entry_in_func e) set.funcs }

-- the entry with all its pieces
abbrev pub closed : OpenEntry → Entry
closed o = record { lo = o.lo; hi = o.hi; loc = Pieces o.pieces }

-- a set, and the entry that stands open behind it
abbrev pub Draft : Type 0
Draft = Set × Option OpenEntry

-- the entry joins the set once it has all its pieces
abbrev pub settled : Set → OpenEntry → Draft
settled set o = if length o.pieces == o.count then (entry_added set (closed o), None) else (set, Some o)

-- the open entry with one more piece
abbrev pub piece_added : Set → Option OpenEntry → Piece → Draft
piece_added set None p = (set, None)
piece_added set (Some o) p = settled set (record o { pieces = o.pieces ++ p ∷ [] })

-- what the line makes of the set and the entry that stands open, where it may follow
abbrev pub added : Set → Option OpenEntry → Line → Draft
added set open_entry (lines.Type def) = (record set { types = set.types ++ def ∷ [] }, open_entry)
added set open_entry (lines.Static s) = (record set { statics = set.statics ++ s ∷ [] }, open_entry)
added set open_entry (lines.Func f) = (record set { funcs = set.funcs ++ f ∷ [] }, open_entry)
added set open_entry (lines.Scope s) = (record set { funcs = with_last (with_scope s) set.funcs }, open_entry)
added set open_entry (lines.Var v) = (record set { funcs = with_last (with_var_in_func v) set.funcs }, open_entry)
added set open_entry (lines.Whole lo hi place) = (entry_added set (record { lo = lo; hi = hi; loc = Whole place }), open_entry)
added set open_entry (lines.Pieces lo hi count) = settled set (record { lo = lo; hi = hi; count = count; pieces = [] })
added set open_entry (lines.Piece p) = piece_added set open_entry p
added set open_entry line = (record set { types = with_last (with_part line) set.types }, open_entry)
