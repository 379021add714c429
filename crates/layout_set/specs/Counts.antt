-- How many parts and variables a set has.
use Rattle.std.specs.Prelude.{ℕ, ◌+◌, ◌-◌, ◌*◌, ◌/◌, List, length, Option, Some, None}
use Rattle.std.specs.List.{sum_by}
use Rattle.layout_set.specs.declared.func.Entry.{Entry}
use Rattle.layout_set.specs.declared.func.Func.{Func}
use Rattle.layout_set.specs.declared.func.Loc.{Loc}
use Rattle.layout_set.specs.declared.func.Loc.TheVariants.{Whole, Pieces}
use Rattle.layout_set.specs.declared.func.Piece.{Piece}
use Rattle.layout_set.specs.declared.func.Place.{Place}
use Rattle.layout_set.specs.declared.func.Place.TheVariants.{Reg, Mem, Fixed, Value, Expr}
use Rattle.layout_set.specs.declared.func.Scope.{Scope}
use Rattle.layout_set.specs.declared.func.Var.{Var}
use Rattle.layout_set.specs.declared.set.Set.{Set}
use Rattle.layout_set.specs.declared.set.TypeDef.{TypeDef}
use Rattle.layout_set.specs.declared.set.TypeDef.TheVariants.{Struct, CLike, Enum}
use Rattle.layout_set.specs.declared.set.Variant.{Variant}

-- a variant with its fields
abbrev pub variant_parts : Variant → ℕ
variant_parts v = 1 + length v.fields

-- how many params, fields, cases and variants a type has
abbrev pub parts_of : TypeDef → ℕ
parts_of (Struct name size align params fields) = length params + length fields
parts_of (CLike name tag cases) = length cases
parts_of (Enum name size align params tag variants) = length params + sum_by variant_parts variants
parts_of _ = 0

-- how many operations a place is told by
abbrev pub place_parts : Place → ℕ
place_parts (Expr ops) = length ops
place_parts _ = 0

abbrev pub place_parts_if : Option Place → ℕ
place_parts_if None = 0
place_parts_if (Some place) = place_parts place

-- a piece with its operations
abbrev pub piece_parts : Piece → ℕ
piece_parts p = 1 + place_parts_if p.place

abbrev pub loc_parts : Loc → ℕ
loc_parts (Whole place) = place_parts place
loc_parts (Pieces pieces) = sum_by piece_parts pieces

-- an entry with its pieces and operations
abbrev pub entry_parts : Entry → ℕ
entry_parts e = 1 + loc_parts e.loc

abbrev pub var_parts : Var → ℕ
var_parts v = sum_by entry_parts v.entries

-- a scope with its zones and the entries of its variables
abbrev pub scope_parts : Scope → ℕ
scope_parts s = 1 + (length s.zones + sum_by var_parts s.vars)

-- how many scopes, zones, entries, pieces and operations a function has
abbrev pub func_parts : Func → ℕ
func_parts f = sum_by scope_parts f.scopes

-- the parts of a set
abbrev pub part_count : Set → ℕ
part_count set = sum_by parts_of set.types + sum_by func_parts set.funcs

abbrev pub scope_vars : Scope → ℕ
scope_vars s = length s.vars

abbrev pub func_vars : Func → ℕ
func_vars f = sum_by scope_vars f.scopes

-- the variables of a set, statics among them
abbrev pub variable_count : Set → ℕ
variable_count set = length set.statics + sum_by func_vars set.funcs

-- how many pieces a location has; a whole counts as one
abbrev pub pieces_of : Loc → ℕ
pieces_of (Whole place) = 1
pieces_of (Pieces pieces) = length pieces

-- how many ranges of at most 0xf000 bytes an entry takes, for each of its pieces
abbrev pub entry_ranges : Entry → ℕ
entry_ranges e = (e.hi - e.lo + 61439) / 61440 * pieces_of e.loc

abbrev pub var_ranges : Var → ℕ
var_ranges v = sum_by entry_ranges v.entries

abbrev pub scope_ranges : Scope → ℕ
scope_ranges s = sum_by var_ranges s.vars

abbrev pub func_ranges : Func → ℕ
func_ranges f = sum_by scope_ranges f.scopes

-- the ranges of a set
abbrev pub range_count : Set → ℕ
range_count set = sum_by func_ranges set.funcs
