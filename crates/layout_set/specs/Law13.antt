-- Law 13: where a variable is, is told in order and without overlap, inside its scope, and by places that can hold it.
use Rattle.std.specs.Prelude.{◌≡◌, ◌≢◌, ℕ, ◌<◌, ◌≤◌, FitsSigned, List, [], ◌∷◌, length, IfSome}
use Rattle.std.specs.Int.{w32}
use Rattle.std.specs.List.{All, HoldsAt, sum_by}
use Rattle.snapshot_file.specs.Registers.{width_of}
use Rattle.expr_eval.specs.declared.operation.Op.{Op}
use Rattle.expr_eval.specs.declared.operation.Op.TheVariants.{RegPlus}
use Rattle.layout_set.specs.declared.breach.Item.TheVariants.{Func as OfFunc}
use Rattle.layout_set.specs.declared.func.Entry.{Entry}
use Rattle.layout_set.specs.declared.func.Func.{Func}
use Rattle.layout_set.specs.declared.func.Loc.{Loc}
use Rattle.layout_set.specs.declared.func.Loc.TheVariants.{Whole, Pieces}
use Rattle.layout_set.specs.declared.func.Piece.{Piece}
use Rattle.layout_set.specs.declared.func.Place.{Place}
use Rattle.layout_set.specs.declared.func.Place.TheVariants.{Reg, Mem, Fixed, Value, Expr}
use Rattle.layout_set.specs.declared.func.Scope.{Scope}
use Rattle.layout_set.specs.declared.func.Var.{Var}
use Rattle.layout_set.specs.declared.func.Zone.{Zone}
use Rattle.layout_set.specs.declared.set.Set.{Set}
use Rattle.layout_set.specs.declared.set.TypeDef.{TypeDef}
use Rattle.layout_set.specs.FirstBreach.{Law}
use Rattle.layout_set.specs.Sizes.{size}

-- the operations are one sum of a register and a number, which a place in memory could say
abbrev pub IsPlainSum : List Op → Type 0
IsPlainSum (RegPlus reg n ∷ []) = FitsSigned w32 n
IsPlainSum _ = ⊥

-- the place may be told of a value, or of a piece, of so many bytes
abbrev pub MayHold : ℕ → Place → Type 0
MayHold bytes (Reg reg) = Unit {0}
MayHold bytes (Mem reg n) = width_of reg ≡ 8
MayHold bytes (Fixed at) = Unit {0}
MayHold bytes (Value text) = (length text ≡ bytes) × (bytes ≤ 64)
MayHold bytes (Expr ops) = IsPlainSum ops → ⊥

-- a register has room for the whole piece
abbrev pub HasRoom : ℕ → Place → Type 0
HasRoom bytes (Reg reg) = bytes ≤ width_of reg
HasRoom bytes _ = Unit {0}

abbrev pub IsPiece : Piece → Type 0
IsPiece p = (1 ≤ p.size) × IfSome p.place (λ place. MayHold p.size place × HasRoom p.size place)

-- the location of a value of so many bytes
abbrev pub IsLocation : ℕ → Loc → Type 0
IsLocation bytes (Whole place) = MayHold bytes place
IsLocation bytes (Pieces pieces) = (pieces ≢ []) × (All IsPiece pieces × (sum_by (λ p. p.size) pieces ≡ bytes))

-- the entry lies inside a zone
abbrev pub LiesIn : Entry → Zone → Type 0
LiesIn entry zone = (zone.lo ≤ entry.lo) × (entry.hi ≤ zone.hi)

pub record IsEntry (bytes : ℕ) (zones : List Zone) (entry : Entry) : Type 0 where
  pub some : entry.lo < entry.hi
  pub inside : All (LiesIn entry) zones
  pub location : IsLocation bytes entry.loc

-- the second begins at or past the end of the first, and where they abut they differ
abbrev pub MayFollow : Entry → Entry → Type 0
MayFollow a b = (a.hi ≤ b.lo) × (a.hi ≡ b.lo → a.loc ≢ b.loc)

-- each follows the one before it
abbrev pub Rise : List Entry → Type 0
Rise [] = Unit {0}
Rise (a ∷ []) = Unit {0}
Rise (a ∷ b ∷ entries) = MayFollow a b × Rise (b ∷ entries)

abbrev pub IsPlaced : ℕ → List TypeDef → List Zone → Var → Type 0
IsPlaced ptr types zones v = All (IsEntry (size ptr types v.ty) zones) v.entries × Rise v.entries

abbrev pub HasPlacedVars : ℕ → List TypeDef → Scope → Type 0
HasPlacedVars ptr types s = All (IsPlaced ptr types s.zones) s.vars

abbrev pub HasPlacedScopes : ℕ → List TypeDef → Func → Type 0
HasPlacedScopes ptr types f = All (HasPlacedVars ptr types) f.scopes

abbrev pub Law13 : Set → Law
Law13 set (OfFunc i) = HoldsAt (HasPlacedScopes set.target.ptr set.types) set.funcs i
Law13 set _ = Unit {0}
