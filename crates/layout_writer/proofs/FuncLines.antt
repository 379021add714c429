-- The lines of functions and of what is in them are lines, where their words are words and they are not too large.
use Rattle.std.proofs.Common.{◌≡◌, sym, subst, refl, ℕ, ◌+◌, ◌<◌, ◌≤◌, ◌^◌, List, [], ◌∷◌, length, map, arith}
use Rattle.std.specs.List.{All, flat_map, sum_by}
use Rattle.std.proofs.lemmas.List.Elements.{All-cons}
use Rattle.std.proofs.lemmas.List.Sums.{sum_by-cons, get_or-le-sum_by}
use Rattle.layout_set.specs.Counts.{piece_parts, loc_parts, entry_parts, var_parts, scope_parts, func_parts}
use Rattle.layout_set.specs.IsSet.{IsNamed}
use Rattle.layout_set.specs.declared.func.Entry.{Entry}
use Rattle.layout_set.specs.declared.func.Func.{Func}
use Rattle.layout_set.specs.declared.func.Loc.TheVariants.{Pieces}
use Rattle.layout_set.specs.declared.func.Piece.{Piece}
use Rattle.layout_set.specs.declared.func.Scope.{Scope}
use Rattle.layout_set.specs.declared.func.Var.{Var}
use Rattle.layout_lines.specs.declared.line.Line.{Line}
use Rattle.layout_lines.specs.declared.line.Line.TheVariants as lines
use Rattle.layout_lines.specs.Lines.{IsLine, param_form, scope_form, func_form}
use Rattle.layout_lines.specs.Sets.{loc_lines, entry_lines, var_lines, scope_lines, func_lines}
use Rattle.layout_writer.proofs.EachLine.{each_joined}

-- an item has lines that are lines, if it is not too large
abbrev pub HasLines : {A : Type 0} → (A → ℕ) → (A → List Line) → A → Type 0
HasLines parts lines_of x = parts x ≤ 40000 → All IsLine (lines_of x)

-- a list of such items that is not too large has lines that are lines
pub all_lines : {A : Type 0} (parts : A → ℕ) (lines_of : A → List Line) (xs : List A) → All (HasLines parts lines_of) xs → sum_by parts xs ≤ 40000 → All IsLine (flat_map lines_of xs)
all_lines parts lines_of xs h bounded = each_joined IsLine lines_of xs (λ k d within. h k d within (omega (arith, get_or-le-sum_by parts xs k d within)))

-- there are no more pieces than parts
pub piece_count : (pieces : List Piece) → length pieces ≤ sum_by piece_parts pieces
piece_count [] = omega arith
piece_count (p ∷ pieces) =
    let both : sum_by piece_parts (p ∷ pieces) ≡ piece_parts p + sum_by piece_parts pieces = sum_by-cons piece_parts p pieces in
    let more : length pieces ≤ sum_by piece_parts pieces = piece_count pieces in
    omega arith

-- the line of an entry in pieces, and their lines
pub pieces_have_lines : (e : Entry) (pieces : List Piece) → e.loc ≡ Pieces pieces → (length pieces < 2 ^ 32 → IsLine (lines.Pieces e.lo e.hi (length pieces)))
    → All IsLine (map (λ p. lines.Piece p) pieces) → HasLines entry_parts entry_lines e
pieces_have_lines e pieces is own each =
    let fewer : length pieces ≤ sum_by piece_parts pieces = piece_count pieces in
    let all : 1 + sum_by piece_parts pieces ≤ 40000 → All IsLine (lines.Pieces e.lo e.hi (length pieces) ∷ map (λ p. lines.Piece p) pieces) =
    λ bounded. All-cons IsLine (lines.Pieces e.lo e.hi (length pieces)) (map (λ p. lines.Piece p) pieces) (own (omega arith)) each in
    subst (λ loc. 1 + loc_parts loc ≤ 40000 → All IsLine (loc_lines e.lo e.hi loc)) (sym is) all

-- a line, and the lines of what is in it
own_and_others : {A : Type 0} (parts : A → ℕ) (lines_of : A → List Line) (own : Line) (xs ys : List A) → xs ≡ ys → IsLine own
    → (sum_by parts xs ≤ 40000 → All IsLine (flat_map lines_of xs)) → sum_by parts ys ≤ 40000 → All IsLine (own ∷ flat_map lines_of ys)
own_and_others parts lines_of own xs ys is line others bounded =
    All-cons IsLine own (flat_map lines_of ys) line (subst (λ zs. sum_by parts zs ≤ 40000 → All IsLine (flat_map lines_of zs)) is others bounded)

-- the line of a variable, and those of its entries
pub var_has_lines : (v : Var) (entries : List Entry) → entries ≡ v.entries → param_form.Is (v.name, (v.ty, tt))
    → (sum_by entry_parts entries ≤ 40000 → All IsLine (flat_map entry_lines entries)) → HasLines var_parts var_lines v
var_has_lines v entries is own others bounded =
    own_and_others entry_parts entry_lines (lines.Var (record v { entries = [] })) entries v.entries is (own, refl) others bounded

-- the line of a scope, and those of its variables
pub scope_has_lines : (s : Scope) (vars : List Var) → vars ≡ s.vars → scope_form.Is (s.depth, s.zones)
    → (sum_by var_parts vars ≤ 40000 → All IsLine (flat_map var_lines vars)) → HasLines scope_parts scope_lines s
scope_has_lines s vars is own others bounded =
    own_and_others var_parts var_lines (lines.Scope (record s { vars = [] })) vars s.vars is (own, refl) others (omega arith)

-- a function has lines that are lines, if its name is a name and it is not too large
abbrev pub FuncHasLines : Func → Type 0
FuncHasLines f = IsNamed f.name → HasLines func_parts func_lines f

-- the line of a function, and those of its scopes
pub func_has_lines : (f : Func) (scopes : List Scope) → scopes ≡ f.scopes → (IsNamed f.name → func_form.Is (f.frame, f.name))
    → (sum_by scope_parts scopes ≤ 40000 → All IsLine (flat_map scope_lines scopes)) → FuncHasLines f
func_has_lines f scopes is own others named bounded =
    own_and_others scope_parts scope_lines (lines.Func (record f { scopes = [] })) scopes f.scopes is (own named, refl) others bounded

-- functions that are named and not too large have lines that are lines
pub funcs_lines : (fs : List Func) → All FuncHasLines fs → All (λ f. IsNamed f.name) fs → sum_by func_parts fs ≤ 40000 → All IsLine (flat_map func_lines fs)
funcs_lines fs h named bounded = all_lines func_parts func_lines fs (λ k d i. h k d i (named k d i)) bounded
