-- The text of a set, and of an entry that stands open behind it, and which line may follow.
use Rattle.std.specs.Prelude.{◌≡◌, ℕ, ◌+◌, ◌<◌, ◌≤◌, length, IfSome, ◌&&◌, not, Bool, true, false, is_none, List, [], ◌∷◌, ◌++◌, map, Option, Some, None, codes}
use Rattle.std.specs.Fmt.{decimal}
use Rattle.std.specs.List.{flat_map, All, sum_by}
use Rattle.readers.specs.Lines.{with_end}
use Rattle.layout_set.specs.Counts.{piece_parts, part_count, variable_count}
use Rattle.layout_set.specs.Law14.{IsBounded}
use Rattle.layout_set.specs.declared.func.Entry.{Entry}
use Rattle.layout_set.specs.declared.func.Func.{Func}
use Rattle.layout_set.specs.declared.func.Loc.{Loc}
use Rattle.layout_set.specs.declared.func.Loc.TheVariants.{Whole, Pieces}
use Rattle.layout_set.specs.declared.func.Scope.{Scope}
use Rattle.layout_set.specs.declared.func.Var.{Var}
use Rattle.layout_set.specs.declared.set.Set.{Set}
use Rattle.layout_set.specs.declared.set.TypeDef.{TypeDef}
use Rattle.layout_set.specs.declared.set.TypeDef.TheVariants.{Struct, CLike, Enum}
use Rattle.layout_set.specs.declared.set.Variant.{Variant}
use Rattle.layout_set.specs.declared.set.Tag.{Tag}
use Rattle.layout_words.specs.declared.kinds.LineKind.{LineKind}
use Rattle.layout_words.specs.declared.kinds.LineKind.TheVariants as firsts
use Rattle.layout_lines.specs.declared.open_entry.OpenEntry.{OpenEntry}
use Rattle.layout_lines.specs.declared.line.Line.{Line}
use Rattle.layout_lines.specs.declared.line.Line.TheVariants as lines
use Rattle.layout_lines.specs.Lines.{line_text, IsLine}

-- a type without the parts that have lines of their own
abbrev pub bare : TypeDef → TypeDef
bare (Struct name size align params fields) = Struct name size align [] []
bare (CLike name tag cases) = CLike name tag []
bare (Enum name size align params tag variants) = Enum name size align [] None []
bare def = def

abbrev pub variant_lines : Variant → List Line
variant_lines v = lines.Variant v.name v.sel ∷ map (λ f. lines.Field f) v.fields

abbrev pub tag_lines : Option Tag → List Line
tag_lines None = []
tag_lines (Some t) = lines.Tag t ∷ []

-- the lines of a type's parts
abbrev pub part_lines : TypeDef → List Line
part_lines (Struct name size align params fields) = map (λ p. lines.Param p) params ++ map (λ f. lines.Field f) fields
part_lines (CLike name tag cases) = map (λ c. lines.Case c) cases
part_lines (Enum name size align params tag variants) = map (λ p. lines.Param p) params ++ (tag_lines tag ++ flat_map variant_lines variants)
part_lines def = []

abbrev pub type_lines : TypeDef → List Line
type_lines def = lines.Type (bare def) ∷ part_lines def

-- the lines of an entry's location
abbrev pub loc_lines : ℕ → ℕ → Loc → List Line
loc_lines lo hi (Whole place) = lines.Whole lo hi place ∷ []
loc_lines lo hi (Pieces pieces) = lines.Pieces lo hi (length pieces) ∷ map (λ p. lines.Piece p) pieces

abbrev pub entry_lines : Entry → List Line
entry_lines e = loc_lines e.lo e.hi e.loc

abbrev pub var_lines : Var → List Line
var_lines v = lines.Var (record v { entries = [] }) ∷ flat_map entry_lines v.entries

abbrev pub scope_lines : Scope → List Line
scope_lines s = lines.Scope (record s { vars = [] }) ∷ flat_map var_lines s.vars

abbrev pub func_lines : Func → List Line
func_lines f = lines.Func (record f { scopes = [] }) ∷ flat_map scope_lines f.scopes

-- the lines of a set behind the first two
abbrev pub lines_of : Set → List Line
lines_of set = flat_map type_lines set.types ++ (map (λ s. lines.Static s) set.statics ++ flat_map func_lines set.funcs)

-- the lines so far of an entry of which pieces are still to come
abbrev pub open_lines : Option OpenEntry → List Line
open_lines None = []
open_lines (Some o) = lines.Pieces o.lo o.hi o.count ∷ map (λ p. lines.Piece p) o.pieces

-- the lines of a set, and of an entry that stands open behind it
abbrev pub lines_before : Set → Option OpenEntry → List Line
lines_before set begun = lines_of set ++ open_lines begun

abbrev pub number_after : ℕ → Line → ℕ
number_after next (lines.Type def) = next + 1
number_after next _ = next

-- lines with their ends, where `next` is the number of the first type
abbrev pub texts : ℕ → List Line → List ℕ
texts next [] = []
texts next (l ∷ ls) = with_end (line_text next l) ++ texts (number_after next l) ls

-- a line that is no type's with its end; the number of the next type doesn't stand in it
abbrev pub part_text : Line → List ℕ
part_text l = with_end (line_text 0 l)

abbrev pub version_text : List ℕ
version_text = codes "rdbg-layout 1"

abbrev pub target_text : ℕ → List ℕ
target_text ptr = codes "target " ++ decimal ptr

abbrev pub head_text : ℕ → List ℕ
head_text ptr = with_end version_text ++ with_end (target_text ptr)

abbrev pub layout_text : Set → List ℕ
layout_text set = head_text set.target.ptr ++ texts 0 (lines_of set)

abbrev pub text_before : Set → Option OpenEntry → List ℕ
text_before set begun = layout_text set ++ flat_map part_text (open_lines begun)

-- the numbers are within their types, the words are words, and the names are proper or raw
pub record IsSpellable (set : Set) : Type 0 where
  pub target : set.target.ptr < 256
  pub lines : All IsLine (lines_of set)

-- the file has the text of the set, which is not too large
pub record Spells (set : Set) (bytes : List ℕ) : Type 0 where
  pub text : bytes ≡ layout_text set
  pub items : IsSpellable set
  pub bounded : IsBounded set

abbrev pub last_of : {A : Type 0} → List A → Option A
last_of [] = None
last_of (x ∷ []) = Some x
last_of (x ∷ y ∷ xs) = last_of (y ∷ xs)

abbrev pub is_empty : {A : Type 0} → List A → Bool
is_empty [] = true
is_empty (x ∷ xs) = false

abbrev pub has_scopes : Option Func → Bool
has_scopes None = false
has_scopes (Some f) = not (is_empty f.scopes)

abbrev pub last_scope : Option Func → Option Scope
last_scope None = None
last_scope (Some f) = last_of f.scopes

abbrev pub has_vars : Option Scope → Bool
has_vars None = false
has_vars (Some s) = not (is_empty s.vars)

-- the entry may stand behind the set, a piece of it is missing, and its lines are lines
pub record IsOpenEntry (set : Set) (o : OpenEntry) : Type 0 where
  pub stands : has_vars (last_scope (last_of set.funcs)) ≡ true
  pub missing : length o.pieces < o.count
  pub lines : All IsLine (open_lines (Some o))

abbrev pub open_parts : Option OpenEntry → ℕ
open_parts None = 0
open_parts (Some o) = 1 + sum_by piece_parts o.pieces

-- the set with the parts that stand open is not too large
pub record IsBoundedBefore (set : Set) (begun : Option OpenEntry) : Type 0 where
  pub types : length set.types ≤ 20000
  pub parts : part_count set + open_parts begun ≤ 40000
  pub variables : variable_count set ≤ 20000

-- the text is that of the set, with an entry that stands open behind it
pub record SpellsBefore (set : Set) (begun : Option OpenEntry) (text : List ℕ) : Type 0 where
  pub text_is : text ≡ text_before set begun
  pub items : IsSpellable set
  pub entry : IfSome begun (IsOpenEntry set)
  pub bounded : IsBoundedBefore set begun

-- whether a part of such a kind may be the next part of a type
abbrev pub may_go_on : TypeDef → LineKind → Bool
may_go_on (Struct name size align params fields) firsts.Param = is_empty fields
may_go_on (Struct name size align params fields) firsts.Field = true
may_go_on (CLike name tag cases) firsts.Case = true
may_go_on (Enum name size align params tag variants) firsts.Param = is_none tag && is_empty variants
may_go_on (Enum name size align params tag variants) firsts.Tag = is_none tag && is_empty variants
may_go_on (Enum name size align params tag variants) firsts.Variant = true
may_go_on (Enum name size align params tag variants) firsts.Field = not (is_empty variants)
may_go_on def kind = false

abbrev pub last_may_go_on : Option TypeDef → LineKind → Bool
last_may_go_on None kind = false
last_may_go_on (Some def) kind = may_go_on def kind

-- whether a line of such a kind may follow the text of the set, behind which no entry stands open
abbrev pub may_follow_set : Set → LineKind → Bool
may_follow_set set firsts.Version = false
may_follow_set set firsts.Target = false
may_follow_set set firsts.Piece = false
may_follow_set set firsts.Func = true
may_follow_set set firsts.Scope = not (is_empty set.funcs)
may_follow_set set firsts.Var = has_scopes (last_of set.funcs)
may_follow_set set firsts.Arg = has_scopes (last_of set.funcs)
may_follow_set set firsts.At = has_vars (last_scope (last_of set.funcs))
may_follow_set set firsts.Static = is_empty set.funcs
may_follow_set set firsts.Type = is_empty set.funcs && is_empty set.statics
may_follow_set set kind = is_empty set.funcs && (is_empty set.statics && last_may_go_on (last_of set.types) kind)

abbrev pub is_piece : LineKind → Bool
is_piece firsts.Piece = true
is_piece kind = false

-- whether a line of such a kind may stand behind the text of the set and the entry that stands open; pieces alone go on with an entry
abbrev pub may_follow : Set → Option OpenEntry → LineKind → Bool
may_follow set None kind = may_follow_set set kind
may_follow set (Some o) kind = is_piece kind
