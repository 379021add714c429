-- The line with a text. Private: that it is the line that has the text is proved in `proofs/LineLaws.antt`.
use Rattle.std.specs.Prelude.{ℕ, Bool, true, false, List, [], Option, Some, None}
use Rattle.std.specs.Option.{option_map}
use Rattle.layout_set.specs.declared.set.TypeDef.{TypeDef}
use Rattle.layout_set.specs.declared.set.TypeDef.TheVariants.{Struct, Array, Thin, Slice, Str, Dyn, FnPtr, CLike, Enum, Bytes}
use Rattle.layout_set.specs.declared.set.Selector.{Selector}
use Rattle.layout_set.specs.declared.set.Selector.TheVariants.{Exact, Span, Only}
use Rattle.layout_set.specs.declared.func.Place.{Place}
use Rattle.layout_set.specs.declared.func.Place.TheVariants as place
use Rattle.layout_words.specs.declared.kinds.PlaceKind.{PlaceKind}
use Rattle.layout_words.specs.declared.kinds.PlaceKind.TheVariants as places
use Rattle.layout_words.specs.declared.kinds.TypeKind.{TypeKind}
use Rattle.layout_words.specs.declared.kinds.TypeKind.TheVariants as kinds
use Rattle.layout_words.specs.declared.kinds.SelectorKind.{SelectorKind}
use Rattle.layout_words.specs.declared.kinds.SelectorKind.TheVariants as selectors
use Rattle.layout_words.specs.declared.kinds.LineKind.{LineKind}
use Rattle.layout_words.specs.declared.kinds.LineKind.TheVariants as firsts
use Rattle.layout_lines.specs.declared.line.Line.{Line}
use Rattle.layout_lines.specs.declared.line.Line.TheVariants as lines
use Rattle.layout_words.specs.Kinds.{line_kind_of}
use Rattle.layout_words.specs.Spellings.{◌>>=◌, number, the_next, type_kind, selector_kind, word}
use Rattle.layout_words.specs.PlaceSpellings.{hex, entry_kind, piece_kind}
use Rattle.layout_words.specs.Forms.{Left, cut, take_word, nothing, operations}
use Rattle.layout_lines.specs.Lines.{func_form, scope_form, reg_form, mem_form, fixed_form, value_form, count_form, param_form, field_form, case_form, tag_form, static_form, sized_form, array_form, thin_form, fat_form, dyn_form, clike_form, exact_form, span_form}

-- the type of such a kind, behind the word of the kind
abbrev pub type_of : TypeKind → Left → Option TypeDef
type_of kinds.Struct left = option_map (λ p. Struct p.1.1 p.0 p.1.0 [] []) (sized_form.of left)
type_of kinds.Array left = option_map (λ p. Array p.1.0 p.0) (array_form.of left)
type_of kinds.Thin left = option_map (λ p. Thin p.0 p.1.0) (thin_form.of left)
type_of kinds.Slice left = option_map (λ p. Slice p.1.1 p.0 p.1.0) (fat_form.of left)
type_of kinds.Str left = option_map (λ p. Str p.1.1 p.0 p.1.0) (fat_form.of left)
type_of kinds.Dyn left = option_map (λ p. Dyn p.1.1.1 p.0 p.1.0 p.1.1.0) (dyn_form.of left)
type_of kinds.Function left = option_map (λ _. FnPtr) (nothing.of left)
type_of kinds.CLike left = option_map (λ p. CLike p.1 p.0 []) (clike_form.of left)
type_of kinds.Enum left = option_map (λ p. Enum p.1.1 p.0 p.1.0 [] None []) (sized_form.of left)
type_of kinds.Bytes left = option_map (λ p. Bytes p.1.1 p.0 p.1.0) (sized_form.of left)

abbrev pub selector_of : SelectorKind → Left → Option Selector
selector_of selectors.Exact left = option_map (λ p. Exact p.0) (exact_form.of left)
selector_of selectors.Span left = option_map (λ p. Span p.0 p.1.0) (span_form.of left)
selector_of selectors.Only left = option_map (λ _. Only) (nothing.of left)

-- N KIND, and what follows
abbrev pub type_line_of : ℕ → Left → Option TypeDef
type_line_of next left = take_word (the_next next) left >>= λ p. take_word type_kind p.1 >>= λ q. type_of q.0 q.1

-- WORD KIND, and what follows
abbrev pub variant_of : Left → Option Line
variant_of left = take_word word left >>= λ p. take_word selector_kind p.1 >>= λ q. option_map (λ sel. lines.Variant p.0 sel) (selector_of q.0 q.1)

-- the place of such a kind, behind the word of the kind
abbrev pub place_of : PlaceKind → Left → Option Place
place_of places.Reg left = option_map (λ p. place.Reg p.0) (reg_form.of left)
place_of places.Mem left = option_map (λ p. place.Mem p.0 p.1.0) (mem_form.of left)
place_of places.Fixed left = option_map (λ p. place.Fixed p.0) (fixed_form.of left)
place_of places.Value left = option_map (λ p. place.Value p.0) (value_form.of left)
place_of places.Expr left = option_map (λ ops. place.Expr ops) (operations.of left)
place_of places.Pieces left = None
place_of places.Nowhere left = None

-- the entry of such a kind
abbrev pub entry_of : ℕ → ℕ → PlaceKind → Left → Option Line
entry_of lo hi places.Pieces left = option_map (λ p. lines.Pieces lo hi p.0) (count_form.of left)
entry_of lo hi kind left = option_map (λ p. lines.Whole lo hi p) (place_of kind left)

-- H H KIND, and what follows
abbrev pub at_of : Left → Option Line
at_of left = take_word hex left >>= λ p. take_word hex p.1 >>= λ q. take_word entry_kind q.1 >>= λ r. entry_of p.0 q.0 r.0 r.1

-- the place of a piece, or none
abbrev pub piece_place_of : PlaceKind → Left → Option (Option Place)
piece_place_of places.Nowhere left = option_map (λ _. None) (nothing.of left)
piece_place_of kind left = option_map (λ p. Some p) (place_of kind left)

-- SIZE KIND, and what follows
abbrev pub piece_of : Left → Option Line
piece_of left = take_word (number 32) left >>= λ p. take_word piece_kind p.1 >>= λ q. option_map (λ found. lines.Piece (record { size = p.0; place = found })) (piece_place_of q.0 q.1)

-- a variable, or a parameter
abbrev pub var_of : Bool → Left → Option Line
var_of param left = option_map (λ p. lines.Var (record { name = p.0; ty = p.1.0; param = param; entries = [] })) (param_form.of left)

-- the line of such a kind, behind its first word
abbrev pub rest_of : ℕ → LineKind → Left → Option Line
rest_of next firsts.Version left = None
rest_of next firsts.Target left = None
rest_of next firsts.Type left = option_map (λ def. lines.Type def) (type_line_of next left)
rest_of next firsts.Param left = option_map (λ p. lines.Param (record { name = p.0; ty = p.1.0 })) (param_form.of left)
rest_of next firsts.Field left = option_map (λ p. lines.Field (record { name = p.0; off = p.1.0; ty = p.1.1.0 })) (field_form.of left)
rest_of next firsts.Case left = option_map (λ p. lines.Case (record { name = p.0; number = p.1.0 })) (case_form.of left)
rest_of next firsts.Tag left = option_map (λ p. lines.Tag (record { off = p.0; prim = p.1.0 })) (tag_form.of left)
rest_of next firsts.Variant left = variant_of left
rest_of next firsts.Static left = option_map (λ p. lines.Static (record { name = p.1.1; ty = p.1.0; addr = p.0 })) (static_form.of left)
rest_of next firsts.Func left = option_map (λ p. lines.Func (record { name = p.1; frame = p.0; scopes = [] })) (func_form.of left)
rest_of next firsts.Scope left = option_map (λ p. lines.Scope (record { depth = p.0; zones = p.1; vars = [] })) (scope_form.of left)
rest_of next firsts.Var left = var_of false left
rest_of next firsts.Arg left = var_of true left
rest_of next firsts.At left = at_of left
rest_of next firsts.Piece left = piece_of left

-- the line with this text, where `next` is the number of the next type
unfoldable pub line_of : ℕ → List ℕ → Option Line
line_of next text = line_kind_of (cut text).0 >>= λ kind. rest_of next kind (cut text).1
