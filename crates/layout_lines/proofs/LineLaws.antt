-- A text is read as the line that has it.
use Rattle.std.proofs.Common.{◌≡◌, ◌∙◌, sym, ap, subst, refl, ℕ, ◌<◌, ◌^◌, true, false, List, [], ◌++◌, Some, None, lit≤}
use Rattle.std.specs.Fmt.{decimal}
use Rattle.std.specs.Option.{option_map}
use Rattle.layout_set.specs.declared.set.TypeDef.{TypeDef}
use Rattle.layout_set.specs.declared.set.TypeDef.TheVariants.{Struct, Array, Thin, Slice, Str, Dyn, FnPtr, CLike, Enum, Bytes}
use Rattle.layout_set.specs.declared.set.Selector.{Selector}
use Rattle.layout_set.specs.declared.set.Selector.TheVariants.{Exact, Span, Only}
use Rattle.layout_words.specs.declared.kinds.TypeKind.{TypeKind}
use Rattle.layout_words.specs.declared.kinds.TypeKind.TheVariants as kinds
use Rattle.layout_words.specs.declared.kinds.SelectorKind.{SelectorKind}
use Rattle.layout_words.specs.declared.kinds.SelectorKind.TheVariants as selectors
use Rattle.layout_words.specs.declared.kinds.LineKind.{LineKind}
use Rattle.layout_words.specs.declared.kinds.LineKind.TheVariants as firsts
use Rattle.layout_lines.specs.declared.line.Line.{Line}
use Rattle.layout_lines.specs.declared.line.Line.TheVariants as lines
use Rattle.layout_words.specs.Kinds.{line_kind_of, line_kind_word, type_kind_word, selector_word}
use Rattle.layout_words.specs.Spellings.{◌>>=◌, the_next, type_kind, selector_kind, word, number, address, reference, pointer, primitive, name}
use Rattle.layout_words.specs.Forms.{Left, Form, cut, take_word, behind, nothing, ◌·◌, rest}
use Rattle.layout_lines.specs.Lines.{param_form, field_form, case_form, tag_form, static_form, sized_form, array_form, thin_form, fat_form, dyn_form, clike_form, exact_form, span_form, kind_of_type, type_rest, kind_of_selector, selector_rest, line_rest, kind_of_line, line_text, IsTypeLine, IsSelector, IsLine}
use Rattle.layout_lines.specs.ReadLines.{type_of, selector_of, type_line_of, variant_of, rest_of, line_of}
use Rattle.layout_words.proofs.Cuts.{cut_joins, cut_behind}
use Rattle.layout_words.proofs.Lacking.{free_lacks}
use Rattle.layout_words.proofs.KindWords.{line_kind_found, line_kind_says}
use Rattle.layout_words.proofs.ItemLaws.{number_law, next_law, type_kind_law, selector_kind_law, pointer_law, primitive_law, address_law, reference_law, word_law, name_law, map_says}
use Rattle.layout_words.proofs.FormLaws.{FormLaw, bind_says, took_says, took_some, nothing_law, then_law, rest_law, says_by, some_by}
use Rattle.layout_lines.proofs.FuncLaws.{IsLineOf, func_says, scope_says, var_says, at_says, piece_says, func_some, scope_some, var_some, whole_some, pieces_some, piece_some}

-- each form

number_32 : {B : Type 0} (F : Form B) → FormLaw F → FormLaw (number 32 · F)
number_32 F law = then_law (number 32) F (number_law 32 (lit≤ tt)) law

number_64 : {B : Type 0} (F : Form B) → FormLaw F → FormLaw (number 64 · F)
number_64 F law = then_law (number 64) F (number_law 64 (lit≤ tt)) law

number_128 : {B : Type 0} (F : Form B) → FormLaw F → FormLaw (number 128 · F)
number_128 F law = then_law (number 128) F (number_law 128 (lit≤ tt)) law

a_reference : {B : Type 0} (F : Form B) → FormLaw F → FormLaw (reference · F)
a_reference F law = then_law reference F reference_law law

a_name : FormLaw (rest name)
a_name = rest_law name name_law

one_reference : FormLaw (reference · nothing)
one_reference = a_reference nothing nothing_law

param_law : FormLaw param_form
param_law = then_law word _ word_law one_reference

field_law : FormLaw field_form
field_law = then_law word _ word_law (number_32 _ one_reference)

case_law : FormLaw case_form
case_law = then_law word _ word_law (number_64 nothing nothing_law)

tag_law : FormLaw tag_form
tag_law = number_32 _ (then_law primitive nothing primitive_law nothing_law)

static_law : FormLaw static_form
static_law = then_law address _ address_law (a_reference _ a_name)

sized_law : FormLaw sized_form
sized_law = number_32 _ (number_32 _ a_name)

array_law : FormLaw array_form
array_law = number_64 _ one_reference

thin_law : FormLaw thin_form
thin_law = then_law pointer _ pointer_law one_reference

fat_law : FormLaw fat_form
fat_law = then_law pointer _ pointer_law (a_reference _ a_name)

dyn_law : FormLaw dyn_form
dyn_law = then_law pointer _ pointer_law (a_reference _ (a_reference _ a_name))

clike_law : FormLaw clike_form
clike_law = then_law primitive _ primitive_law a_name

exact_law : FormLaw exact_form
exact_law = number_128 nothing nothing_law

span_law : FormLaw span_form
span_law = number_128 _ (number_128 nothing nothing_law)

-- what is left of a line is that of the value, whose kind is known

abbrev IsTypeOf : TypeKind → Left → TypeDef → Type 0
IsTypeOf kind left def = (kind ≡ kind_of_type def) × (left ≡ type_rest def) × IsTypeLine def

type_says : (kind : TypeKind) (left : Left) (def : TypeDef) → type_of kind left ≡ Some def → IsTypeOf kind left def
type_says kinds.Struct left def e = says_by sized_form sized_law (λ p. Struct p.1.1 p.0 p.1.0 [] []) (IsTypeOf kinds.Struct left) left def e (λ p t i. (refl, t, (i, (refl, refl))))
type_says kinds.Array left def e = says_by array_form array_law (λ p. Array p.1.0 p.0) (IsTypeOf kinds.Array left) left def e (λ p t i. (refl, t, i))
type_says kinds.Thin left def e = says_by thin_form thin_law (λ p. Thin p.0 p.1.0) (IsTypeOf kinds.Thin left) left def e (λ p t i. (refl, t, i))
type_says kinds.Slice left def e = says_by fat_form fat_law (λ p. Slice p.1.1 p.0 p.1.0) (IsTypeOf kinds.Slice left) left def e (λ p t i. (refl, t, i))
type_says kinds.Str left def e = says_by fat_form fat_law (λ p. Str p.1.1 p.0 p.1.0) (IsTypeOf kinds.Str left) left def e (λ p t i. (refl, t, i))
type_says kinds.Dyn left def e = says_by dyn_form dyn_law (λ p. Dyn p.1.1.1 p.0 p.1.0 p.1.1.0) (IsTypeOf kinds.Dyn left) left def e (λ p t i. (refl, t, i))
type_says kinds.Function left def e = says_by nothing nothing_law (λ _. FnPtr) (IsTypeOf kinds.Function left) left def e (λ p t i. (refl, t, tt))
type_says kinds.CLike left def e = says_by clike_form clike_law (λ p. CLike p.1 p.0 []) (IsTypeOf kinds.CLike left) left def e (λ p t i. (refl, t, (i, refl)))
type_says kinds.Enum left def e = says_by sized_form sized_law (λ p. Enum p.1.1 p.0 p.1.0 [] None []) (IsTypeOf kinds.Enum left) left def e (λ p t i. (refl, t, (i, (refl, (refl, refl)))))
type_says kinds.Bytes left def e = says_by sized_form sized_law (λ p. Bytes p.1.1 p.0 p.1.0) (IsTypeOf kinds.Bytes left) left def e (λ p t i. (refl, t, i))

abbrev IsSelectorOf : SelectorKind → Left → Selector → Type 0
IsSelectorOf kind left sel = (kind ≡ kind_of_selector sel) × (left ≡ selector_rest sel) × IsSelector sel

selector_says : (kind : SelectorKind) (left : Left) (sel : Selector) → selector_of kind left ≡ Some sel → IsSelectorOf kind left sel
selector_says selectors.Exact left sel e = says_by exact_form exact_law (λ p. Exact p.0) (IsSelectorOf selectors.Exact left) left sel e (λ p t i. (refl, t, i))
selector_says selectors.Span left sel e = says_by span_form span_law (λ p. Span p.0 p.1.0) (IsSelectorOf selectors.Span left) left sel e (λ p t i. (refl, t, i))
selector_says selectors.Only left sel e = says_by nothing nothing_law (λ _. Only) (IsSelectorOf selectors.Only left) left sel e (λ p t i. (refl, t, tt))

type_line_says : (next : ℕ) (left : Left) (def : TypeDef) → type_line_of next left ≡ Some def → IsLineOf next firsts.Type left (lines.Type def)
type_line_says next left def e =
    let number = bind_says (take_word (the_next next) left) (λ p. take_word type_kind p.1 >>= λ q. type_of q.0 q.1) def e in
    let kind = bind_says (take_word type_kind number.0.1) (λ q. type_of q.0 q.1) def number.2 in
    let first = took_says (the_next next) (next_law next) left number.0.0 number.0.1 number.1 in
    let second = took_says type_kind type_kind_law number.0.1 kind.0.0 kind.0.1 kind.1 in
    let known = type_says kind.0.0 kind.0.1 def kind.2 in (
      refl,
      first.0 ∙ ap (λ l. Some (decimal next ++ behind l)) (second.0 ∙ ap (λ k. Some (type_kind_word k ++ behind kind.0.1)) known.0 ∙ ap (λ l. Some (type_kind_word (kind_of_type def) ++ behind l)) known.1),
      known.2,
    )

variant_says : (next : ℕ) (left : Left) (l : Line) → variant_of left ≡ Some l → IsLineOf next firsts.Variant left l
variant_says next left l e =
    let name = bind_says (take_word word left) (λ p. take_word selector_kind p.1 >>= λ q. option_map (λ sel. lines.Variant p.0 sel) (selector_of q.0 q.1)) l e in
    let kind = bind_says (take_word selector_kind name.0.1) (λ q. option_map (λ sel. lines.Variant name.0.0 sel) (selector_of q.0 q.1)) l name.2 in
    let sel = map_says (λ sel. lines.Variant name.0.0 sel) (selector_of kind.0.0 kind.0.1) l kind.2 in
    let first = took_says word word_law left name.0.0 name.0.1 name.1 in
    let second = took_says selector_kind selector_kind_law name.0.1 kind.0.0 kind.0.1 kind.1 in
    let known = selector_says kind.0.0 kind.0.1 sel.0 sel.1 in
    subst (IsLineOf next firsts.Variant left) sel.2 (
      refl,
      first.0 ∙ ap (λ m. Some (name.0.0 ++ behind m)) (second.0 ∙ ap (λ k. Some (selector_word k ++ behind kind.0.1)) known.0 ∙ ap (λ m. Some (selector_word (kind_of_selector sel.0) ++ behind m)) known.1),
      (first.1, known.2),
    )

rest_says : (next : ℕ) (kind : LineKind) (left : Left) (l : Line) → rest_of next kind left ≡ Some l → IsLineOf next kind left l
rest_says next firsts.Version left l e = absurd (cc)
rest_says next firsts.Target left l e = absurd (cc)
rest_says next firsts.Type left l e =
    let found = map_says (λ def. lines.Type def) (type_line_of next left) l e in
    subst (IsLineOf next firsts.Type left) found.2 (type_line_says next left found.0 found.1)
rest_says next firsts.Param left l e = says_by param_form param_law (λ p. lines.Param (record { name = p.0; ty = p.1.0 })) (IsLineOf next firsts.Param left) left l e (λ p t i. (refl, t, i))
rest_says next firsts.Field left l e = says_by field_form field_law (λ p. lines.Field (record { name = p.0; off = p.1.0; ty = p.1.1.0 })) (IsLineOf next firsts.Field left) left l e (λ p t i. (refl, t, i))
rest_says next firsts.Case left l e = says_by case_form case_law (λ p. lines.Case (record { name = p.0; number = p.1.0 })) (IsLineOf next firsts.Case left) left l e (λ p t i. (refl, t, i))
rest_says next firsts.Tag left l e = says_by tag_form tag_law (λ p. lines.Tag (record { off = p.0; prim = p.1.0 })) (IsLineOf next firsts.Tag left) left l e (λ p t i. (refl, t, i))
rest_says next firsts.Variant left l e = variant_says next left l e
rest_says next firsts.Static left l e = says_by static_form static_law (λ p. lines.Static (record { name = p.1.1; ty = p.1.0; addr = p.0 })) (IsLineOf next firsts.Static left) left l e (λ p t i. (refl, t, i))
rest_says next firsts.Func left l e = func_says next left l e
rest_says next firsts.Scope left l e = scope_says next left l e
rest_says next firsts.Var left l e = var_says next false left l e
rest_says next firsts.Arg left l e = var_says next true left l e
rest_says next firsts.At left l e = at_says next left l e
rest_says next firsts.Piece left l e = piece_says next left l e

-- a line that is read has its text, and is a line
pub line_text_of : (next : ℕ) (text : List ℕ) (l : Line) → line_of next text ≡ Some l → (text ≡ line_text next l) × IsLine l
unfolding line_of
line_text_of next text l e =
    let found = bind_says (line_kind_of (cut text).0) (λ kind. rest_of next kind (cut text).1) l e in
    let known = rest_says next found.0 (cut text).1 l found.2 in
    let first : (cut text).0 ≡ line_kind_word (kind_of_line l) = line_kind_says (cut text).0 found.0 found.1 ∙ ap line_kind_word known.0 in
    (cut_joins text ∙ ap (λ w. w ++ behind (cut text).1) first ∙ ap (λ m. line_kind_word (kind_of_line l) ++ behind m) known.1, known.2)

-- and each line is read

type_some : (def : TypeDef) → IsTypeLine def → type_of (kind_of_type def) (type_rest def) ≡ Some def
type_some (Struct name size align params fields) h =
    some_by sized_form sized_law (λ p. Struct p.1.1 p.0 p.1.0 [] []) (size, (align, name)) h.0
    ∙ ap (λ ps. Some (Struct name size align ps [])) (sym h.1.0) ∙ ap (λ fs. Some (Struct name size align params fs)) (sym h.1.1)
type_some (Array elem count) h = some_by array_form array_law (λ p. Array p.1.0 p.0) (count, (elem, tt)) h
type_some (Thin kind to) h = some_by thin_form thin_law (λ p. Thin p.0 p.1.0) (kind, (to, tt)) h
type_some (Slice name kind ptr) h = some_by fat_form fat_law (λ p. Slice p.1.1 p.0 p.1.0) (kind, (ptr, name)) h
type_some (Str name kind ptr) h = some_by fat_form fat_law (λ p. Str p.1.1 p.0 p.1.0) (kind, (ptr, name)) h
type_some (Dyn name kind ptr vtable) h = some_by dyn_form dyn_law (λ p. Dyn p.1.1.1 p.0 p.1.0 p.1.1.0) (kind, (ptr, (vtable, name))) h
type_some FnPtr h = refl
type_some (CLike name tag cases) h = some_by clike_form clike_law (λ p. CLike p.1 p.0 []) (tag, name) h.0 ∙ ap (λ cs. Some (CLike name tag cs)) (sym h.1)
type_some (Enum name size align params tag variants) h =
    some_by sized_form sized_law (λ p. Enum p.1.1 p.0 p.1.0 [] None []) (size, (align, name)) h.0
    ∙ ap (λ ps. Some (Enum name size align ps None [])) (sym h.1.0) ∙ ap (λ t. Some (Enum name size align params t [])) (sym h.1.1.0) ∙ ap (λ vs. Some (Enum name size align params tag vs)) (sym h.1.1.1)
type_some (Bytes name size align) h = some_by sized_form sized_law (λ p. Bytes p.1.1 p.0 p.1.0) (size, (align, name)) h

selector_some : (sel : Selector) → IsSelector sel → selector_of (kind_of_selector sel) (selector_rest sel) ≡ Some sel
selector_some (Exact n) h = some_by exact_form exact_law (λ p. Exact p.0) (n, tt) h
selector_some (Span lo hi) h = some_by span_form span_law (λ p. Span p.0 p.1.0) (lo, (hi, tt)) h
selector_some Only h = refl

rest_some : (next : ℕ) (l : Line) → next < 2 ^ 32 → IsLine l → rest_of next (kind_of_line l) (line_rest next l) ≡ Some l
rest_some next (lines.Type def) small h =
    let after = Some (type_kind_word (kind_of_type def) ++ behind (type_rest def)) in
    ap (λ o. option_map (λ d. lines.Type d) (o >>= λ p. take_word type_kind p.1 >>= λ q. type_of q.0 q.1)) (took_some (the_next next) (next_law next) tt after small)
    ∙ ap (λ o. option_map (λ d. lines.Type d) (o >>= λ q. type_of q.0 q.1)) (took_some type_kind type_kind_law (kind_of_type def) (type_rest def) tt)
    ∙ ap (option_map (λ d. lines.Type d)) (type_some def h)
rest_some next (lines.Param p) small h = some_by param_form param_law (λ p. lines.Param (record { name = p.0; ty = p.1.0 })) (p.name, (p.ty, tt)) h
rest_some next (lines.Field f) small h = some_by field_form field_law (λ p. lines.Field (record { name = p.0; off = p.1.0; ty = p.1.1.0 })) (f.name, (f.off, (f.ty, tt))) h
rest_some next (lines.Case c) small h = some_by case_form case_law (λ p. lines.Case (record { name = p.0; number = p.1.0 })) (c.name, (c.number, tt)) h
rest_some next (lines.Tag t) small h = some_by tag_form tag_law (λ p. lines.Tag (record { off = p.0; prim = p.1.0 })) (t.off, (t.prim, tt)) h
rest_some next (lines.Variant w sel) small h =
    let after = Some (selector_word (kind_of_selector sel) ++ behind (selector_rest sel)) in
    ap (λ o. o >>= λ p. take_word selector_kind p.1 >>= λ q. option_map (λ s. lines.Variant p.0 s) (selector_of q.0 q.1)) (took_some word word_law w after h.0)
    ∙ ap (λ o. o >>= λ q. option_map (λ s. lines.Variant w s) (selector_of q.0 q.1)) (took_some selector_kind selector_kind_law (kind_of_selector sel) (selector_rest sel) tt)
    ∙ ap (option_map (λ s. lines.Variant w s)) (selector_some sel h.1)
rest_some next (lines.Static s) small h = some_by static_form static_law (λ p. lines.Static (record { name = p.1.1; ty = p.1.0; addr = p.0 })) (s.addr, (s.ty, s.name)) h
rest_some next (lines.Func f) small h = func_some next f h
rest_some next (lines.Scope s) small h = scope_some next s h
rest_some next (lines.Var v) small h = var_some next v h
rest_some next (lines.Whole lo hi p) small h = whole_some lo hi p h.0 h.1
rest_some next (lines.Pieces lo hi count) small h = pieces_some lo hi count h.0 h.1
rest_some next (lines.Piece p) small h = piece_some p h

pub line_of_text : (next : ℕ) (l : Line) → next < 2 ^ 32 → IsLine l → line_of next (line_text next l) ≡ Some l
unfolding line_of
line_of_text next l small h =
    let kind = line_kind_found (kind_of_line l) in
    ap (λ p. line_kind_of p.0 >>= λ kind. rest_of next kind p.1) (cut_behind (line_kind_word (kind_of_line l)) (line_rest next l) (free_lacks 32 (line_kind_word (kind_of_line l)) kind.1.0))
    ∙ ap (λ o. o >>= λ kind. rest_of next kind (line_rest next l)) kind.0
    ∙ rest_some next l small h
