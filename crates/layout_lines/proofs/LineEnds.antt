-- The text of a line is UTF-8 without an end of a line.
use Rattle.std.proofs.Common.{◌≡◌, ℕ, ◌<◌, ◌≤◌, ◌^◌, true, List, [], ◌∷◌, ◌++◌, IfSome, Option, Some, None, codes, arith, lit≤, lit<, refl}
use Rattle.std.specs.Fmt.{decimal}
use Rattle.std.specs.Str.{is_utf8}
use Rattle.std.proofs.lemmas.Str.{is_utf8-from_IsUtf8}
use Rattle.std.specs.List.{All}
use Rattle.std.proofs.lemmas.List.Elements.{All-head, All-tail}
use Rattle.readers.specs.Hex.{hex_text}
use Rattle.readers.specs.Lines.{Lacks}
use Rattle.layout_set.specs.declared.set.TypeRef.{TypeRef}
use Rattle.layout_set.specs.declared.set.TypeRef.TheVariants.{Prim, User}
use Rattle.layout_set.specs.declared.set.TypeDef.{TypeDef}
use Rattle.layout_set.specs.declared.set.TypeDef.TheVariants.{Struct, Array, Thin, Slice, Str, Dyn, FnPtr, CLike, Enum, Bytes}
use Rattle.layout_set.specs.declared.set.Selector.{Selector}
use Rattle.layout_set.specs.declared.set.Selector.TheVariants.{Exact, Span, Only}
use Rattle.layout_set.specs.declared.func.Place.{Place}
use Rattle.layout_set.specs.declared.func.Place.TheVariants as place
use Rattle.layout_words.specs.declared.kinds.PlaceKind.{PlaceKind}
use Rattle.layout_words.specs.declared.kinds.PlaceKind.TheVariants as places
use Rattle.layout_lines.specs.declared.line.Line.{Line}
use Rattle.layout_lines.specs.declared.line.Line.TheVariants as lines
use Rattle.layout_words.specs.Kinds.{line_kind_word, type_kind_word, selector_word, primitive_word, place_word}
use Rattle.layout_words.specs.Spellings.{Spelling, number, address, address_text, IsAddress, reference, reference_text, IsReference, pointer, primitive, word, name}
use Rattle.layout_words.specs.PlaceSpellings.{register, frame, hex, signed, digits, zone, operation}
use Rattle.layout_words.specs.Forms.{Left, Form, behind, nothing, ◌·◌, rest, words_text}
use Rattle.layout_lines.specs.Lines.{param_form, field_form, case_form, tag_form, static_form, sized_form, array_form, thin_form, fat_form, dyn_form, clike_form, exact_form, span_form, func_form, scope_form, reg_form, mem_form, fixed_form, value_form, count_form, kind_of_place, place_rest, kind_text, place_text, place_text_if, entry_rest, IsPlaceLine, kind_of_type, type_rest, kind_of_selector, selector_rest, line_rest, kind_of_line, line_text, IsTypeLine, IsSelector, IsLine}
use Rattle.layout_words.proofs.KindWords.{line_kind_found, type_kind_found, selector_kind_found, pointer_found, primitive_found}
use Rattle.layout_words.proofs.NameEnds.{open_name}
use Rattle.layout_words.proofs.Utf8Words.{IsOneLine, line_nil, line_cons, line_append, line_visible, line_word}
use Rattle.layout_words.proofs.Visible.{IsFrom, is_from, from_test, from_decimal, from_hex, from_signed}
use Rattle.layout_words.proofs.PlaceLaws.{register_visible, frame_visible, hex_visible, digits_visible, kind_visible, zone_visible}
use Rattle.layout_words.proofs.OpLaws.{op_visible}

-- the texts of items, and what a form leaves, are one line of UTF-8

literal : (bytes : List ℕ) → is_from 33 bytes ≡ true → IsOneLine bytes
literal bytes e = line_visible 33 bytes (lit< tt) (from_test 33 bytes e)

open_decimal : (bits n : ℕ) → bits ≤ 128 → n < 2 ^ bits → IsOneLine (decimal n)
open_decimal bits n h l = line_visible 48 (decimal n) (lit< tt) (from_decimal bits n h l)

open_hex : (n : ℕ) → n < 2 ^ 64 → IsOneLine (hex_text n)
open_hex n l = line_visible 48 (hex_text n) (lit< tt) (from_hex n l)

record OpenItem {A : Type 0} (S : Spelling A) : Type 0 where
  is_open : (a : A) → S.Is a → IsOneLine (S.text a)

record OpenForm {A : Type 0} (F : Form A) : Type 0 where
  is_open : (a : A) → F.Is a → IsOneLine (behind (F.text a))

number_item : (bits : ℕ) → bits ≤ 128 → OpenItem (number bits)
number_item bits h = record { is_open = λ n l. open_decimal bits n h l }

open_address : (a : Option ℕ) → IsAddress a → IsOneLine (address_text a)
open_address None h = literal (codes "none") refl
open_address (Some a) h = open_hex a h

address_item : OpenItem address
address_item = record { is_open = open_address }

open_reference : (r : TypeRef) → IsReference r → IsOneLine (reference_text r)
open_reference (Prim p) h = literal (primitive_word p) (primitive_found p).1.1
open_reference (User n) h = line_cons 35 (decimal n) (lit< tt) (λ e. omega arith) (open_decimal 32 n (lit≤ tt) h)

reference_item : OpenItem reference
reference_item = record { is_open = open_reference }

pointer_item : OpenItem pointer
pointer_item = record { is_open = λ k h. literal (pointer.text k) (pointer_found k).1.1 }

primitive_item : OpenItem primitive
primitive_item = record { is_open = λ k h. literal (primitive.text k) (primitive_found k).1.1 }

word_item : OpenItem word
word_item = record { is_open = line_word }

name_item : OpenItem name
name_item = record { is_open = open_name }

-- an item of visible characters
visible_item : {A : Type 0} (S : Spelling A) → ((a : A) → S.Is a → IsFrom 45 (S.text a)) → OpenItem S
visible_item S h = record { is_open = λ a is. line_visible 45 (S.text a) (lit< tt) (h a is) }

behind_space : (line : List ℕ) → IsOneLine line → IsOneLine (32 ∷ line)
behind_space line h = line_cons 32 line (lit< tt) (λ e. omega arith) h

open_nothing : OpenForm nothing
open_nothing = record { is_open = λ a h. line_nil }

open_then : {A B : Type 0} (S : Spelling A) (F : Form B) → OpenItem S → OpenForm F → OpenForm (S · F)
open_then S F item more = record { is_open = λ p h. behind_space (S.text p.0 ++ behind (F.text p.1)) (line_append (S.text p.0) (behind (F.text p.1)) (item.is_open p.0 h.0) (more.is_open p.1 h.1)) }

open_rest : {A : Type 0} (S : Spelling A) → OpenItem S → OpenForm (rest S)
open_rest S item = record { is_open = λ a h. behind_space (S.text a) (item.is_open a h) }

open_list : {A : Type 0} (S : Spelling A) → OpenItem S → (items : List A) → All S.Is items → IsOneLine (behind (words_text S items))
open_list S item [] h = line_nil
open_list S item (a ∷ items) h =
    behind_space (S.text a ++ behind (words_text S items))
    (line_append (S.text a) (behind (words_text S items)) (item.is_open a (All-head S.Is a items h)) (open_list S item items (All-tail S.Is a items h)))

number_then : {B : Type 0} (bits : ℕ) (F : Form B) → bits ≤ 128 → OpenForm F → OpenForm (number bits · F)
number_then bits F h more = open_then (number bits) F (number_item bits h) more

reference_then : {B : Type 0} (F : Form B) → OpenForm F → OpenForm (reference · F)
reference_then F more = open_then reference F reference_item more

pointer_then : {B : Type 0} (F : Form B) → OpenForm F → OpenForm (pointer · F)
pointer_then F more = open_then pointer F pointer_item more

word_then : {B : Type 0} (F : Form B) → OpenForm F → OpenForm (word · F)
word_then F more = open_then word F word_item more

one_name : OpenForm (rest name)
one_name = open_rest name name_item

one_reference : OpenForm (reference · nothing)
one_reference = reference_then nothing open_nothing

open_param : OpenForm param_form
open_param = word_then _ one_reference

open_field : OpenForm field_form
open_field = word_then _ (number_then 32 _ (lit≤ tt) one_reference)

open_case : OpenForm case_form
open_case = word_then _ (number_then 64 _ (lit≤ tt) open_nothing)

open_tag : OpenForm tag_form
open_tag = number_then 32 _ (lit≤ tt) (open_then primitive nothing primitive_item open_nothing)

open_static : OpenForm static_form
open_static = open_then address _ address_item (reference_then _ one_name)

open_sized : OpenForm sized_form
open_sized = number_then 32 _ (lit≤ tt) (number_then 32 _ (lit≤ tt) one_name)

open_array : OpenForm array_form
open_array = number_then 64 _ (lit≤ tt) one_reference

open_thin : OpenForm thin_form
open_thin = pointer_then _ one_reference

open_fat : OpenForm fat_form
open_fat = pointer_then _ (reference_then _ one_name)

open_dyn : OpenForm dyn_form
open_dyn = pointer_then _ (reference_then _ (reference_then _ one_name))

open_clike : OpenForm clike_form
open_clike = open_then primitive _ primitive_item one_name

open_exact : OpenForm exact_form
open_exact = number_then 128 _ (lit≤ tt) open_nothing

open_span : OpenForm span_form
open_span = number_then 128 _ (lit≤ tt) (number_then 128 _ (lit≤ tt) open_nothing)

-- an item, the word of a kind, and what follows it
kinded : (item kind : List ℕ) (left : Left) → IsOneLine item → IsOneLine kind → IsOneLine (behind left) → IsOneLine (behind (Some (item ++ behind (Some (kind ++ behind left)))))
kinded item kind left h k l =
    behind_space (item ++ behind (Some (kind ++ behind left))) (line_append item (behind (Some (kind ++ behind left))) h (behind_space (kind ++ behind left) (line_append kind (behind left) k l)))

register_item : OpenItem register
register_item = visible_item register (λ reg h. register_visible reg)

open_func : OpenForm func_form
open_func = open_then frame _ (visible_item frame (λ f h. frame_visible f)) one_name

open_scope : OpenForm scope_form
open_scope = number_then 32 _ (lit≤ tt) (record { is_open = open_list zone (visible_item zone zone_visible) })

open_reg : OpenForm reg_form
open_reg = open_then register nothing register_item open_nothing

open_mem : OpenForm mem_form
open_mem = open_then register _ register_item (open_then signed nothing (visible_item signed (λ z h. from_signed z (omega (arith, h.sfits)))) open_nothing)

open_fixed : OpenForm fixed_form
open_fixed = open_then hex nothing (visible_item hex hex_visible) open_nothing

open_value : OpenForm value_form
open_value = open_then digits nothing (visible_item digits digits_visible) open_nothing

open_count : OpenForm count_form
open_count = number_then 32 nothing (lit≤ tt) open_nothing

open_place : (p : Place) → IsPlaceLine p → IsOneLine (behind (place_rest p))
open_place (place.Reg reg) h = open_reg.is_open (reg, tt) h
open_place (place.Mem reg n) h = open_mem.is_open (reg, (n, tt)) h
open_place (place.Fixed at) h = open_fixed.is_open (at, tt) h
open_place (place.Value text) h = open_value.is_open (text, tt) h
open_place (place.Expr ops) h = open_list operation (visible_item operation op_visible) ops h.0

open_kind : (kind : PlaceKind) (left : Left) → IsOneLine (behind left) → IsOneLine (kind_text kind left)
open_kind kind left h = line_append (place_word kind) (behind left) (line_visible 45 (place_word kind) (lit< tt) (kind_visible kind)) h

open_place_if : (found : Option Place) → IfSome found IsPlaceLine → IsOneLine (place_text_if found)
open_place_if None h = literal (codes "none") refl
open_place_if (Some p) h = open_kind (kind_of_place p) (place_rest p) (open_place p h)

open_entry : (lo hi : ℕ) (text : List ℕ) → (lo < 2 ^ 64) × (hi < 2 ^ 64) → IsOneLine text → IsOneLine (behind (entry_rest lo hi text))
open_entry lo hi text small h = kinded (hex_text lo) (hex_text hi) (Some text) (open_hex lo small.0) (open_hex hi small.1) (behind_space text h)

open_type : (def : TypeDef) → IsTypeLine def → IsOneLine (behind (type_rest def))
open_type (Struct name size align params fields) h = open_sized.is_open (size, (align, name)) h.0
open_type (Array elem count) h = open_array.is_open (count, (elem, tt)) h
open_type (Thin kind to) h = open_thin.is_open (kind, (to, tt)) h
open_type (Slice name kind ptr) h = open_fat.is_open (kind, (ptr, name)) h
open_type (Str name kind ptr) h = open_fat.is_open (kind, (ptr, name)) h
open_type (Dyn name kind ptr vtable) h = open_dyn.is_open (kind, (ptr, (vtable, name))) h
open_type FnPtr h = line_nil
open_type (CLike name tag cases) h = open_clike.is_open (tag, name) h.0
open_type (Enum name size align params tag variants) h = open_sized.is_open (size, (align, name)) h.0
open_type (Bytes name size align) h = open_sized.is_open (size, (align, name)) h

open_selector : (sel : Selector) → IsSelector sel → IsOneLine (behind (selector_rest sel))
open_selector (Exact n) h = open_exact.is_open (n, tt) h
open_selector (Span lo hi) h = open_span.is_open (lo, (hi, tt)) h
open_selector Only h = line_nil

open_line : (next : ℕ) (l : Line) → next < 2 ^ 32 → IsLine l → IsOneLine (behind (line_rest next l))
open_line next (lines.Type def) small h =
    kinded (decimal next) (type_kind_word (kind_of_type def)) (type_rest def) (open_decimal 32 next (lit≤ tt) small) (literal (type_kind_word (kind_of_type def)) (type_kind_found (kind_of_type def)).1.1) (open_type def h)
open_line next (lines.Param p) small h = open_param.is_open (p.name, (p.ty, tt)) h
open_line next (lines.Field f) small h = open_field.is_open (f.name, (f.off, (f.ty, tt))) h
open_line next (lines.Case c) small h = open_case.is_open (c.name, (c.number, tt)) h
open_line next (lines.Tag t) small h = open_tag.is_open (t.off, (t.prim, tt)) h
open_line next (lines.Variant w sel) small h =
    kinded w (selector_word (kind_of_selector sel)) (selector_rest sel) (line_word w h.0) (literal (selector_word (kind_of_selector sel)) (selector_kind_found (kind_of_selector sel)).1.1) (open_selector sel h.1)
open_line next (lines.Static s) small h = open_static.is_open (s.addr, (s.ty, s.name)) h
open_line next (lines.Func f) small h = open_func.is_open (f.frame, f.name) h.0
open_line next (lines.Scope s) small h = open_scope.is_open (s.depth, s.zones) h.0
open_line next (lines.Var v) small h = open_param.is_open (v.name, (v.ty, tt)) h.0
open_line next (lines.Whole lo hi p) small h = open_entry lo hi (place_text p) h.0 (open_kind (kind_of_place p) (place_rest p) (open_place p h.1))
open_line next (lines.Pieces lo hi count) small h = open_entry lo hi (kind_text places.Pieces (count_form.text (count, tt))) h.0 (open_kind places.Pieces (count_form.text (count, tt)) (open_count.is_open (count, tt) h.1))
open_line next (lines.Piece p) small h =
    let place = behind_space (place_text_if p.place) (open_place_if p.place h.1) in
    behind_space (decimal p.size ++ behind (Some (place_text_if p.place))) (line_append (decimal p.size) (behind (Some (place_text_if p.place))) (open_decimal 32 p.size (lit≤ tt) h.0) place)

text_is_one_line : (next : ℕ) (l : Line) → next < 2 ^ 32 → IsLine l → IsOneLine (line_text next l)
text_is_one_line next l small h =
    line_append (line_kind_word (kind_of_line l)) (behind (line_rest next l)) (literal (line_kind_word (kind_of_line l)) (line_kind_found (kind_of_line l)).1.1) (open_line next l small h)

pub text_has_no_end : (next : ℕ) (l : Line) → next < 2 ^ 32 → IsLine l → Lacks 10 (line_text next l)
text_has_no_end next l small h = (text_is_one_line next l small h).0

pub text_is_utf8 : (next : ℕ) (l : Line) → next < 2 ^ 32 → IsLine l → is_utf8 (line_text next l) ≡ true
text_is_utf8 next l small h = is_utf8-from_IsUtf8 (line_text next l) (text_is_one_line next l small h).1
