-- A line that is spelled and may stand there breaks no rule.
use Rattle.std.proofs.Common.{◌≡◌, ◌∙◌, sym, ap, subst, refl, ℕ, ◌<◌, ◌^◌, Bool, true, false, cond, List, ◌∷◌, length, Option, Some, None, Ok, lit≤}
use Rattle.std.specs.Option.{option_map}
use Rattle.std.specs.Str.{is_utf8}
use Rattle.readers.specs.Hex.{hex_of}
use Rattle.layout_set.specs.declared.func.Place.{Place}
use Rattle.layout_set.specs.declared.set.Selector.{Selector}
use Rattle.layout_set.specs.declared.set.Set.{Set}
use Rattle.layout_set.specs.declared.set.TypeDef.{TypeDef}
use Rattle.layout_lines.specs.declared.line.Line.{Line}
use Rattle.layout_lines.specs.declared.line.Line.TheVariants as lines
use Rattle.layout_lines.specs.declared.open_entry.OpenEntry.{OpenEntry}
use Rattle.layout_words.specs.declared.kinds.PlaceKind.{PlaceKind}
use Rattle.layout_words.specs.declared.kinds.PlaceKind.TheVariants as place_kinds
use Rattle.layout_words.specs.declared.kinds.TypeKind.{TypeKind}
use Rattle.layout_words.specs.declared.kinds.TypeKind.TheVariants as kinds
use Rattle.layout_words.specs.declared.kinds.SelectorKind.{SelectorKind}
use Rattle.layout_words.specs.declared.kinds.SelectorKind.TheVariants as selectors
use Rattle.layout_words.specs.declared.kinds.LineKind.{LineKind}
use Rattle.layout_words.specs.declared.kinds.LineKind.TheVariants as firsts
use Rattle.layout_words.specs.declared.slot.Slot.{Slot}
use Rattle.layout_words.specs.declared.slot.Slot.TheVariants as slots
use Rattle.layout_words.specs.Kinds.{line_kind_of, line_kind_word, entry_kind_of}
use Rattle.layout_words.specs.Spellings.{Spelling, ◌>>=◌, number, the_next, type_kind, selector_kind, word}
use Rattle.layout_words.specs.PlaceSpellings.{hex, entry_kind, piece_kind}
use Rattle.layout_words.specs.Forms.{Left, Form, cut, take_word, nothing, operations}
use Rattle.layout_lines.specs.Lines.{func_form, scope_form, reg_form, mem_form, fixed_form, value_form, count_form, param_form, field_form, case_form, tag_form, static_form, sized_form, array_form, thin_form, fat_form, dyn_form, clike_form, exact_form, span_form, line_text, line_rest, kind_of_line, IsLine}
use Rattle.layout_lines.specs.ReadLines.{type_of, selector_of, type_line_of, variant_of, place_of, entry_of, at_of, piece_place_of, rest_of, line_of}
use Rattle.layout_lines.specs.Sets.{may_follow}
use Rattle.layout_rules.specs.Faults.{behind, fits, type_slots, selector_slots, place_slots, first_word, second_word, places_if, places_by, places_of, BreaksLine}
use Rattle.layout_rules.specs.LineRules.{may_stand, broken, lowest_broken, rule_of_words, rule_of_kind, rule_of}
use Rattle.layout_words.proofs.Cuts.{cut_behind}
use Rattle.layout_words.proofs.Lacking.{free_lacks}
use Rattle.layout_words.proofs.KindWords.{line_kind_found}
use Rattle.layout_lines.proofs.LineLaws.{line_of_text}
use Rattle.layout_lines.proofs.LineEnds.{text_is_utf8}
use Rattle.layout_rules.proofs.LowestItems.{Finds}
use Rattle.layout_rules.proofs.LowestLines.{line_finds_lowest}
use Rattle.layout_rules.proofs.ItemRules.{WordFault, Faulty, IsKept, some_of_map, both_says, both_none, number_fault, next_fault, hex_fault, word_fault, nothing_fault, operations_fault, param_fault, field_fault, case_fault, tag_fault, static_fault, sized_fault, array_fault, thin_fault, fat_fault, dyn_fault, clike_fault, exact_fault, span_fault, func_fault, scope_fault, reg_fault, mem_fault, fixed_fault, value_fault, count_fault}

pub if_true : {A : Type 0} (b : Bool) (x y : A) → b ≡ true → cond b x y ≡ x
if_true true x y e = refl
if_true false x y e = absurd (cc)

-- words that fit and break no rule are told so
pub kept_rule : (next : ℕ) (left : Left) (places : List Slot) → IsKept next places left → rule_of_words next left (Ok places) ≡ None
kept_rule next left places h = if_true (fits places left) (lowest_broken next places left) (Some 3) h.0 ∙ h.1

module _ (next : ℕ) where
  of_kept : {A B : Type 0} (F : Form A) (fault : Faulty next F) (f : A → B) (left : Left) (b : B) → option_map f (F.of left) ≡ Some b → IsKept next F.slots left
  of_kept F fault f left b e = let found = some_of_map f (F.of left) b e in fault.keeps left found.0 found.1

  type_kept : (kind : TypeKind) (left : Left) (def : TypeDef) → type_of kind left ≡ Some def → IsKept next (type_slots kind) left
  type_kept kinds.Struct left def e = of_kept sized_form (sized_fault next) _ left def e
  type_kept kinds.Array left def e = of_kept array_form (array_fault next) _ left def e
  type_kept kinds.Thin left def e = of_kept thin_form (thin_fault next) _ left def e
  type_kept kinds.Slice left def e = of_kept fat_form (fat_fault next) _ left def e
  type_kept kinds.Str left def e = of_kept fat_form (fat_fault next) _ left def e
  type_kept kinds.Dyn left def e = of_kept dyn_form (dyn_fault next) _ left def e
  type_kept kinds.Function left def e = of_kept nothing (nothing_fault next) _ left def e
  type_kept kinds.CLike left def e = of_kept clike_form (clike_fault next) _ left def e
  type_kept kinds.Enum left def e = of_kept sized_form (sized_fault next) _ left def e
  type_kept kinds.Bytes left def e = of_kept sized_form (sized_fault next) _ left def e

  selector_kept : (kind : SelectorKind) (left : Left) (sel : Selector) → selector_of kind left ≡ Some sel → IsKept next (selector_slots kind) left
  selector_kept selectors.Exact left sel e = of_kept exact_form (exact_fault next) _ left sel e
  selector_kept selectors.Span left sel e = of_kept span_form (span_fault next) _ left sel e
  selector_kept selectors.Only left sel e = of_kept nothing (nothing_fault next) _ left sel e

  place_kept : (kind : PlaceKind) (left : Left) (p : Place) → place_of kind left ≡ Some p → IsKept next (place_slots kind) left
  place_kept place_kinds.Reg left p e = of_kept reg_form (reg_fault next) _ left p e
  place_kept place_kinds.Mem left p e = of_kept mem_form (mem_fault next) _ left p e
  place_kept place_kinds.Fixed left p e = of_kept fixed_form (fixed_fault next) _ left p e
  place_kept place_kinds.Value left p e = of_kept value_form (value_fault next) _ left p e
  place_kept place_kinds.Expr left p e = of_kept operations (operations_fault next) _ left p e
  place_kept kind left p e = absurd (cc)

  entry_kept : (lo hi : ℕ) (kind : PlaceKind) (left : Left) (l : Line) → entry_of lo hi kind left ≡ Some l → IsKept next (place_slots kind) left
  entry_kept lo hi place_kinds.Pieces left l e = of_kept count_form (count_fault next) _ left l e
  entry_kept lo hi kind left l e = let found = some_of_map (λ p. lines.Whole lo hi p) (place_of kind left) l e in place_kept kind left found.0 found.1

  piece_kept : (kind : PlaceKind) (left : Left) (found : Option Place) → piece_place_of kind left ≡ Some found → IsKept next (place_slots kind) left
  piece_kept place_kinds.Nowhere left f e = of_kept nothing (nothing_fault next) _ left f e
  piece_kept kind left f e = let found = some_of_map (λ (p : Place). Some p) (place_of kind left) f e in place_kept kind left found.0 found.1

  -- an item before words that are kept
  word_kept : {A : Type 0} (S : Spelling A) (fault : WordFault next S) (more : List Slot) (line : List ℕ) (left : Left) (a : A) → S.of (cut line).0 ≡ Some a → (cut line).1 ≡ left → IsKept next more left
      → IsKept next (S.slot ∷ more) (Some line)
  word_kept S fault more line left a is after kept = (
    fault.fit more line ∙ ap (fits more) after ∙ kept.0,
    fault.lowest more line ∙ both_none (broken next S.slot (cut line).0) (lowest_broken next more (cut line).1) (fault.keeps (cut line).0 a is) (ap (lowest_broken next more) after ∙ kept.1),
  )

  -- a line whose kind is its second word
  module _ {A K B : Type 0} (S : Spelling A) (fault : WordFault next S) (T : Spelling K) (slots_of : K → List Slot) (value : A → K → Left → Option B)
      (value_kept : (a : A) (k : K) (left : Left) (b : B) → value a k left ≡ Some b → IsKept next (slots_of k) left) where
    abbrev places : K → List Slot
    places k = S.slot ∷ slots.Kind ∷ slots_of k

    words_kept : (line more : List ℕ) (a : A) (k : K) (b : B) → S.of (cut line).0 ≡ Some a → (cut line).1 ≡ Some more → value a k (cut more).1 ≡ Some b → IsKept next (places k) (Some line)
    words_kept line more a k b is after e =
        let kept = value_kept a k (cut more).1 b e in
        word_kept S fault (slots.Kind ∷ slots_of k) line (Some more) a is after (kept.0, kept.1)

    by_second : (line : List ℕ) (a : A) (b : B) → S.of (cut line).0 ≡ Some a → (l : Left) → (cut line).1 ≡ l → (take_word T l >>= λ q. value a q.0 q.1) ≡ Some b
        → rule_of_words next (Some line) (places_by places T.of (first_word l)) ≡ None
    by_second line a b is None after e = absurd (cc)
    by_second line a b is (Some more) after e =
        let kind = both_says (T.of (cut more).0) (cut more).1 (λ q. value a q.0 q.1) b e in
        ap (λ o. rule_of_words next (Some line) (places_if places o)) kind.1 ∙ kept_rule next (Some line) (places kind.0) (words_kept line more a kind.0 b is after kind.2)

    kinded_kept : (left : Left) (b : B) → (take_word S left >>= λ p. take_word T p.1 >>= λ q. value p.0 q.0 q.1) ≡ Some b → rule_of_words next left (places_by places T.of (second_word left)) ≡ None
    kinded_kept None b e = absurd (cc)
    kinded_kept (Some line) b e =
        let first = both_says (S.of (cut line).0) (cut line).1 (λ p. take_word T p.1 >>= λ q. value p.0 q.0 q.1) b e in
        by_second line first.0 b first.1 (cut line).1 refl first.2

  -- an entry, whose kind is its third word
  abbrev entry_places : PlaceKind → List Slot
  entry_places k = slots.Hex ∷ slots.Hex ∷ slots.Kind ∷ place_slots k

  entry_by_third : (line second : List ℕ) (lo hi : ℕ) (l : Line) → hex_of (cut line).0 ≡ Some lo → (cut line).1 ≡ Some second → hex_of (cut second).0 ≡ Some hi → (left : Left) → (cut second).1 ≡ left
      → (take_word entry_kind left >>= λ r. entry_of lo hi r.0 r.1) ≡ Some l → rule_of_words next (Some line) (places_by entry_places entry_kind_of (first_word left)) ≡ None
  entry_by_third line second lo hi l is after also None beyond e = absurd (cc)
  entry_by_third line second lo hi l is after also (Some third) beyond e =
      let kind = both_says (entry_kind_of (cut third).0) (cut third).1 (λ r. entry_of lo hi r.0 r.1) l e in
      let kept = entry_kept lo hi kind.0 (cut third).1 l kind.2 in
      let more = slots.Kind ∷ place_slots kind.0 in
      let inner = word_kept hex (hex_fault next) more second (Some third) hi also beyond (kept.0, kept.1) in
      ap (λ o. rule_of_words next (Some line) (places_if entry_places o)) kind.1
      ∙ kept_rule next (Some line) (entry_places kind.0) (word_kept hex (hex_fault next) (slots.Hex ∷ more) line (Some second) lo is after inner)

  entry_by_second : (line : List ℕ) (lo : ℕ) (l : Line) → hex_of (cut line).0 ≡ Some lo → (left : Left) → (cut line).1 ≡ left
      → (take_word hex left >>= λ q. take_word entry_kind q.1 >>= λ r. entry_of lo q.0 r.0 r.1) ≡ Some l → rule_of_words next (Some line) (places_by entry_places entry_kind_of (second_word left)) ≡ None
  entry_by_second line lo l is None after e = absurd (cc)
  entry_by_second line lo l is (Some second) after e =
      let found = both_says (hex_of (cut second).0) (cut second).1 (λ q. take_word entry_kind q.1 >>= λ r. entry_of lo q.0 r.0 r.1) l e in
      entry_by_third line second lo found.0 l is after found.1 (cut second).1 refl found.2

  entry_line_kept : (left : Left) (l : Line) → at_of left ≡ Some l → rule_of_words next left (places_of firsts.At left) ≡ None
  entry_line_kept None l e = absurd (cc)
  entry_line_kept (Some line) l e =
      let found = both_says (hex_of (cut line).0) (cut line).1 (λ p. take_word hex p.1 >>= λ q. take_word entry_kind q.1 >>= λ r. entry_of p.0 q.0 r.0 r.1) l e in
      entry_by_second line found.0 l found.1 (cut line).1 refl found.2

  of_line : {A B : Type 0} (F : Form A) (fault : Faulty next F) (f : A → B) (left : Left) (b : B) → option_map f (F.of left) ≡ Some b → rule_of_words next left (Ok F.slots) ≡ None
  of_line F fault f left b e = kept_rule next left F.slots (of_kept F fault f left b e)

  type_line_kept : (left : Left) (def : TypeDef) → type_line_of next left ≡ Some def → rule_of_words next left (places_of firsts.Type left) ≡ None
  type_line_kept left def e = kinded_kept (the_next next) (next_fault next) type_kind type_slots (λ a k l. type_of k l) (λ a k l b h. type_kept k l b h) left def e

  variant_kept : (left : Left) (l : Line) → variant_of left ≡ Some l → rule_of_words next left (places_of firsts.Variant left) ≡ None
  variant_kept left l e =
      kinded_kept word (word_fault next) selector_kind selector_slots (λ w k m. option_map (λ sel. lines.Variant w sel) (selector_of k m))
      (λ w k m b h. let found = some_of_map (λ sel. lines.Variant w sel) (selector_of k m) b h in selector_kept k m found.0 found.1) left l e

  piece_line_kept : (left : Left) (l : Line) → rest_of next firsts.Piece left ≡ Some l → rule_of_words next left (places_of firsts.Piece left) ≡ None
  piece_line_kept left l e =
      kinded_kept (number 32) (number_fault next 32 (lit≤ tt)) piece_kind place_slots (λ size k m. option_map (λ found. lines.Piece (record { size = size; place = found })) (piece_place_of k m))
      (λ size k m b h. let found = some_of_map (λ x. lines.Piece (record { size = size; place = x })) (piece_place_of k m) b h in piece_kept k m found.0 found.1) left l e

  -- what stands behind the first word
  rest_kept : (kind : LineKind) (left : Left) (l : Line) → rest_of next kind left ≡ Some l → rule_of_words next left (places_of kind left) ≡ None
  rest_kept firsts.Version left l e = absurd (cc)
  rest_kept firsts.Target left l e = absurd (cc)
  rest_kept firsts.Type left l e = let found = some_of_map (λ def. lines.Type def) (type_line_of next left) l e in type_line_kept left found.0 found.1
  rest_kept firsts.Param left l e = of_line param_form (param_fault next) _ left l e
  rest_kept firsts.Field left l e = of_line field_form (field_fault next) _ left l e
  rest_kept firsts.Case left l e = of_line case_form (case_fault next) _ left l e
  rest_kept firsts.Tag left l e = of_line tag_form (tag_fault next) _ left l e
  rest_kept firsts.Variant left l e = variant_kept left l e
  rest_kept firsts.Static left l e = of_line static_form (static_fault next) _ left l e
  rest_kept firsts.Func left l e = of_line func_form (func_fault next) _ left l e
  rest_kept firsts.Scope left l e = of_line scope_form (scope_fault next) _ left l e
  rest_kept firsts.Var left l e = of_line param_form (param_fault next) _ left l e
  rest_kept firsts.Arg left l e = of_line param_form (param_fault next) _ left l e
  rest_kept firsts.At left l e = entry_line_kept left l e
  rest_kept firsts.Piece left l e = piece_line_kept left l e

-- a line of a kind that may stand there, and that is read
fit_rule : (set : Set) (begun : Option OpenEntry) (text : List ℕ) (kind : LineKind) (l : Line) → line_kind_of (cut text).0 ≡ Some kind → may_stand (behind set begun) kind ≡ true → is_utf8 text ≡ true
    → line_of (length set.types) text ≡ Some l → rule_of (behind set begun) text ≡ None
unfolding rule_of line_of
fit_rule set begun text kind l e may utf8 read =
    let next = length set.types in
    let read_rest : rest_of next kind (cut text).1 ≡ Some l = sym (ap (λ o. o >>= λ k. rest_of next k (cut text).1) e) ∙ read in
    if_true (is_utf8 text) (rule_of_kind (behind set begun) (cut text).1 (line_kind_of (cut text).0)) (Some 1) utf8
    ∙ ap (rule_of_kind (behind set begun) (cut text).1) e
    ∙ if_true (may_stand (behind set begun) kind) (rule_of_words next (cut text).1 (places_of kind (cut text).1)) (Some 2) may
    ∙ rest_kept next kind (cut text).1 l read_rest

-- a line that is spelled and may follow breaks no rule
pub spelled_breaks_none : (set : Set) (begun : Option OpenEntry) (l : Line) → length set.types < 2 ^ 32 → may_follow set begun (kind_of_line l) ≡ true → IsLine l
    → (rule : ℕ) → BreaksLine (behind set begun) (line_text (length set.types) l) rule → ⊥
spelled_breaks_none set begun l room may is rule breaks =
    let next = length set.types in
    let text = line_text next l in
    let found = line_kind_found (kind_of_line l) in
    let word : cut text ≡ (line_kind_word (kind_of_line l), line_rest next l) = cut_behind (line_kind_word (kind_of_line l)) (line_rest next l) (free_lacks 32 (line_kind_word (kind_of_line l)) found.1.0) in
    let kind : line_kind_of (cut text).0 ≡ Some (kind_of_line l) = ap (λ p. line_kind_of p.0) word ∙ found.0 in
    let none = fit_rule set begun text (kind_of_line l) l kind may (text_is_utf8 next l room is) (line_of_text next l room is) in
    subst (Finds (BreaksLine (behind set begun) text)) none (line_finds_lowest (behind set begun) text) rule breaks
