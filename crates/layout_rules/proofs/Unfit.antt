-- A line that spells nothing which may stand there breaks a rule.
use Rattle.std.proofs.Common.{◌≡◌, ◌≢◌, ◌∙◌, sym, ap, subst, refl, ℕ, ◌≤◌, Bool, true, false, cond, List, ◌∷◌, length, Option, Some, None, Ok, lit≤}
use Rattle.std.specs.Option.{option_map}
use Rattle.std.specs.Str.{is_utf8}
use Rattle.readers.specs.Hex.{hex_of}
use Rattle.layout_set.specs.declared.set.Set.{Set}
use Rattle.layout_lines.specs.declared.line.Line.{Line}
use Rattle.layout_lines.specs.declared.line.Line.TheVariants as lines
use Rattle.layout_lines.specs.declared.open_entry.OpenEntry.{OpenEntry}
use Rattle.layout_words.specs.declared.kinds.PlaceKind.{PlaceKind}
use Rattle.layout_words.specs.declared.kinds.PlaceKind.TheVariants as place_kinds
use Rattle.layout_words.specs.declared.kinds.TypeKind.{TypeKind}
use Rattle.layout_words.specs.declared.kinds.TypeKind.TheVariants as kinds
use Rattle.layout_words.specs.declared.kinds.SelectorKind.{SelectorKind}
use Rattle.layout_words.specs.declared.kinds.SelectorKind.TheVariants as selectors
use Rattle.layout_words.specs.declared.kinds.LineKind.{LineKind}
use Rattle.layout_words.specs.declared.kinds.LineKind.TheVariants as firsts
use Rattle.layout_words.specs.declared.slot.Slot.{Slot}
use Rattle.layout_words.specs.declared.slot.Slot.TheVariants as slots
use Rattle.layout_words.specs.Kinds.{line_kind_of, entry_kind_of, piece_kind_of}
use Rattle.layout_words.specs.Spellings.{Spelling, ◌>>=◌, number, the_next, type_kind, selector_kind, word}
use Rattle.layout_words.specs.PlaceSpellings.{hex, entry_kind, piece_kind}
use Rattle.layout_words.specs.Forms.{Left, Form, cut, take_word, nothing, words, operations}
use Rattle.layout_lines.specs.Lines.{func_form, scope_form, reg_form, mem_form, fixed_form, value_form, count_form, param_form, field_form, case_form, tag_form, static_form, sized_form, array_form, thin_form, fat_form, dyn_form, clike_form, exact_form, span_form}
use Rattle.layout_lines.specs.ReadLines.{type_of, selector_of, type_line_of, variant_of, place_of, entry_of, at_of, piece_place_of, piece_of, rest_of, line_of}
use Rattle.layout_rules.specs.Faults.{Front, behind, next_number, fits, type_slots, selector_slots, place_slots, first_word, second_word, places_if, places_by, places_of}
use Rattle.layout_rules.specs.LineRules.{may_stand, broken, lowest_broken, rule_of_words, rule_of_kind, rule_of}
use Rattle.layout_words.proofs.PlaceLaws.{entry_kind_law, piece_kind_law}
use Rattle.layout_rules.proofs.ItemRules.{IsBroken, lower_left, lower_right, WordFault, map_none, number_fault, next_fault, hex_fault, word_fault, Faulty, nothing_fault, operations_fault, either_fault, param_fault, field_fault, case_fault, tag_fault, static_fault, sized_fault, array_fault, thin_fault, fat_fault, dyn_fault, clike_fault, exact_fault, span_fault, func_fault, scope_fault, reg_fault, mem_fault, fixed_fault, value_fault, count_fault}

-- no entry is nowhere, and no piece is in pieces
entry_kind_is : (text : List ℕ) (k : PlaceKind) → entry_kind_of text ≡ Some k → k ≢ place_kinds.Nowhere
entry_kind_is text k is = (entry_kind_law.law.says text k is).1

piece_kind_is : (text : List ℕ) (k : PlaceKind) → piece_kind_of text ≡ Some k → k ≢ place_kinds.Pieces
piece_kind_is text k is = (piece_kind_law.law.says text k is).1

module _ (next : ℕ) where
  -- kinds of types, variants and places

  of_form : {A B : Type 0} (F : Form A) (fault : Faulty next F) (f : A → B) (left : Left) → option_map f (F.of left) ≡ None → fits F.slots left ≡ true → IsBroken (lowest_broken next F.slots left)
  of_form F fault f left e h = fault.broke left (map_none f (F.of left) e) h

  type_fault : (kind : TypeKind) (left : Left) → type_of kind left ≡ None → fits (type_slots kind) left ≡ true → IsBroken (lowest_broken next (type_slots kind) left)
  type_fault kinds.Struct left e h = of_form sized_form (sized_fault next) _ left e h
  type_fault kinds.Array left e h = of_form array_form (array_fault next) _ left e h
  type_fault kinds.Thin left e h = of_form thin_form (thin_fault next) _ left e h
  type_fault kinds.Slice left e h = of_form fat_form (fat_fault next) _ left e h
  type_fault kinds.Str left e h = of_form fat_form (fat_fault next) _ left e h
  type_fault kinds.Dyn left e h = of_form dyn_form (dyn_fault next) _ left e h
  type_fault kinds.Function left e h = of_form nothing (nothing_fault next) _ left e h
  type_fault kinds.CLike left e h = of_form clike_form (clike_fault next) _ left e h
  type_fault kinds.Enum left e h = of_form sized_form (sized_fault next) _ left e h
  type_fault kinds.Bytes left e h = of_form sized_form (sized_fault next) _ left e h

  selector_fault : (kind : SelectorKind) (left : Left) → selector_of kind left ≡ None → fits (selector_slots kind) left ≡ true → IsBroken (lowest_broken next (selector_slots kind) left)
  selector_fault selectors.Exact left e h = of_form exact_form (exact_fault next) _ left e h
  selector_fault selectors.Span left e h = of_form span_form (span_fault next) _ left e h
  selector_fault selectors.Only left e h = of_form nothing (nothing_fault next) _ left e h

  -- what an entry is, and a piece
  entry_fault : (lo hi : ℕ) (kind : PlaceKind) (left : Left) → kind ≢ place_kinds.Nowhere → entry_of lo hi kind left ≡ None → fits (place_slots kind) left ≡ true → IsBroken (lowest_broken next (place_slots kind) left)
  entry_fault lo hi place_kinds.Reg left may e h = of_form reg_form (reg_fault next) _ left (map_none _ (place_of place_kinds.Reg left) e) h
  entry_fault lo hi place_kinds.Mem left may e h = of_form mem_form (mem_fault next) _ left (map_none _ (place_of place_kinds.Mem left) e) h
  entry_fault lo hi place_kinds.Fixed left may e h = of_form fixed_form (fixed_fault next) _ left (map_none _ (place_of place_kinds.Fixed left) e) h
  entry_fault lo hi place_kinds.Value left may e h = of_form value_form (value_fault next) _ left (map_none _ (place_of place_kinds.Value left) e) h
  entry_fault lo hi place_kinds.Expr left may e h = of_form operations (operations_fault next) _ left (map_none _ (place_of place_kinds.Expr left) e) h
  entry_fault lo hi place_kinds.Pieces left may e h = of_form count_form (count_fault next) _ left e h
  entry_fault lo hi place_kinds.Nowhere left may e h = absurd (may refl)

  piece_fault : (kind : PlaceKind) (left : Left) → kind ≢ place_kinds.Pieces → piece_place_of kind left ≡ None → fits (place_slots kind) left ≡ true → IsBroken (lowest_broken next (place_slots kind) left)
  piece_fault place_kinds.Reg left may e h = of_form reg_form (reg_fault next) _ left (map_none _ (place_of place_kinds.Reg left) e) h
  piece_fault place_kinds.Mem left may e h = of_form mem_form (mem_fault next) _ left (map_none _ (place_of place_kinds.Mem left) e) h
  piece_fault place_kinds.Fixed left may e h = of_form fixed_form (fixed_fault next) _ left (map_none _ (place_of place_kinds.Fixed left) e) h
  piece_fault place_kinds.Value left may e h = of_form value_form (value_fault next) _ left (map_none _ (place_of place_kinds.Value left) e) h
  piece_fault place_kinds.Expr left may e h = of_form operations (operations_fault next) _ left (map_none _ (place_of place_kinds.Expr left) e) h
  piece_fault place_kinds.Pieces left may e h = absurd (may refl)
  piece_fault place_kinds.Nowhere left may e h = of_form nothing (nothing_fault next) _ left e h

  -- the rule of words is some rule, where so much holds of what fits
  by_fit : (left : Left) (places : List Slot) → (fits places left ≡ true → IsBroken (lowest_broken next places left)) → IsBroken (rule_of_words next left (Ok places))
  by_fit left places h = by_test (fits places left) h
    where
      by_test : (b : Bool) → (b ≡ true → IsBroken (lowest_broken next places left)) → IsBroken (cond b (lowest_broken next places left) (Some 3))
      by_test true g = g refl
      by_test false g = (3, refl)

  -- a line whose kind is its second word
  module _ {A K B : Type 0} (S : Spelling A) (fault : WordFault next S) (T : Spelling K) (May : K → Type 0) (known : (text : List ℕ) (k : K) → T.of text ≡ Some k → May k)
      (slots_of : K → List Slot) (value : A → K → Left → Option B)
      (value_fault : (a : A) (k : K) (left : Left) → May k → value a k left ≡ None → fits (slots_of k) left ≡ true → IsBroken (lowest_broken next (slots_of k) left)) where
    abbrev Unread : Left → Type 0
    Unread left = (take_word S left >>= λ p. take_word T p.1 >>= λ q. value p.0 q.0 q.1) ≡ None

    kind_known : (line behind_first : List ℕ) → (cut line).1 ≡ Some behind_first → (k : K) → T.of (cut behind_first).0 ≡ Some k → Unread (Some line)
        → fits (S.slot ∷ slots.Kind ∷ slots_of k) (Some line) ≡ true → IsBroken (lowest_broken next (S.slot ∷ slots.Kind ∷ slots_of k) (Some line))
    kind_known line behind_first after k is e h =
        let more = slots.Kind ∷ slots_of k in
        let paired : Option K → Option (K × Left) = λ o. o >>= λ x. Some (x, (cut behind_first).1) in
        let fit : fits (slots_of k) (cut behind_first).1 ≡ true = sym (fault.fit more line ∙ ap (fits more) after) ∙ h in
        subst IsBroken (sym (fault.lowest more line))
        (either_fault (S.of (cut line).0) (cut line).1 (λ p. take_word T p.1 >>= λ q. value p.0 q.0 q.1) e
        (λ none. lower_left (broken next S.slot (cut line).0) (lowest_broken next more (cut line).1) (fault.broke (cut line).0 none))
        (λ a some none.
        let unread : value a k (cut behind_first).1 ≡ None =
        sym (ap (λ l. take_word T l >>= λ q. value a q.0 q.1) after ∙ ap (λ o. paired o >>= λ q. value a q.0 q.1) is) ∙ none in
        lower_right (broken next S.slot (cut line).0) (lowest_broken next more (cut line).1)
        (subst (λ l. IsBroken (lowest_broken next more l)) (sym after) (value_fault a k (cut behind_first).1 (known (cut behind_first).0 k is) unread fit))))

    abbrev places : K → List Slot
    places k = S.slot ∷ slots.Kind ∷ slots_of k

    by_kind : (line behind_first : List ℕ) → (cut line).1 ≡ Some behind_first → Unread (Some line) → (o : Option K) → T.of (cut behind_first).0 ≡ o → IsBroken (rule_of_words next (Some line) (places_if places o))
    by_kind line behind_first after e None is = (2, refl)
    by_kind line behind_first after e (Some k) is = by_fit (Some line) (places k) (kind_known line behind_first after k is e)

    by_second : (line : List ℕ) → Unread (Some line) → (l : Left) → (cut line).1 ≡ l → IsBroken (rule_of_words next (Some line) (places_by places T.of (first_word l)))
    by_second line e None after = (3, refl)
    by_second line e (Some behind_first) after = by_kind line behind_first after e (T.of (cut behind_first).0) refl

    kinded : (left : Left) → Unread left → IsBroken (rule_of_words next left (places_by places T.of (second_word left)))
    kinded None e = (3, refl)
    kinded (Some line) e = by_second line e (cut line).1 refl

  type_line_fault : (left : Left) → type_line_of next left ≡ None → IsBroken (rule_of_words next left (places_of firsts.Type left))
  type_line_fault left e = kinded (the_next next) (next_fault next) type_kind (λ _. Unit {0}) (λ text k is. tt) type_slots (λ a k l. type_of k l) (λ a k l may n h. type_fault k l n h) left e

  variant_fault : (left : Left) → variant_of left ≡ None → IsBroken (rule_of_words next left (places_of firsts.Variant left))
  variant_fault left e =
      kinded word (word_fault next) selector_kind (λ _. Unit {0}) (λ text k is. tt) selector_slots (λ w k l. option_map (λ sel. lines.Variant w sel) (selector_of k l))
      (λ w k l may n h. selector_fault k l (map_none (λ sel. lines.Variant w sel) (selector_of k l) n) h) left e

  piece_line_fault : (left : Left) → piece_of left ≡ None → IsBroken (rule_of_words next left (places_of firsts.Piece left))
  piece_line_fault left e =
      kinded (number 32) (number_fault next 32 (lit≤ tt)) piece_kind (λ k. k ≢ place_kinds.Pieces) piece_kind_is place_slots
      (λ size k l. option_map (λ found. lines.Piece (record { size = size; place = found })) (piece_place_of k l))
      (λ size k l may n h. piece_fault k l may (map_none _ (piece_place_of k l) n) h) left e

  abbrev entry_places : PlaceKind → List Slot
  entry_places k = slots.Hex ∷ slots.Hex ∷ slots.Kind ∷ place_slots k

  -- an entry, whose kind is its third word
  entry_known : (line second third : List ℕ) → (cut line).1 ≡ Some second → (cut second).1 ≡ Some third → (k : PlaceKind) → entry_kind_of (cut third).0 ≡ Some k → at_of (Some line) ≡ None
      → fits (entry_places k) (Some line) ≡ true → IsBroken (lowest_broken next (entry_places k) (Some line))
  entry_known line second third after beyond k is e h =
      let more = slots.Hex ∷ slots.Kind ∷ place_slots k in
      let read_more : ℕ → Left → Option Line = λ lo l. take_word hex l >>= λ q. take_word entry_kind q.1 >>= λ r. entry_of lo q.0 r.0 r.1 in
      either_fault (hex_of (cut line).0) (cut line).1 (λ p. read_more p.0 p.1) e
      (λ none. lower_left (broken next slots.Hex (cut line).0) (lowest_broken next more (cut line).1) ((hex_fault next).broke (cut line).0 none))
      (λ lo some none.
      let unread : read_more lo (Some second) ≡ None = ap (read_more lo) (sym after) ∙ none in
      let fit : fits more (Some second) ≡ true = ap (fits more) (sym after) ∙ h in
      lower_right (broken next slots.Hex (cut line).0) (lowest_broken next more (cut line).1)
      (subst (λ l. IsBroken (lowest_broken next more l)) (sym after)
      (kind_known hex (hex_fault next) entry_kind (λ x. x ≢ place_kinds.Nowhere) entry_kind_is place_slots (λ hi x l. entry_of lo hi x l) (λ hi x l may n g. entry_fault lo hi x l may n g) second third beyond k is unread fit)))

  entry_by_kind : (line second third : List ℕ) → (cut line).1 ≡ Some second → (cut second).1 ≡ Some third → at_of (Some line) ≡ None → (o : Option PlaceKind) → entry_kind_of (cut third).0 ≡ o
      → IsBroken (rule_of_words next (Some line) (places_if entry_places o))
  entry_by_kind line second third after beyond e None is = (2, refl)
  entry_by_kind line second third after beyond e (Some k) is = by_fit (Some line) (entry_places k) (entry_known line second third after beyond k is e)

  entry_by_third : (line second : List ℕ) → (cut line).1 ≡ Some second → at_of (Some line) ≡ None → (l : Left) → (cut second).1 ≡ l → IsBroken (rule_of_words next (Some line) (places_by entry_places entry_kind_of (first_word l)))
  entry_by_third line second after e None beyond = (3, refl)
  entry_by_third line second after e (Some third) beyond = entry_by_kind line second third after beyond e (entry_kind_of (cut third).0) refl

  entry_by_second : (line : List ℕ) → at_of (Some line) ≡ None → (l : Left) → (cut line).1 ≡ l → IsBroken (rule_of_words next (Some line) (places_by entry_places entry_kind_of (second_word l)))
  entry_by_second line e None after = (3, refl)
  entry_by_second line e (Some second) after = entry_by_third line second after e (cut second).1 refl

  entry_line_fault : (left : Left) → at_of left ≡ None → IsBroken (rule_of_words next left (places_of firsts.At left))
  entry_line_fault None e = (3, refl)
  entry_line_fault (Some line) e = entry_by_second line e (cut line).1 refl

  of_line : {A B : Type 0} (F : Form A) (fault : Faulty next F) (f : A → B) (left : Left) → option_map f (F.of left) ≡ None → IsBroken (rule_of_words next left (Ok F.slots))
  of_line F fault f left e = by_fit left F.slots (of_form F fault f left e)

  -- what stands behind the first word
  rest_fault : (set : Set) (begun : Option OpenEntry) (kind : LineKind) (left : Left) → may_stand (behind set begun) kind ≡ true → rest_of next kind left ≡ None → IsBroken (rule_of_words next left (places_of kind left))
  rest_fault set None firsts.Version left may e = absurd (cc)
  rest_fault set (Some o) firsts.Version left may e = absurd (cc)
  rest_fault set None firsts.Target left may e = absurd (cc)
  rest_fault set (Some o) firsts.Target left may e = absurd (cc)
  rest_fault set begun firsts.Type left may e = type_line_fault left (map_none (λ def. lines.Type def) (type_line_of next left) e)
  rest_fault set begun firsts.Param left may e = of_line param_form (param_fault next) _ left e
  rest_fault set begun firsts.Field left may e = of_line field_form (field_fault next) _ left e
  rest_fault set begun firsts.Case left may e = of_line case_form (case_fault next) _ left e
  rest_fault set begun firsts.Tag left may e = of_line tag_form (tag_fault next) _ left e
  rest_fault set begun firsts.Variant left may e = variant_fault left e
  rest_fault set begun firsts.Static left may e = of_line static_form (static_fault next) _ left e
  rest_fault set begun firsts.Func left may e = of_line func_form (func_fault next) _ left e
  rest_fault set begun firsts.Scope left may e = of_line scope_form (scope_fault next) _ left e
  rest_fault set begun firsts.Var left may e = of_line param_form (param_fault next) _ left e
  rest_fault set begun firsts.Arg left may e = of_line param_form (param_fault next) _ left e
  rest_fault set begun firsts.At left may e = entry_line_fault left e
  rest_fault set begun firsts.Piece left may e = piece_line_fault left e

-- whole lines

in_text : (b : Bool) (o : Option ℕ) → IsBroken o → IsBroken (cond b o (Some 1))
in_text true o h = h
in_text false o h = (1, refl)

in_place : (b : Bool) (o : Option ℕ) → (b ≡ true → IsBroken o) → IsBroken (cond b o (Some 2))
in_place true o h = h refl
in_place false o h = (2, refl)

-- a line whose first word is that of no kind
pub no_kind_breaks : (front : Front) (text : List ℕ) → line_kind_of (cut text).0 ≡ None → IsBroken (rule_of front text)
unfolding rule_of
no_kind_breaks front text e = in_text (is_utf8 text) (rule_of_kind front (cut text).1 (line_kind_of (cut text).0)) (subst (λ o. IsBroken (rule_of_kind front (cut text).1 o)) (sym e) (2, refl))

-- a line of a kind that may not stand there
pub misplaced_breaks : (front : Front) (text : List ℕ) (kind : LineKind) → line_kind_of (cut text).0 ≡ Some kind → may_stand front kind ≡ false → IsBroken (rule_of front text)
unfolding rule_of
misplaced_breaks front text kind e misplaced =
    in_text (is_utf8 text) (rule_of_kind front (cut text).1 (line_kind_of (cut text).0))
    (subst (λ o. IsBroken (rule_of_kind front (cut text).1 o)) (sym e)
    (in_place (may_stand front kind) (rule_of_words (next_number front) (cut text).1 (places_of kind (cut text).1)) (λ yes. absurd (cc))))

-- a line of a kind that may stand there, and that spells nothing
pub unfit_breaks : (set : Set) (begun : Option OpenEntry) (text : List ℕ) (kind : LineKind) → line_kind_of (cut text).0 ≡ Some kind → may_stand (behind set begun) kind ≡ true → line_of (length set.types) text ≡ None → IsBroken (rule_of (behind set begun) text)
unfolding rule_of line_of
unfit_breaks set begun text kind e may none =
    let unread : rest_of (length set.types) kind (cut text).1 ≡ None = sym (ap (λ o. o >>= λ k. rest_of (length set.types) k (cut text).1) e) ∙ none in
    in_text (is_utf8 text) (rule_of_kind (behind set begun) (cut text).1 (line_kind_of (cut text).0))
    (subst (λ o. IsBroken (rule_of_kind (behind set begun) (cut text).1 o)) (sym e)
    (in_place (may_stand (behind set begun) kind) (rule_of_words (length set.types) (cut text).1 (places_of kind (cut text).1)) (λ yes. rest_fault (length set.types) set begun kind (cut text).1 may unread)))
