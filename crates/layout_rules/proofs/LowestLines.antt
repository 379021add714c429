-- The rule that is found of a line is the lowest that the line breaks.
use Rattle.std.proofs.Common.{◌≡◌, ◌≢◌, ◌∙◌, sym, ap, subst, refl, ℕ, ◌≤◌, Bool, true, false, cond, List, [], ◌∷◌, ◌⊎◌, inl, inr, Option, Some, None, Result, Ok, Err, arith, lit≤}
use Rattle.std.proofs.lemmas.Option.{same_Some}
use Rattle.std.specs.Str.{is_utf8}
use Rattle.layout_words.specs.declared.kinds.LineKind.{LineKind}
use Rattle.layout_words.specs.declared.kinds.LineKind.TheVariants as firsts
use Rattle.layout_words.specs.declared.slot.Slot.{Slot}
use Rattle.layout_words.specs.Kinds.{line_kind_of, line_kind_word, type_kind_of, selector_kind_of, entry_kind_of, piece_kind_of}
use Rattle.layout_words.specs.Forms.{Left, cut}
use Rattle.layout_rules.specs.Faults.{Front, first, second, behind, MayStand, next_number, BreaksOperation, no_operation, no_operand, no_sum, unknown_register, no_offset, BreaksItem, other_version, no_type_number, other_type_number, no_number, no_address, no_numbered_type, no_named_type, no_pointer, no_primitive, no_word, no_name, no_frame, no_register, no_signed, no_hex, no_digits, no_zone, operation_breaks, no_expression, is_rest, BreaksWords, here, in_rest, later, fits, second_word, third_word, places_if, places_by, places_of, BreaksLine, no_text, cannot_stand, no_kind, miscounted, words_break, IsLowest}
use Rattle.layout_rules.specs.LineRules.{may_stand, broken, lower, lowest_broken, rule_of_words, rule_of_kind, rule_of}
use Rattle.layout_words.proofs.KindWords.{line_kind_found, line_kind_says}
use Rattle.layout_rules.proofs.LowestItems.{Finds, finds_same, finds_lower, item_finds_lowest}

-- words at their places

-- how a rule is broken by words
abbrev IsWordFault : ℕ → List Slot → Left → ℕ → Type 0
IsWordFault next [] left r = ⊥
IsWordFault next (slot ∷ more) None r = ⊥
IsWordFault next (slot ∷ more) (Some line) r =
    ((is_rest slot ≡ false) × (BreaksItem next slot (cut line).0 r ⊎ BreaksWords next more (cut line).1 r)) ⊎ ((is_rest slot ≡ true) × BreaksItem next slot line r)

words_from : (next : ℕ) (places : List Slot) (left : Left) (r : ℕ) → BreaksWords next places left r → IsWordFault next places left r
words_from next _ _ _ (here e b) = inl (e, inl b)
words_from next _ _ _ (in_rest e b) = inr (e, b)
words_from next _ _ _ (later e b) = inl (e, inr b)

rest_from : (next : ℕ) (slot : Slot) (more : List Slot) (line : List ℕ) → is_rest slot ≡ true → (r : ℕ) → IsWordFault next (slot ∷ more) (Some line) r → BreaksItem next slot line r
rest_from next slot more line e r (inl d) = let no : true ≡ false = sym e ∙ d.0 in absurd (cc)
rest_from next slot more line e r (inr d) = d.1

each_from : (next : ℕ) (slot : Slot) (more : List Slot) (line : List ℕ) → is_rest slot ≡ false → (r : ℕ) → IsWordFault next (slot ∷ more) (Some line) r
    → BreaksItem next slot (cut line).0 r ⊎ BreaksWords next more (cut line).1 r
each_from next slot more line e r (inl d) = d.1
each_from next slot more line e r (inr d) = let no : false ≡ true = sym e ∙ d.0 in absurd (cc)

each_to : (next : ℕ) (slot : Slot) (more : List Slot) (line : List ℕ) → is_rest slot ≡ false → (r : ℕ)
    → BreaksItem next slot (cut line).0 r ⊎ BreaksWords next more (cut line).1 r → BreaksWords next (slot ∷ more) (Some line) r
each_to next slot more line e r (inl b) = here e b
each_to next slot more line e r (inr b) = later e b

words_by : (next : ℕ) (slot : Slot) (more : List Slot) (line : List ℕ)
    → Finds (BreaksWords next more (cut line).1) (lowest_broken next more (cut line).1) → (t : Bool) → is_rest slot ≡ t
    → Finds (BreaksWords next (slot ∷ more) (Some line)) (cond t (broken next slot line) (lower (broken next slot (cut line).0) (lowest_broken next more (cut line).1)))
words_by next slot more line h true e =
    finds_same (BreaksItem next slot line) (BreaksWords next (slot ∷ more) (Some line)) (broken next slot line) (λ r b. in_rest e b)
    (λ r b. rest_from next slot more line e r (words_from next (slot ∷ more) (Some line) r b)) (item_finds_lowest next slot line)
words_by next slot more line h false e =
    let item = broken next slot (cut line).0 in
    let others = lowest_broken next more (cut line).1 in
    finds_same (λ r. BreaksItem next slot (cut line).0 r ⊎ BreaksWords next more (cut line).1 r) (BreaksWords next (slot ∷ more) (Some line)) (lower item others) (each_to next slot more line e)
    (λ r b. each_from next slot more line e r (words_from next (slot ∷ more) (Some line) r b))
    (finds_lower (BreaksItem next slot (cut line).0) (BreaksWords next more (cut line).1) item others (item_finds_lowest next slot (cut line).0) h)

-- the rule that is found of words is the lowest that they break
pub words_find_lowest : (next : ℕ) (places : List Slot) (left : Left) → Finds (BreaksWords next places left) (lowest_broken next places left)
words_find_lowest next [] left = λ r b. words_from next [] left r b
words_find_lowest next (slot ∷ more) None = λ r b. words_from next (slot ∷ more) None r b
words_find_lowest next (slot ∷ more) (Some line) = words_by next slot more line (words_find_lowest next more (cut line).1) (is_rest slot) refl

-- how low a rule may be

operation_low : (text : List ℕ) (r : ℕ) → BreaksOperation text r → 4 ≤ r
operation_low text _ (no_operation item kinds) = lit≤ tt
operation_low text _ (no_operand kind operand other is item) = lit≤ tt
operation_low text _ (no_sum sum is lacks) = lit≤ tt
operation_low text _ (unknown_register reg offset is lacks item) = lit≤ tt
operation_low text _ (no_offset reg offset is lacks item) = lit≤ tt

item_low : (next : ℕ) (slot : Slot) (text : List ℕ) (r : ℕ) → BreaksItem next slot text r → 4 ≤ r
item_low next _ _ _ (other_version n) = lit≤ tt
item_low next _ _ _ (no_type_number n) = lit≤ tt
item_low next _ _ _ (other_type_number n l e o) = lit≤ tt
item_low next _ _ _ (no_number bits n) = lit≤ tt
item_low next _ _ _ (no_address n) = lit≤ tt
item_low next _ _ _ (no_numbered_type t e n) = lit≤ tt
item_low next _ _ _ (no_named_type e n) = lit≤ tt
item_low next _ _ _ (no_pointer n) = lit≤ tt
item_low next _ _ _ (no_primitive n) = lit≤ tt
item_low next _ _ _ (no_word n) = lit≤ tt
item_low next _ _ _ (no_name n) = lit≤ tt
item_low next _ _ _ (no_frame n) = lit≤ tt
item_low next _ _ _ (no_register n) = lit≤ tt
item_low next _ _ _ (no_signed n) = lit≤ tt
item_low next _ _ _ (no_hex n) = lit≤ tt
item_low next _ _ _ (no_digits n) = lit≤ tt
item_low next _ _ _ (no_zone w c n) = lit≤ tt
item_low next _ _ _ (operation_breaks w c b) = operation_low w _ b
item_low next _ _ _ (no_expression n) = lit≤ tt

words_low : (next : ℕ) (places : List Slot) (left : Left) (r : ℕ) → BreaksWords next places left r → 4 ≤ r
words_low next _ _ _ (here e b) = item_low next _ _ _ b
words_low next _ _ _ (in_rest e b) = item_low next _ _ _ b
words_low next _ _ _ (later e b) = words_low next _ _ _ b

if_low : {K : Type 0} (slots_of : K → List Slot) (o : Option K) (r : ℕ) → places_if slots_of o ≡ Err r → 2 ≤ r
if_low slots_of None r e = let is : 2 ≡ r = cc in omega (arith, is)
if_low slots_of (Some kind) r e = absurd (cc)

by_low : {K : Type 0} (slots_of : K → List Slot) (kind_of : List ℕ → Option K) (o : Option (List ℕ)) (r : ℕ) → places_by slots_of kind_of o ≡ Err r → 2 ≤ r
by_low slots_of kind_of None r e = let is : 3 ≡ r = cc in omega (arith, is)
by_low slots_of kind_of (Some text) r e = if_low slots_of (kind_of text) r e

places_low : (kind : LineKind) (left : Left) (r : ℕ) → places_of kind left ≡ Err r → 2 ≤ r
places_low firsts.Type left r e = by_low _ type_kind_of (second_word left) r e
places_low firsts.Variant left r e = by_low _ selector_kind_of (second_word left) r e
places_low firsts.At left r e = by_low _ entry_kind_of (third_word left) r e
places_low firsts.Piece left r e = by_low _ piece_kind_of (second_word left) r e
places_low kind left r e = absurd (cc)

line_low : (front : Front) (line : List ℕ) (r : ℕ) → BreaksLine front line r → 1 ≤ r
line_low front line _ (no_text e) = lit≤ tt
line_low front line _ (cannot_stand none) = lit≤ tt
line_low front line _ (no_kind kind {rule = r} may w e) = let low : 2 ≤ r = places_low kind (cut line).1 r e in omega arith
line_low front line _ (miscounted kind at may w e f) = lit≤ tt
line_low front line _ (words_break kind at {rule = r} may w e b) = let low : 4 ≤ r = words_low (next_number front) at (cut line).1 r b in omega arith

text_low : (front : Front) (line : List ℕ) → is_utf8 line ≡ true → (r : ℕ) → BreaksLine front line r → 2 ≤ r
text_low front line u _ (no_text e) = let no : true ≡ false = sym u ∙ e in absurd (cc)
text_low front line u _ (cannot_stand none) = lit≤ tt
text_low front line u _ (no_kind kind {rule = r} may w e) = places_low kind (cut line).1 r e
text_low front line u _ (miscounted kind at may w e f) = lit≤ tt
text_low front line u _ (words_break kind at {rule = r} may w e b) = let low : 4 ≤ r = words_low (next_number front) at (cut line).1 r b in omega arith

-- which kinds may stand

first_stands : (kind : LineKind) → may_stand first kind ≡ true → kind ≡ firsts.Version
first_stands firsts.Version e = refl
first_stands kind e = absurd (cc)

second_stands : (kind : LineKind) → may_stand second kind ≡ true → kind ≡ firsts.Target
second_stands firsts.Target e = refl
second_stands kind e = absurd (cc)

stands : (front : Front) (kind : LineKind) → may_stand front kind ≡ true → MayStand front kind
stands first kind e = first_stands kind e
stands second kind e = second_stands kind e
stands (behind set begun) kind e = e

stands_back : (front : Front) (kind : LineKind) → MayStand front kind → may_stand front kind ≡ true
stands_back first kind e = ap (may_stand first) e
stands_back second kind e = ap (may_stand second) e
stands_back (behind set begun) kind e = e

-- no word is that of two kinds
same_word : (kind other : LineKind) (w : List ℕ) → w ≡ line_kind_word kind → w ≡ line_kind_word other → other ≡ kind
same_word kind other w is also = same_Some other kind (sym (line_kind_found other).0 ∙ ap line_kind_of (sym also ∙ is) ∙ (line_kind_found kind).0)

-- a line of a kind that may stand there

-- how it breaks a rule
data IsFaultOf (front : Front) (kind : LineKind) (left : Left) (r : ℕ) : Type 0 where
  unknown : places_of kind left ≡ Err r → IsFaultOf front kind left r
  count : (at : List Slot) → places_of kind left ≡ Ok at → fits at left ≡ false → r ≡ 3 → IsFaultOf front kind left r
  by_words : (at : List Slot) → places_of kind left ≡ Ok at → BreaksWords (next_number front) at left r → IsFaultOf front kind left r

line_from : (front : Front) (line : List ℕ) (kind : LineKind) → is_utf8 line ≡ true → MayStand front kind → (cut line).0 ≡ line_kind_word kind
    → (r : ℕ) → BreaksLine front line r → IsFaultOf front kind (cut line).1 r
line_from front line kind u may is _ (no_text e) = let no : true ≡ false = sym u ∙ e in absurd (cc)
line_from front line kind u may is _ (cannot_stand none) = absurd (none kind may is)
line_from front line kind u may is _ (no_kind other {rule = r} m w e) = subst (λ k. IsFaultOf front k (cut line).1 r) (same_word kind other (cut line).0 is w) (unknown e)
line_from front line kind u may is _ (miscounted other at m w e f) = subst (λ k. IsFaultOf front k (cut line).1 3) (same_word kind other (cut line).0 is w) (count at e f refl)
line_from front line kind u may is _ (words_break other at {rule = r} m w e b) = subst (λ k. IsFaultOf front k (cut line).1 r) (same_word kind other (cut line).0 is w) (by_words at e b)

unknown_low : (front : Front) (kind : LineKind) (left : Left) (n : ℕ) → places_of kind left ≡ Err n → (r : ℕ) → IsFaultOf front kind left r → n ≤ r
unknown_low front kind left n e r (unknown f) =
    let both : ◌≡◌ {A = Result (List Slot) ℕ} (Err n) (Err r) = sym e ∙ f in
    let is : n ≡ r = cc in
    omega (arith, is)
unknown_low front kind left n e r (count at f no_fit is) = let no : ◌≡◌ {A = Result (List Slot) ℕ} (Err n) (Ok at) = sym e ∙ f in absurd (cc)
unknown_low front kind left n e r (by_words at f b) = let no : ◌≡◌ {A = Result (List Slot) ℕ} (Err n) (Ok at) = sym e ∙ f in absurd (cc)

count_low : (front : Front) (kind : LineKind) (left : Left) (at : List Slot) → places_of kind left ≡ Ok at → (r : ℕ) → IsFaultOf front kind left r → 3 ≤ r
count_low front kind left at e r (unknown f) = let no : ◌≡◌ {A = Result (List Slot) ℕ} (Ok at) (Err r) = sym e ∙ f in absurd (cc)
count_low front kind left at e r (count other f no_fit is) = omega (arith, is)
count_low front kind left at e r (by_words other f b) = let low : 4 ≤ r = words_low (next_number front) other left r b in omega arith

fit_from : (front : Front) (kind : LineKind) (left : Left) (at : List Slot) → places_of kind left ≡ Ok at → fits at left ≡ true
    → (r : ℕ) → IsFaultOf front kind left r → BreaksWords (next_number front) at left r
fit_from front kind left at e fit r (unknown f) = let no : ◌≡◌ {A = Result (List Slot) ℕ} (Ok at) (Err r) = sym e ∙ f in absurd (cc)
fit_from front kind left at e fit r (count other f no_fit is) =
    let both : ◌≡◌ {A = Result (List Slot) ℕ} (Ok other) (Ok at) = sym f ∙ e in
    let same : other ≡ at = cc in
    let no : false ≡ true = sym no_fit ∙ ap (λ x. fits x left) same ∙ fit in
    absurd (cc)
fit_from front kind left at e fit r (by_words other f b) =
    let both : ◌≡◌ {A = Result (List Slot) ℕ} (Ok other) (Ok at) = sym f ∙ e in
    let same : other ≡ at = cc in
    subst (λ x. BreaksWords (next_number front) x left r) same b

module _ (front : Front) (line : List ℕ) (u : is_utf8 line ≡ true) where
  fit_finds : (kind : LineKind) → MayStand front kind → (cut line).0 ≡ line_kind_word kind → (at : List Slot)
      → places_of kind (cut line).1 ≡ Ok at → (t : Bool) → fits at (cut line).1 ≡ t
      → Finds (BreaksLine front line) (cond t (lowest_broken (next_number front) at (cut line).1) (Some 3))
  fit_finds kind may is at e true fit =
      finds_same (BreaksWords (next_number front) at (cut line).1) (BreaksLine front line) (lowest_broken (next_number front) at (cut line).1) (λ r b. words_break kind at may is e b)
      (λ r b. fit_from front kind (cut line).1 at e fit r (line_from front line kind u may is r b)) (words_find_lowest (next_number front) at (cut line).1)
  fit_finds kind may is at e false no_fit = (miscounted kind at may is e no_fit, λ r b. count_low front kind (cut line).1 at e r (line_from front line kind u may is r b))

  places_find : (kind : LineKind) → MayStand front kind → (cut line).0 ≡ line_kind_word kind → (p : Result (List Slot) ℕ) → places_of kind (cut line).1 ≡ p
      → Finds (BreaksLine front line) (rule_of_words (next_number front) (cut line).1 p)
  places_find kind may is (Err n) e = (no_kind kind may is e, λ r b. unknown_low front kind (cut line).1 n e r (line_from front line kind u may is r b))
  places_find kind may is (Ok at) e = fit_finds kind may is at e (fits at (cut line).1) refl

  stand_finds : (kind : LineKind) → (cut line).0 ≡ line_kind_word kind → (t : Bool) → may_stand front kind ≡ t
      → Finds (BreaksLine front line) (cond t (rule_of_words (next_number front) (cut line).1 (places_of kind (cut line).1)) (Some 2))
  stand_finds kind is true e = places_find kind (stands front kind e) is (places_of kind (cut line).1) refl
  stand_finds kind is false e =
      let none : (other : LineKind) → MayStand front other → (cut line).0 ≢ line_kind_word other = λ other may also.
      let no : true ≡ false = sym (stands_back front other may) ∙ ap (may_stand front) (same_word kind other (cut line).0 is also) ∙ e in
      cc
      in
      (cannot_stand none, text_low front line u)

  kind_finds : (o : Option LineKind) → line_kind_of (cut line).0 ≡ o → Finds (BreaksLine front line) (rule_of_kind front (cut line).1 o)
  kind_finds None e =
      let none : (kind : LineKind) → MayStand front kind → (cut line).0 ≢ line_kind_word kind = λ kind may is.
      let no : ◌≡◌ {A = Option LineKind} None (Some kind) = sym e ∙ ap line_kind_of is ∙ (line_kind_found kind).0 in
      cc
      in
      (cannot_stand none, text_low front line u)
  kind_finds (Some kind) e = stand_finds kind (line_kind_says (cut line).0 kind e) (may_stand front kind) refl

text_finds : (front : Front) (line : List ℕ) (t : Bool) → is_utf8 line ≡ t
    → Finds (BreaksLine front line) (cond t (rule_of_kind front (cut line).1 (line_kind_of (cut line).0)) (Some 1))
text_finds front line true e = kind_finds front line e (line_kind_of (cut line).0) refl
text_finds front line false e = (no_text e, line_low front line)

-- the rule that is found of a line is the lowest that the line breaks
pub line_finds_lowest : (front : Front) (line : List ℕ) → Finds (BreaksLine front line) (rule_of front line)
unfolding rule_of
line_finds_lowest front line = text_finds front line (is_utf8 line) refl

pub is_lowest : (front : Front) (line : List ℕ) (rule : ℕ) → rule_of front line ≡ Some rule → IsLowest (BreaksLine front line) rule
is_lowest front line rule e = subst (Finds (BreaksLine front line)) e (line_finds_lowest front line)

-- no two rules are the lowest
pub one_lowest : (P : ℕ → Type 0) (r q : ℕ) → IsLowest P r → IsLowest P q → r ≡ q
one_lowest P r q h k =
    let below : r ≤ q = h.1 q k.0 in
    let past : q ≤ r = k.1 r h.0 in
    omega arith
