-- Which rules a line breaks that spells nothing that may stand there, as the table of faults in `docs/layout-file.md` says.
use Rattle.std.specs.Prelude.{◌≡◌, ◌≢◌, ℕ, ℤ, ◌^◌, ◌<◌, ◌≤◌, min, if◌then◌else◌, Bool, true, false, length, List, [], ◌∷◌, ◌++◌, Contains, Option, Some, None, Result, Ok, Err, codes}
use Rattle.std.specs.Fmt.{decimal, signed_decimal}
use Rattle.std.specs.Int.{w64}
use Rattle.std.specs.Int.RustNames.{FitsSigned}
use Rattle.std.specs.Str.{is_utf8}
use Rattle.readers.specs.Lines.{Lacks}
use Rattle.expr_eval.specs.declared.operation.Op.{Op}
use Rattle.layout_set.specs.declared.set.Set.{Set}
use Rattle.layout_words.specs.declared.kinds.TypeKind.{TypeKind}
use Rattle.layout_words.specs.declared.kinds.TypeKind.TheVariants as kinds
use Rattle.layout_words.specs.declared.kinds.SelectorKind.{SelectorKind}
use Rattle.layout_words.specs.declared.kinds.SelectorKind.TheVariants as selectors
use Rattle.layout_words.specs.declared.kinds.LineKind.{LineKind}
use Rattle.layout_words.specs.declared.kinds.LineKind.TheVariants as firsts
use Rattle.layout_rules.specs.declared.fault.Front.{Front as Place}
use Rattle.layout_rules.specs.declared.fault.Front.TheVariants as places
use Rattle.layout_words.specs.declared.kinds.NumberedOp.{NumberedOp}
use Rattle.layout_words.specs.declared.kinds.NumberedOp.TheVariants as numbered
use Rattle.layout_words.specs.declared.kinds.PlaceKind.{PlaceKind}
use Rattle.layout_words.specs.declared.kinds.PlaceKind.TheVariants as kinds_of_place
use Rattle.layout_lines.specs.declared.open_entry.OpenEntry.{OpenEntry}
use Rattle.layout_words.specs.declared.slot.Slot.{Slot}
use Rattle.layout_words.specs.declared.slot.Slot.TheVariants as slots
use Rattle.layout_words.specs.Kinds.{line_kind_word, type_kind_of, selector_kind_of, entry_kind_of, piece_kind_of, numbered_word}
use Rattle.layout_words.specs.Spellings.{Spelling, number, address, begins_with, pointer, primitive, word, name}
use Rattle.layout_words.specs.PlaceSpellings.{register, frame, hex, signed, digits, zone, operation}
use Rattle.layout_words.specs.Steps.{lent}
use Rattle.layout_words.specs.Forms.{Left, cut, words, words_text, operations, AreOperations}
use Rattle.layout_lines.specs.Lines.{func_form, scope_form, reg_form, mem_form, fixed_form, value_form, count_form, param_form, field_form, case_form, tag_form, static_form, sized_form, array_form, thin_form, fat_form, dyn_form, clike_form, exact_form, span_form}
use Rattle.layout_lines.specs.Sets.{may_follow}

-- where a line stands: first, second, or behind the text of a set and of the entry that stands open behind it
pub data Front : Type 0 where
  first : Front
  second : Front
  behind : Set → Option OpenEntry → Front

abbrev pub front_of : Place → Front
front_of places.First = first
front_of places.Second = second
front_of (places.Behind set begun) = behind set.now (lent begun)

-- the kinds of lines that may stand there
abbrev pub MayStand : Front → LineKind → Type 0
MayStand first kind = kind ≡ firsts.Version
MayStand second kind = kind ≡ firsts.Target
MayStand (behind set begun) kind = may_follow set begun kind ≡ true

abbrev pub next_number : Front → ℕ
next_number (behind set begun) = length set.types
next_number front = 0

-- the text is that of an item
abbrev pub IsItem : {A : Type 0} → Spelling A → List ℕ → Type 0
IsItem {A} S text = (a : A) × (S.Is a × (text ≡ S.text a))

-- how many bits the number behind the colon has; that of `reg` stands behind a register, and has a sign
abbrev pub operand_bits : NumberedOp → ℕ
operand_bits numbered.Const = 64
operand_bits numbered.Deref = 8
operand_bits numbered.Pick = 8
operand_bits numbered.Plus = 64
operand_bits numbered.Reg = 64

-- The rules that one of the operations breaks by itself: it is none, and begins with no word of one with a number and a colon;
-- its number is none; or behind `reg:` there is no second colon, no register before it, or no signed number of 64 bits behind it.
pub data BreaksOperation (text : List ℕ) : ℕ → Type 0 where
  no_operation : ¬ IsItem operation text
      → ((kind : NumberedOp) (operand : List ℕ) → text ≢ numbered_word kind ++ 58 ∷ operand) → BreaksOperation text 7
  no_operand : (kind : NumberedOp) (operand : List ℕ) → kind ≢ numbered.Reg → text ≡ numbered_word kind ++ 58 ∷ operand
      → ¬ IsItem (number (operand_bits kind)) operand → BreaksOperation text 4
  no_sum : (sum : List ℕ) → text ≡ codes "reg:" ++ sum → Lacks 58 sum → BreaksOperation text 7
  unknown_register : (reg offset : List ℕ) → text ≡ codes "reg:" ++ (reg ++ 58 ∷ offset) → Lacks 58 reg
      → ¬ IsItem register reg → BreaksOperation text 7
  no_offset : (reg offset : List ℕ) → text ≡ codes "reg:" ++ (reg ++ 58 ∷ offset) → Lacks 58 reg
      → ((n : ℤ) → FitsSigned w64 n → offset ≢ signed_decimal n) → BreaksOperation text 4

-- The rules that a text breaks at such a place, where `next` is the number of the next type. Behind `#` stands the number of a
-- type. No number has more than 128 bits.
pub data BreaksItem (next : ℕ) : Slot → List ℕ → ℕ → Type 0 where
  other_version : {text : List ℕ} → text ≢ codes "1" → BreaksItem next slots.Version text 4
  no_type_number : {text : List ℕ} → ¬ IsItem (number 32) text → BreaksItem next slots.Next text 4
  other_type_number : (n : ℕ) {text : List ℕ} → n < 2 ^ 32 → text ≡ decimal n → n ≢ next → BreaksItem next slots.Next text 5
  no_number : (bits : ℕ) {text : List ℕ} → ¬ IsItem (number (min bits 128)) text → BreaksItem next (slots.Number bits) text 4
  no_address : {text : List ℕ} → ¬ IsItem address text → BreaksItem next slots.Address text 4
  no_numbered_type : (behind_hash : List ℕ) {text : List ℕ} → text ≡ 35 ∷ behind_hash → ¬ IsItem (number 32) behind_hash → BreaksItem next slots.Reference text 4
  no_named_type : {text : List ℕ} → begins_with 35 text ≡ false → ¬ IsItem primitive text → BreaksItem next slots.Reference text 7
  no_pointer : {text : List ℕ} → ¬ IsItem pointer text → BreaksItem next slots.Pointer text 7
  no_primitive : {text : List ℕ} → ¬ IsItem primitive text → BreaksItem next slots.Primitive text 7
  no_word : {text : List ℕ} → ¬ IsItem word text → BreaksItem next slots.Word text 6
  no_name : {text : List ℕ} → ¬ IsItem name text → BreaksItem next slots.Name text 6
  no_frame : {text : List ℕ} → ¬ IsItem frame text → BreaksItem next slots.Frame text 7
  no_register : {text : List ℕ} → ¬ IsItem register text → BreaksItem next slots.Register text 7
  no_signed : {text : List ℕ} → ¬ IsItem signed text → BreaksItem next slots.Signed text 4
  no_hex : {text : List ℕ} → ¬ IsItem hex text → BreaksItem next slots.Hex text 4
  no_digits : {text : List ℕ} → ¬ IsItem digits text → BreaksItem next slots.Digits text 7
  no_zone : (one : List ℕ) {text : List ℕ} → Contains (words text) one → ¬ IsItem zone one → BreaksItem next slots.Zones text 4
  operation_breaks : (one : List ℕ) {text : List ℕ} {rule : ℕ} → Contains (words text) one → BreaksOperation one rule
      → BreaksItem next slots.Operations text rule
  no_expression : {text : List ℕ} → ((ops : List Op) → AreOperations ops → Some text ≢ words_text operation ops)
      → BreaksItem next slots.Operations text 7

-- all that is left of the line is at such a place
abbrev pub is_rest : Slot → Bool
is_rest slots.Name = true
is_rest slots.Zones = true
is_rest slots.Operations = true
is_rest slot = false

-- The rules that words break at their places: the word at the first place does, all that is left where that is a place for the
-- rest of the line, or a word further on.
pub data BreaksWords (next : ℕ) : List Slot → Left → ℕ → Type 0 where
  here : {slot : Slot} {more : List Slot} {line : List ℕ} {rule : ℕ} → is_rest slot ≡ false
      → BreaksItem next slot (cut line).0 rule → BreaksWords next (slot ∷ more) (Some line) rule
  in_rest : {slot : Slot} {more : List Slot} {line : List ℕ} {rule : ℕ} → is_rest slot ≡ true
      → BreaksItem next slot line rule → BreaksWords next (slot ∷ more) (Some line) rule
  later : {slot : Slot} {more : List Slot} {line : List ℕ} {rule : ℕ} → is_rest slot ≡ false
      → BreaksWords next more (cut line).1 rule → BreaksWords next (slot ∷ more) (Some line) rule

-- there may be nothing at such a place
abbrev pub is_optional : Slot → Bool
is_optional slots.Zones = true
is_optional slot = false

-- whether there are as many words as places
abbrev pub fits : List Slot → Left → Bool
fits [] None = true
fits [] (Some line) = false
fits (slot ∷ more) None = is_optional slot
fits (slot ∷ more) (Some line) = if is_rest slot then true else fits more (cut line).1

abbrev pub type_slots : TypeKind → List Slot
type_slots kinds.Struct = sized_form.slots
type_slots kinds.Array = array_form.slots
type_slots kinds.Thin = thin_form.slots
type_slots kinds.Slice = fat_form.slots
type_slots kinds.Str = fat_form.slots
type_slots kinds.Dyn = dyn_form.slots
type_slots kinds.Function = []
type_slots kinds.CLike = clike_form.slots
type_slots kinds.Enum = sized_form.slots
type_slots kinds.Bytes = sized_form.slots

abbrev pub selector_slots : SelectorKind → List Slot
selector_slots selectors.Exact = exact_form.slots
selector_slots selectors.Span = span_form.slots
selector_slots selectors.Only = []

abbrev pub place_slots : PlaceKind → List Slot
place_slots kinds_of_place.Reg = reg_form.slots
place_slots kinds_of_place.Mem = mem_form.slots
place_slots kinds_of_place.Fixed = fixed_form.slots
place_slots kinds_of_place.Value = value_form.slots
place_slots kinds_of_place.Expr = operations.slots
place_slots kinds_of_place.Pieces = count_form.slots
place_slots kinds_of_place.Nowhere = []

abbrev pub first_word : Left → Option (List ℕ)
first_word None = None
first_word (Some line) = Some (cut line).0

-- the second of the words that are left, if there is one
abbrev pub second_word : Left → Option (List ℕ)
second_word None = None
second_word (Some line) = first_word (cut line).1

-- the third of them
abbrev pub third_word : Left → Option (List ℕ)
third_word None = None
third_word (Some line) = second_word (cut line).1

-- what must stand behind the first word, where the kind of the line is known: rule 2 is broken where the kind is none
abbrev pub places_if : {K : Type 0} → (K → List Slot) → Option K → Result (List Slot) ℕ
places_if places None = Err 2
places_if places (Some kind) = Ok (places kind)

-- and rule 3 where it is missing
abbrev pub places_by : {K : Type 0} → (K → List Slot) → (List ℕ → Option K) → Option (List ℕ) → Result (List Slot) ℕ
places_by places kind_of None = Err 3
places_by places kind_of (Some text) = places_if places (kind_of text)

abbrev pub places_of : LineKind → Left → Result (List Slot) ℕ
places_of firsts.Version left = Ok (slots.Version ∷ [])
places_of firsts.Target left = Ok (slots.Number 8 ∷ [])
places_of firsts.Type left = places_by (λ kind. slots.Next ∷ slots.Kind ∷ type_slots kind) type_kind_of (second_word left)
places_of firsts.Param left = Ok param_form.slots
places_of firsts.Field left = Ok field_form.slots
places_of firsts.Case left = Ok case_form.slots
places_of firsts.Tag left = Ok tag_form.slots
places_of firsts.Variant left = places_by (λ kind. slots.Word ∷ slots.Kind ∷ selector_slots kind) selector_kind_of (second_word left)
places_of firsts.Static left = Ok static_form.slots
places_of firsts.Func left = Ok func_form.slots
places_of firsts.Scope left = Ok scope_form.slots
places_of firsts.Var left = Ok param_form.slots
places_of firsts.Arg left = Ok param_form.slots
places_of firsts.At left = places_by (λ kind. slots.Hex ∷ slots.Hex ∷ slots.Kind ∷ place_slots kind) entry_kind_of (third_word left)
places_of firsts.Piece left = places_by (λ kind. slots.Number 32 ∷ slots.Kind ∷ place_slots kind) piece_kind_of (second_word left)

-- The rules that a line breaks which stands there: it isn't UTF-8; its first word can't stand there; what must stand behind the
-- first word can't be known; there are not as many words as places; or a word breaks the rule at its place.
pub data BreaksLine (front : Front) (line : List ℕ) : ℕ → Type 0 where
  no_text : is_utf8 line ≡ false → BreaksLine front line 1
  cannot_stand : ((kind : LineKind) → MayStand front kind → (cut line).0 ≢ line_kind_word kind) → BreaksLine front line 2
  no_kind : (kind : LineKind) {rule : ℕ} → MayStand front kind → (cut line).0 ≡ line_kind_word kind
      → places_of kind (cut line).1 ≡ Err rule → BreaksLine front line rule
  miscounted : (kind : LineKind) (at : List Slot) → MayStand front kind → (cut line).0 ≡ line_kind_word kind
      → places_of kind (cut line).1 ≡ Ok at → fits at (cut line).1 ≡ false → BreaksLine front line 3
  words_break : (kind : LineKind) (at : List Slot) {rule : ℕ} → MayStand front kind → (cut line).0 ≡ line_kind_word kind
      → places_of kind (cut line).1 ≡ Ok at → BreaksWords (next_number front) at (cut line).1 rule → BreaksLine front line rule

-- the rule is broken, and none that is lower
abbrev pub IsLowest : (ℕ → Type 0) → ℕ → Type 0
IsLowest Broken rule = Broken rule × ((lower : ℕ) → Broken lower → rule ≤ lower)
