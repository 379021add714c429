-- A word that is no item of its place breaks a rule, and one that is breaks none; so do the forms of lines.
use Rattle.std.proofs.Common.{◌≡◌, ◌∙◌, sym, ap, subst, refl, ℕ, ◌≤◌, Bool, if◌then◌else◌, true, false, cond, ◌==◌, List, [], ◌∷◌, drop, min, Option, Some, None, arith, lit≤}
use Rattle.std.specs.Option.{option_map}
use Rattle.readers.specs.Hex.{hex_of}
use Rattle.snapshot_file.specs.Registers.{reg_of}
use Rattle.layout_set.specs.declared.func.Zone.{Zone}
use Rattle.layout_set.specs.declared.set.TypeRef.TheVariants.{Prim, User}
use Rattle.layout_words.specs.declared.slot.Slot.{Slot}
use Rattle.layout_words.specs.Kinds.{primitive_of, pointer_of}
use Rattle.layout_words.specs.Spellings.{Spelling, ◌>>=◌, number, number_of, the_next, next_of, address, address_of, reference, begins_with, pointer, primitive, word, word_of, name, name_of}
use Rattle.layout_words.specs.PlaceSpellings.{register, frame, frame_of, hex, signed, signed_of, digits, digits_of, zone, zone_of}
use Rattle.layout_words.specs.Forms.{Left, Form, cut, nothing, nothing_of, ◌·◌, rest, words, each_of, many, operations, operations_of}
use Rattle.layout_lines.specs.Lines.{func_form, scope_form, reg_form, mem_form, fixed_form, value_form, count_form, param_form, field_form, case_form, tag_form, static_form, sized_form, array_form, thin_form, fat_form, dyn_form, clike_form, exact_form, span_form}
use Rattle.layout_rules.specs.Faults.{is_optional, fits}
use Rattle.layout_rules.specs.LineRules.{unless, not_next, broken, lower, lowest_of, broken_zone, broken_op, lowest_broken}
use Rattle.expr_eval.specs.declared.operation.Op.{Op}
use Rattle.expr_eval.specs.declared.operation.Op.TheVariants as ops
use Rattle.names.specs.declared.name.Name.{Name}
use Rattle.layout_set.specs.declared.set.TypeRef.{TypeRef}
use Rattle.layout_words.specs.declared.kinds.NumberedOp.{NumberedOp}
use Rattle.layout_words.specs.declared.kinds.NumberedOp.TheVariants as numbered
use Rattle.layout_words.specs.Kinds.{plain_of, numbered_of}
use Rattle.layout_words.specs.PlaceSpellings.{cut_at, register_op, numbered_op, op_by, op_of, operation}
use Rattle.layout_words.specs.Forms.{are_ops}
use Rattle.layout_rules.specs.LineRules.{broken_sum, broken_number, broken_op_by}
use Rattle.layout_words.proofs.FormLaws.{bind_says}

-- a rule is broken
abbrev pub IsBroken : Option ℕ → Type 0
IsBroken o = (rule : ℕ) × (o ≡ Some rule)

pub lower_none : (o : Option ℕ) → lower o None ≡ o
lower_none None = refl
lower_none (Some a) = refl

pub lowest_none : (next : ℕ) (places : List Slot) → lowest_broken next places None ≡ None
lowest_none next [] = refl
lowest_none next (slot ∷ more) = refl

pub lower_left : (a b : Option ℕ) → IsBroken a → IsBroken (lower a b)
lower_left None b h = absurd (cc)
lower_left (Some x) None h = (x, refl)
lower_left (Some x) (Some y) h = (min x y, refl)

pub lower_right : (a b : Option ℕ) → IsBroken b → IsBroken (lower a b)
lower_right None b h = h
lower_right (Some x) None h = (x, refl)
lower_right (Some x) (Some y) h = (min x y, refl)

-- each kind of item

-- a word that is no such item breaks a rule, one that is breaks none, and the place is one word
pub record WordFault {A : Type 0} (next : ℕ) (S : Spelling A) : Type 0 where
  pub broke : (text : List ℕ) → S.of text ≡ None → IsBroken (broken next S.slot text)
  pub lowest : (more : List Slot) (line : List ℕ) → lowest_broken next (S.slot ∷ more) (Some line) ≡ lower (broken next S.slot (cut line).0) (lowest_broken next more (cut line).1)
  pub fit : (more : List Slot) (line : List ℕ) → fits (S.slot ∷ more) (Some line) ≡ fits more (cut line).1
  pub needed : is_optional S.slot ≡ false
  pub keeps : (text : List ℕ) (a : A) → S.of text ≡ Some a → broken next S.slot text ≡ None

pub unless_broken : {A : Type 0} (rule : ℕ) (o : Option A) → o ≡ None → IsBroken (unless rule o)
unless_broken rule None e = (rule, refl)
unless_broken rule (Some a) e = absurd (cc)

pub map_none : {A B : Type 0} (f : A → B) (o : Option A) → option_map f o ≡ None → o ≡ None
map_none f None e = refl
map_none f (Some a) e = absurd (cc)

keeps_by : {A : Type 0} (rule : ℕ) (o : Option A) (a : A) → o ≡ Some a → unless rule o ≡ None
keeps_by rule None a e = absurd (cc)
keeps_by rule (Some b) a e = refl

pub number_fault : (next bits : ℕ) → bits ≤ 128 → WordFault next (number bits)
number_fault next bits h = record {
  broke = λ text e. let same : min bits 128 ≡ bits = omega arith in unless_broken 4 (number_of (min bits 128) text) (ap (λ b. number_of b text) same ∙ e);
  lowest = λ more line. refl;
  fit = λ more line. refl;
  needed = refl;
  keeps = λ text n e. let same : min bits 128 ≡ bits = omega arith in keeps_by 4 (number_of (min bits 128) text) n (ap (λ b. number_of b text) same ∙ e);
}

next_broken : (next : ℕ) (o : Option ℕ) → next_of next o ≡ None → IsBroken (not_next next o)
next_broken next None e = (4, refl)
next_broken next (Some n) e = by_test (n == next) e
  where
    by_test : (b : Bool) → ◌≡◌ {A = Option (Unit {0})} (cond b (Some tt) None) None → IsBroken (cond b None (Some 5))
    by_test true q = absurd (cc)
    by_test false q = (5, refl)

next_keeps : (next : ℕ) (o : Option ℕ) (u : Unit {0}) → next_of next o ≡ Some u → not_next next o ≡ None
next_keeps next None u e = absurd (cc)
next_keeps next (Some n) u e = by_test (n == next) e
  where
    by_test : (b : Bool) → ◌≡◌ {A = Option (Unit {0})} (cond b (Some tt) None) (Some u) → ◌≡◌ {A = Option ℕ} (cond b None (Some 5)) None
    by_test true q = refl
    by_test false q = absurd (cc)

pub next_fault : (next : ℕ) → WordFault next (the_next next)
next_fault next = record { broke = λ text e. next_broken next (number_of 32 text) e; lowest = λ more line. refl; fit = λ more line. refl; needed = refl; keeps = λ text u e. next_keeps next (number_of 32 text) u e }

pub address_fault : (next : ℕ) → WordFault next address
address_fault next = record { broke = λ text e. unless_broken 4 (address_of text) e; lowest = λ more line. refl; fit = λ more line. refl; needed = refl; keeps = λ text a e. keeps_by 4 (address_of text) a e }

reference_broken : (text : List ℕ) (b : Bool) → cond b (option_map (λ n. User n) (number_of 32 (drop 1 text))) (option_map (λ p. Prim p) (primitive_of text)) ≡ None → IsBroken (cond b (unless 4 (number_of 32 (drop 1 text))) (unless 7 (primitive_of text)))
reference_broken text true e = unless_broken 4 (number_of 32 (drop 1 text)) (map_none (λ n. User n) (number_of 32 (drop 1 text)) e)
reference_broken text false e = unless_broken 7 (primitive_of text) (map_none (λ p. Prim p) (primitive_of text) e)

pub some_of_map : {A B : Type 0} (f : A → B) (o : Option A) (b : B) → option_map f o ≡ Some b → (a : A) × (o ≡ Some a)
some_of_map f None b e = absurd (cc)
some_of_map f (Some a) b e = (a, refl)

reference_keeps : (text : List ℕ) (r : TypeRef) (b : Bool) → cond b (option_map (λ n. User n) (number_of 32 (drop 1 text))) (option_map (λ p. Prim p) (primitive_of text)) ≡ Some r → cond b (unless 4 (number_of 32 (drop 1 text))) (unless 7 (primitive_of text)) ≡ None
reference_keeps text r true e = let found = some_of_map (λ n. User n) (number_of 32 (drop 1 text)) r e in keeps_by 4 (number_of 32 (drop 1 text)) found.0 found.1
reference_keeps text r false e = let found = some_of_map (λ p. Prim p) (primitive_of text) r e in keeps_by 7 (primitive_of text) found.0 found.1

pub reference_fault : (next : ℕ) → WordFault next reference
reference_fault next = record { broke = λ text e. reference_broken text (begins_with 35 text) e; lowest = λ more line. refl; fit = λ more line. refl; needed = refl; keeps = λ text r e. reference_keeps text r (begins_with 35 text) e }

pub pointer_fault : (next : ℕ) → WordFault next pointer
pointer_fault next = record { broke = λ text e. unless_broken 7 (pointer_of text) e; lowest = λ more line. refl; fit = λ more line. refl; needed = refl; keeps = λ text k e. keeps_by 7 (pointer_of text) k e }

pub primitive_fault : (next : ℕ) → WordFault next primitive
primitive_fault next = record { broke = λ text e. unless_broken 7 (primitive_of text) e; lowest = λ more line. refl; fit = λ more line. refl; needed = refl; keeps = λ text p e. keeps_by 7 (primitive_of text) p e }

pub frame_fault : (next : ℕ) → WordFault next frame
frame_fault next = record { broke = λ text e. unless_broken 7 (frame_of text) e; lowest = λ more line. refl; fit = λ more line. refl; needed = refl; keeps = λ text f e. keeps_by 7 (frame_of text) f e }

pub register_fault : (next : ℕ) → WordFault next register
register_fault next = record { broke = λ text e. unless_broken 7 (reg_of text) e; lowest = λ more line. refl; fit = λ more line. refl; needed = refl; keeps = λ text r e. keeps_by 7 (reg_of text) r e }

pub signed_fault : (next : ℕ) → WordFault next signed
signed_fault next = record { broke = λ text e. unless_broken 4 (signed_of 31 text) e; lowest = λ more line. refl; fit = λ more line. refl; needed = refl; keeps = λ text n e. keeps_by 4 (signed_of 31 text) n e }

pub hex_fault : (next : ℕ) → WordFault next hex
hex_fault next = record { broke = λ text e. unless_broken 4 (hex_of text) e; lowest = λ more line. refl; fit = λ more line. refl; needed = refl; keeps = λ text n e. keeps_by 4 (hex_of text) n e }

pub digits_fault : (next : ℕ) → WordFault next digits
digits_fault next = record { broke = λ text e. unless_broken 7 (digits_of text) e; lowest = λ more line. refl; fit = λ more line. refl; needed = refl; keeps = λ text d e. keeps_by 7 (digits_of text) d e }

pub word_fault : (next : ℕ) → WordFault next word
word_fault next = record { broke = λ text e. unless_broken 6 (word_of text) e; lowest = λ more line. refl; fit = λ more line. refl; needed = refl; keeps = λ text w e. keeps_by 6 (word_of text) w e }

-- forms

-- there are as many words as places, and no word breaks a rule
abbrev pub IsKept : ℕ → List Slot → Left → Type 0
IsKept next places left = (fits places left ≡ true) × (lowest_broken next places left ≡ None)

-- what is left and is no such value breaks a rule, if it has as many words as there are places; what is such a value breaks none
pub record Faulty {A : Type 0} (next : ℕ) (F : Form A) : Type 0 where
  pub broke : (left : Left) → F.of left ≡ None → fits F.slots left ≡ true → IsBroken (lowest_broken next F.slots left)
  pub keeps : (left : Left) (a : A) → F.of left ≡ Some a → IsKept next F.slots left

nothing_broke : (next : ℕ) (left : Left) → nothing_of left ≡ None → fits [] left ≡ true → IsBroken (lowest_broken next [] left)
nothing_broke next None e h = absurd (cc)
nothing_broke next (Some line) e h = absurd (cc)

nothing_keeps : (next : ℕ) (left : Left) (u : Unit {0}) → nothing_of left ≡ Some u → IsKept next [] left
nothing_keeps next None u e = (refl, refl)
nothing_keeps next (Some line) u e = absurd (cc)

pub nothing_fault : (next : ℕ) → Faulty next nothing
nothing_fault next = record { broke = nothing_broke next; keeps = nothing_keeps next }

name_broke : (next : ℕ) (left : Left) → (rest name).of left ≡ None → fits (rest name).slots left ≡ true → IsBroken (lowest_broken next (rest name).slots left)
name_broke next None e h = absurd (cc)
name_broke next (Some line) e h = unless_broken 6 (name_of line) e

name_keeps : (next : ℕ) (left : Left) (n : Name) → (rest name).of left ≡ Some n → IsKept next (rest name).slots left
name_keeps next None n e = absurd (cc)
name_keeps next (Some line) n e = (refl, keeps_by 6 (name_of line) n e)

pub name_fault : (next : ℕ) → Faulty next (rest name)
name_fault next = record { broke = name_broke next; keeps = name_keeps next }

pub after_none : {A B : Type 0} (o : Option B) (f : B → A) → (o >>= λ b. Some (f b)) ≡ None → o ≡ None
after_none None f e = refl
after_none (Some b) f e = absurd (cc)

-- one of the zones is none
zones_broken : (ws : List (List ℕ)) → each_of zone ws ≡ None → IsBroken (lowest_of broken_zone ws)
zones_broken [] e = absurd (cc)
zones_broken (w ∷ ws) e = by_first (zone_of w) refl (λ rest. zones_broken ws rest)
  where
    by_first : (o : Option Zone) → zone_of w ≡ o → (each_of zone ws ≡ None → IsBroken (lowest_of broken_zone ws)) → IsBroken (lower (unless 4 (zone_of w)) (lowest_of broken_zone ws))
    by_first None is more = lower_left (unless 4 (zone_of w)) (lowest_of broken_zone ws) (unless_broken 4 (zone_of w) is)
    by_first (Some a) is more =
        let rest : each_of zone ws ≡ None = after_none (each_of zone ws) (λ xs. a ∷ xs) (sym (ap (λ o. o >>= λ x. each_of zone ws >>= λ xs. Some (x ∷ xs)) is) ∙ e) in
        lower_right (unless 4 (zone_of w)) (lowest_of broken_zone ws) (more rest)

pub both_none : (a b : Option ℕ) → a ≡ None → b ≡ None → lower a b ≡ None
both_none None b e f = f
both_none (Some x) b e f = absurd (cc)

zones_keep : (ws : List (List ℕ)) (zs : List Zone) → each_of zone ws ≡ Some zs → lowest_of broken_zone ws ≡ None
zones_keep [] zs e = refl
zones_keep (w ∷ ws) zs e =
    let first = bind_says (zone_of w) (λ a. each_of zone ws >>= λ more. Some (a ∷ more)) zs e in
    let others = bind_says (each_of zone ws) (λ more. Some (first.0 ∷ more)) zs first.2 in
    both_none (unless 4 (zone_of w)) (lowest_of broken_zone ws) (keeps_by 4 (zone_of w) first.0 first.1) (zones_keep ws others.0 others.1)

many_zones_keep : (next : ℕ) (left : Left) (zs : List Zone) → (many zone).of left ≡ Some zs → IsKept next (many zone).slots left
many_zones_keep next None zs e = (refl, refl)
many_zones_keep next (Some line) zs e = (refl, zones_keep (words line) zs e)

many_zones_broke : (next : ℕ) (left : Left) → (many zone).of left ≡ None → fits (many zone).slots left ≡ true → IsBroken (lowest_broken next (many zone).slots left)
many_zones_broke next None e h = absurd (cc)
many_zones_broke next (Some line) e h = zones_broken (words line) e

pub zones_fault : (next : ℕ) → Faulty next (many zone)
zones_fault next = record { broke = many_zones_broke next; keeps = many_zones_keep next }

sum_keeps : (w : List ℕ) (left : Option (List ℕ)) (op : Op) → register_op (w, left) ≡ Some op → broken_sum (w, left) ≡ None
sum_keeps w None op e = absurd (cc)
sum_keeps w (Some offset) op e =
    let reg = bind_says (reg_of w) (λ r. option_map (λ n. ops.RegPlus r n) (signed_of 63 offset)) op e in
    let n = some_of_map (λ n. ops.RegPlus reg.0 n) (signed_of 63 offset) op reg.2 in
    both_none (unless 7 (reg_of w)) (unless 4 (signed_of 63 offset)) (keeps_by 7 (reg_of w) reg.0 reg.1) (keeps_by 4 (signed_of 63 offset) n.0 n.1)

numbered_keeps : (kind : NumberedOp) (text : List ℕ) (op : Op) → numbered_op kind text ≡ Some op → broken_number text (Some kind) ≡ None
numbered_keeps numbered.Const text op e = keeps_by 4 (numbered_op numbered.Const text) op e
numbered_keeps numbered.Deref text op e = keeps_by 4 (numbered_op numbered.Deref text) op e
numbered_keeps numbered.Pick text op e = keeps_by 4 (numbered_op numbered.Pick text) op e
numbered_keeps numbered.Plus text op e = keeps_by 4 (numbered_op numbered.Plus text) op e
numbered_keeps numbered.Reg text op e = sum_keeps (cut_at 58 text).0 (cut_at 58 text).1 op e

op_parts_keep : (w : List ℕ) (left : Option (List ℕ)) (op : Op) → op_by w left ≡ Some op → broken_op_by (w, left) ≡ None
op_parts_keep w None op e = keeps_by 7 (plain_of w) op e
op_parts_keep w (Some text) op e =
    let kind = bind_says (numbered_of w) (λ k. numbered_op k text) op e in
    ap (broken_number text) kind.1 ∙ numbered_keeps kind.0 text op kind.2

op_keeps : (text : List ℕ) (op : Op) → op_of text ≡ Some op → broken_op text ≡ None
unfolding op_of
op_keeps text op e = op_parts_keep (cut_at 58 text).0 (cut_at 58 text).1 op e

ops_keep : (ws : List (List ℕ)) (os : List Op) → each_of operation ws ≡ Some os → lowest_of broken_op ws ≡ None
ops_keep [] os e = refl
ops_keep (w ∷ ws) os e =
    let first = bind_says (op_of w) (λ a. each_of operation ws >>= λ more. Some (a ∷ more)) os e in
    let others = bind_says (each_of operation ws) (λ more. Some (first.0 ∷ more)) os first.2 in
    both_none (broken_op w) (lowest_of broken_op ws) (op_keeps w first.0 first.1) (ops_keep ws others.0 others.1)

operations_keep : (next : ℕ) (left : Left) (os : List Op) → operations.of left ≡ Some os → IsKept next operations.slots left
operations_keep next None os e = absurd (cc)
operations_keep next (Some line) os e =
    let each = bind_says (each_of operation (words line)) (λ o. if are_ops o then Some o else None) os e in
    (refl, both_none (lowest_of broken_op (words line)) (unless 7 (operations_of (Some line))) (ops_keep (words line) each.0 each.1) (keeps_by 7 (operations_of (Some line)) os e))

operations_broke : (next : ℕ) (left : Left) → operations.of left ≡ None → fits operations.slots left ≡ true → IsBroken (lowest_broken next operations.slots left)
operations_broke next None e h = absurd (cc)
operations_broke next (Some line) e h = lower_right (lowest_of broken_op (words line)) (unless 7 (operations_of (Some line))) (unless_broken 7 (operations_of (Some line)) e)

pub operations_fault : (next : ℕ) → Faulty next operations
operations_fault next = record { broke = operations_broke next; keeps = operations_keep next }

-- the word is no such item, or what follows it is no such value
pub either_fault : {A B P : Type 0} (o : Option A) (left : Left) (f : A × Left → Option B) → ((o >>= λ a. Some (a, left)) >>= f) ≡ None → (o ≡ None → P) → ((a : A) → o ≡ Some a → f (a, left) ≡ None → P) → P
either_fault None left f e g h = g refl
either_fault (Some a) left f e g h = h a refl e

then_broke : {A B : Type 0} (next : ℕ) (S : Spelling A) (F : Form B) → WordFault next S → Faulty next F → (left : Left) → (S · F).of left ≡ None → fits (S.slot ∷ F.slots) left ≡ true → IsBroken (lowest_broken next (S.slot ∷ F.slots) left)
then_broke next S F fault more None e h = let no : true ≡ false = sym h ∙ fault.needed in absurd (cc)
then_broke next S F fault more (Some line) e h =
    subst IsBroken (sym (fault.lowest F.slots line))
    (either_fault (S.of (cut line).0) (cut line).1 (λ p. F.of p.1 >>= λ b. Some (p.0, b)) e
    (λ none. lower_left (broken next S.slot (cut line).0) (lowest_broken next F.slots (cut line).1) (fault.broke (cut line).0 none))
    (λ a some none. lower_right (broken next S.slot (cut line).0) (lowest_broken next F.slots (cut line).1) (more.broke (cut line).1 (after_none (F.of (cut line).1) (λ b. (a, b)) none) (sym (fault.fit F.slots line) ∙ h))))

-- the word is such an item, and what follows it is such a value
pub both_says : {A B : Type 0} (o : Option A) (left : Left) (f : A × Left → Option B) (b : B) → ((o >>= λ a. Some (a, left)) >>= f) ≡ Some b → (a : A) × (o ≡ Some a) × (f (a, left) ≡ Some b)
both_says None left f b e = absurd (cc)
both_says (Some a) left f b e = (a, refl, e)

then_keeps : {A B : Type 0} (next : ℕ) (S : Spelling A) (F : Form B) → WordFault next S → Faulty next F → (left : Left) (p : A × B) → (S · F).of left ≡ Some p → IsKept next (S.slot ∷ F.slots) left
then_keeps next S F fault more None p e = absurd (cc)
then_keeps next S F fault more (Some line) p e =
    let word = both_says (S.of (cut line).0) (cut line).1 (λ q. F.of q.1 >>= λ b. Some (q.0, b)) p e in
    let others = bind_says (F.of (cut line).1) (λ b. Some (word.0, b)) p word.2 in
    let kept = more.keeps (cut line).1 others.0 others.1 in (
      fault.fit F.slots line ∙ kept.0,
      fault.lowest F.slots line ∙ both_none (broken next S.slot (cut line).0) (lowest_broken next F.slots (cut line).1) (fault.keeps (cut line).0 word.0 word.1) kept.1,
    )

pub then_fault : {A B : Type 0} (next : ℕ) (S : Spelling A) (F : Form B) → WordFault next S → Faulty next F → Faulty next (S · F)
then_fault next S F fault more = record { broke = then_broke next S F fault more; keeps = then_keeps next S F fault more }

-- the forms of lines

module _ (next : ℕ) where
  number_then : {B : Type 0} (bits : ℕ) (F : Form B) → bits ≤ 128 → Faulty next F → Faulty next (number bits · F)
  number_then bits F h more = then_fault next (number bits) F (number_fault next bits h) more

  reference_then : {B : Type 0} (F : Form B) → Faulty next F → Faulty next (reference · F)
  reference_then F more = then_fault next reference F (reference_fault next) more

  pointer_then : {B : Type 0} (F : Form B) → Faulty next F → Faulty next (pointer · F)
  pointer_then F more = then_fault next pointer F (pointer_fault next) more

  word_then : {B : Type 0} (F : Form B) → Faulty next F → Faulty next (word · F)
  word_then F more = then_fault next word F (word_fault next) more

  one_reference : Faulty next (reference · nothing)
  one_reference = reference_then nothing (nothing_fault next)

  one_name : Faulty next (rest name)
  one_name = name_fault next

  pub param_fault : Faulty next param_form
  param_fault = word_then _ one_reference

  pub field_fault : Faulty next field_form
  field_fault = word_then _ (number_then 32 _ (lit≤ tt) one_reference)

  pub case_fault : Faulty next case_form
  case_fault = word_then _ (number_then 64 _ (lit≤ tt) (nothing_fault next))

  pub tag_fault : Faulty next tag_form
  tag_fault = number_then 32 _ (lit≤ tt) (then_fault next primitive nothing (primitive_fault next) (nothing_fault next))

  pub static_fault : Faulty next static_form
  static_fault = then_fault next address _ (address_fault next) (reference_then _ one_name)

  pub sized_fault : Faulty next sized_form
  sized_fault = number_then 32 _ (lit≤ tt) (number_then 32 _ (lit≤ tt) one_name)

  pub array_fault : Faulty next array_form
  array_fault = number_then 64 _ (lit≤ tt) one_reference

  pub thin_fault : Faulty next thin_form
  thin_fault = pointer_then _ one_reference

  pub fat_fault : Faulty next fat_form
  fat_fault = pointer_then _ (reference_then _ one_name)

  pub dyn_fault : Faulty next dyn_form
  dyn_fault = pointer_then _ (reference_then _ (reference_then _ one_name))

  pub clike_fault : Faulty next clike_form
  clike_fault = then_fault next primitive _ (primitive_fault next) one_name

  pub exact_fault : Faulty next exact_form
  exact_fault = number_then 128 _ (lit≤ tt) (nothing_fault next)

  pub span_fault : Faulty next span_form
  span_fault = number_then 128 _ (lit≤ tt) (number_then 128 _ (lit≤ tt) (nothing_fault next))

  pub func_fault : Faulty next func_form
  func_fault = then_fault next frame _ (frame_fault next) one_name

  pub scope_fault : Faulty next scope_form
  scope_fault = number_then 32 _ (lit≤ tt) (zones_fault next)

  pub reg_fault : Faulty next reg_form
  reg_fault = then_fault next register nothing (register_fault next) (nothing_fault next)

  pub mem_fault : Faulty next mem_form
  mem_fault = then_fault next register _ (register_fault next) (then_fault next signed nothing (signed_fault next) (nothing_fault next))

  pub fixed_fault : Faulty next fixed_form
  fixed_fault = then_fault next hex nothing (hex_fault next) (nothing_fault next)

  pub value_fault : Faulty next value_form
  value_fault = then_fault next digits nothing (digits_fault next) (nothing_fault next)

  pub count_fault : Faulty next count_form
  count_fault = number_then 32 _ (lit≤ tt) (nothing_fault next)
