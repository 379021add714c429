-- The rule that is found at a place is the lowest that the text breaks there.
use Rattle.std.proofs.Common.{◌≡◌, ◌≢◌, ◌∙◌, sym, ap, subst, refl, ℕ, ℤ, zero, suc, ◌<◌, ◌≤◌, ◌^◌, min, ◌==◌, Bool, true, false, cond, List, [], ◌∷◌, ◌++◌, length, drop, append-nil, Contains, slice_index_or, ◌⊎◌, inl, inr, ⊎_elim, Option, Some, None, FitsSigned, codes, w64, arith, lit≤}
use Rattle.std.proofs.lemmas.Bool.{cases_lt, eqb-true}
use Rattle.std.proofs.lemmas.Option.{same_Some}
use Rattle.std.proofs.lemmas.Slice.Eq.{bytes_eq-Decides}
use Rattle.std.specs.Fmt.{decimal, signed_decimal}
use Rattle.std.specs.Option.{option_map}
use Rattle.std.specs.Str.{bytes_eq}
use Rattle.readers.specs.Lines.{Lacks}
use Rattle.snapshot_file.specs.Registers.{reg_of}
use Rattle.expr_eval.specs.declared.operation.Op.{Op}
use Rattle.expr_eval.specs.declared.operation.Op.TheVariants as ops
use Rattle.layout_words.specs.declared.kinds.NumberedOp.{NumberedOp}
use Rattle.layout_words.specs.declared.kinds.NumberedOp.TheVariants as numbered
use Rattle.layout_words.specs.declared.slot.Slot.{Slot}
use Rattle.layout_words.specs.declared.slot.Slot.TheVariants as slots
use Rattle.layout_words.specs.Kinds.{primitive_of, numbered_word, numbered_of, plain_of}
use Rattle.layout_words.specs.Spellings.{Spelling, ◌>>=◌, number, number_of, address, begins_with, pointer, primitive, word, name}
use Rattle.layout_words.specs.PlaceSpellings.{register, frame, hex, signed, signed_of, digits, cut_at, zone, operation, op_of, op_by, numbered_op}
use Rattle.layout_words.specs.Forms.{words, words_text, operations_of, AreOperations}
use Rattle.layout_rules.specs.Faults.{IsItem, operand_bits, BreaksOperation, no_operation, no_operand, no_sum, unknown_register, no_offset, BreaksItem, other_version, no_type_number, other_type_number, no_number, no_address, no_numbered_type, no_named_type, no_pointer, no_primitive, no_word, no_name, no_frame, no_register, no_signed, no_hex, no_digits, no_zone, operation_breaks, no_expression, IsLowest}
use Rattle.layout_rules.specs.LineRules.{unless, not_next, lower, lowest_of, broken_sum, broken_number, broken_op_by, broken_op, broken_zone, broken}
use Rattle.layout_words.proofs.Decimals.{number_some, number_says}
use Rattle.layout_words.proofs.SignedNumbers.{signed_says, signed_some}
use Rattle.layout_words.proofs.Lacking.{is_free, free_lacks, lacks_nil, lacks_cons}
use Rattle.layout_words.proofs.Separators.{cut_front, cut_whole, cut_joins, after}
use Rattle.layout_words.proofs.PlaceWords.{numbered_says}
use Rattle.layout_words.proofs.ItemLaws.{Law, map_says, number_law, address_law, begun, pointer_law, primitive_law, word_law, name_law}
use Rattle.layout_words.proofs.PlaceLaws.{register_law, frame_law, hex_law, signed_law, digits_law, zone_law}
use Rattle.layout_words.proofs.OpLaws.{operation_law}
use Rattle.layout_words.proofs.WordLists.{operations_law}

-- what is found of the rules that are broken: that none is, or the lowest of them
abbrev pub Finds : (ℕ → Type 0) → Option ℕ → Type 0
Finds Broken None = (rule : ℕ) → ¬ Broken rule
Finds Broken (Some rule) = IsLowest Broken rule

-- the same is found of rules that are broken together
pub finds_same : (P Q : ℕ → Type 0) (o : Option ℕ) → ((rule : ℕ) → P rule → Q rule) → ((rule : ℕ) → Q rule → P rule) → Finds P o → Finds Q o
finds_same P Q None to from h = λ r q. h r (from r q)
finds_same P Q (Some n) to from h = (to n h.0, λ r q. h.1 r (from r q))

finds_least : (P Q : ℕ → Type 0) (m n : ℕ) → IsLowest P m → IsLowest Q n → (m < n) ⊎ (n ≤ m) → IsLowest (λ r. P r ⊎ Q r) (min m n)
finds_least P Q m n h k (inl l) =
    let is : m ≡ min m n = omega arith in
    subst (IsLowest (λ r. P r ⊎ Q r)) is (inl h.0, λ r d. ⊎_elim (h.1 r) (λ (q : Q r). let below : n ≤ r = k.1 r q in let past : m ≤ r = omega arith in past) d)
finds_least P Q m n h k (inr l) =
    let is : n ≡ min m n = omega arith in
    subst (IsLowest (λ r. P r ⊎ Q r)) is (inr k.0, λ r d. ⊎_elim (λ (p : P r). let below : m ≤ r = h.1 r p in let past : n ≤ r = omega arith in past) (k.1 r) d)

-- the lower of two is the lowest of both
pub finds_lower : (P Q : ℕ → Type 0) (a b : Option ℕ) → Finds P a → Finds Q b → Finds (λ r. P r ⊎ Q r) (lower a b)
finds_lower P Q None None h k = λ r d. ⊎_elim (h r) (k r) d
finds_lower P Q None (Some n) h k = (inr k.0, λ r d. ⊎_elim (λ (p : P r). absurd (h r p)) (k.1 r) d)
finds_lower P Q (Some m) None h k = (inl h.0, λ r d. ⊎_elim (h.1 r) (λ (q : Q r). absurd (k r q)) d)
finds_lower P Q (Some m) (Some n) h k = finds_least P Q m n h k (cases_lt m n)

finds_unless : {A : Type 0} (N : Type 0) (rule : ℕ) (o : Option A) → (o ≡ None → N) → ((a : A) → o ≡ Some a → N → ⊥) → Finds (λ r. N × (r ≡ rule)) (unless rule o)
finds_unless N rule None h k = ((h refl, refl), λ r d. let is = d.1 in omega (arith, is))
finds_unless N rule (Some a) h k = λ r d. k a refl d.0

finds_test : (N : Type 0) (rule : ℕ) (t : Bool) → (t ≡ true → N → ⊥) → (t ≡ false → N) → Finds (λ r. N × (r ≡ rule)) (cond t None (Some rule))
finds_test N rule true h k = λ r d. h refl d.0
finds_test N rule false h k = ((k refl, refl), λ r d. let is = d.1 in omega (arith, is))

-- items

-- a text that is read as none has no item
not_item : {A : Type 0} (S : Spelling A) → Law S → (text : List ℕ) → S.of text ≡ None → ¬ IsItem S text
not_item S law text e i =
    let read = ap S.of i.1.1 ∙ law.some i.0 i.1.0 in
    let no : None ≡ Some i.0 = sym e ∙ read in
    cc

an_item : {A : Type 0} (S : Spelling A) → Law S → (text : List ℕ) (a : A) → S.of text ≡ Some a → IsItem S text
an_item S law text a e = let known = law.says text a e in (a, (known.1, known.0))

-- the rule is broken where the text is none of the items
item_finds : {A : Type 0} (S : Spelling A) → Law S → (rule : ℕ) (text : List ℕ) → Finds (λ r. (¬ IsItem S text) × (r ≡ rule)) (unless rule (S.of text))
item_finds S law rule text = finds_unless (¬ IsItem S text) rule (S.of text) (not_item S law text) (λ a e n. n (an_item S law text a e))

-- operations

-- each kind is known by its word, in which stands no colon
kind_found : (kind : NumberedOp) → (numbered_of (numbered_word kind) ≡ Some kind) × (is_free 58 (numbered_word kind) ≡ true)
kind_found numbered.Const = (refl, refl)
kind_found numbered.Deref = (refl, refl)
kind_found numbered.Pick = (refl, refl)
kind_found numbered.Plus = (refl, refl)
kind_found numbered.Reg = (refl, refl)

cut_kind : (kind : NumberedOp) (t : List ℕ) → cut_at 58 (numbered_word kind ++ 58 ∷ t) ≡ (numbered_word kind, Some t)
cut_kind kind t = cut_front 58 (numbered_word kind) t (free_lacks 58 (numbered_word kind) (kind_found kind).1)

same_kind : (kind other : NumberedOp) (t u : List ℕ) → numbered_word kind ++ 58 ∷ t ≡ numbered_word other ++ 58 ∷ u → (kind ≡ other) × (t ≡ u)
same_kind kind other t u e =
    let p = sym (cut_kind kind t) ∙ ap (cut_at 58) e ∙ cut_kind other u in
    (same_Some kind other (sym (kind_found kind).0 ∙ ap (λ x. numbered_of x.0) p ∙ (kind_found other).0), same_Some t u (ap (λ x. x.1) p))

-- what stands before the first separator lacks it
abbrev onto : ℕ → List ℕ × Option (List ℕ) → List ℕ × Option (List ℕ)
onto b p = (b ∷ p.0, p.1)

front_cons : (c b : ℕ) (text : List ℕ) → Lacks c (cut_at c text).0 → (t : Bool) → (b == c) ≡ t → Lacks c (cond t ([], Some text) (onto b (cut_at c text))).0
front_cons c b text h true e = lacks_nil c
front_cons c b text h false e = lacks_cons c b (cut_at c text).0 (λ is. grind (arith, e, is)) h

front_lacks : (c : ℕ) (text : List ℕ) → Lacks c (cut_at c text).0
front_lacks c [] = lacks_nil c
front_lacks c (b ∷ text) = front_cons c b text (front_lacks c text) (b == c) refl

one_part : (text front : List ℕ) → cut_at 58 text ≡ (front, None) → (text ≡ front) × Lacks 58 front
one_part text front e = (cut_joins 58 text ∙ ap (λ p. p.0 ++ after 58 p.1) e ∙ append-nil front, subst (λ p. Lacks 58 p.0) e (front_lacks 58 text))

two_parts : (text front back : List ℕ) → cut_at 58 text ≡ (front, Some back) → (text ≡ front ++ 58 ∷ back) × Lacks 58 front
two_parts text front back e = (cut_joins 58 text ∙ ap (λ p. p.0 ++ after 58 p.1) e, subst (λ p. Lacks 58 p.0) e (front_lacks 58 text))

-- a text that begins with no word of an operation with a number, and a colon
abbrev HasNoKind : List ℕ → Type 0
HasNoKind text = (kind : NumberedOp) (operand : List ℕ) → text ≢ numbered_word kind ++ 58 ∷ operand

unknown_low : (text : List ℕ) → HasNoKind text → (r : ℕ) → BreaksOperation text r → 7 ≤ r
unknown_low text none _ (no_operation item kinds) = lit≤ tt
unknown_low text none _ (no_operand kind operand other is item) = absurd (none kind operand is)
unknown_low text none _ (no_sum sum is lacks) = absurd (none numbered.Reg sum is)
unknown_low text none _ (unknown_register reg offset is lacks item) = absurd (none numbered.Reg (reg ++ 58 ∷ offset) is)
unknown_low text none _ (no_offset reg offset is lacks item) = absurd (none numbered.Reg (reg ++ 58 ∷ offset) is)

unknown_finds : (text : List ℕ) → HasNoKind text → op_of text ≡ None → IsLowest (BreaksOperation text) 7
unknown_finds text none e = (no_operation (not_item operation operation_law.law text e) none, unknown_low text none)

plain_sound : (text : List ℕ) → HasNoKind text → IsItem operation text → (r : ℕ) → ¬ BreaksOperation text r
plain_sound text none is _ (no_operation item kinds) = item is
plain_sound text none is _ (no_operand kind operand other e item) = none kind operand e
plain_sound text none is _ (no_sum sum e lacks) = none numbered.Reg sum e
plain_sound text none is _ (unknown_register reg offset e lacks item) = none numbered.Reg (reg ++ 58 ∷ offset) e
plain_sound text none is _ (no_offset reg offset e lacks item) = none numbered.Reg (reg ++ 58 ∷ offset) e

-- an operation without a colon

no_colon : (text front : List ℕ) → cut_at 58 text ≡ (front, None) → HasNoKind text
no_colon text front e kind operand is =
    let no : None ≡ Some operand = ap (λ p. p.1) (sym e ∙ ap (cut_at 58) is ∙ cut_kind kind operand) in
    cc

op_plain : (text front : List ℕ) → cut_at 58 text ≡ (front, None) → op_of text ≡ plain_of front
unfolding op_of
op_plain text front e = ap (λ p. op_by p.0 p.1) e

plain_finds : (text front : List ℕ) (o : Option Op) → cut_at 58 text ≡ (front, None) → plain_of front ≡ o → Finds (BreaksOperation text) (unless 7 o)
plain_finds text front None e is = unknown_finds text (no_colon text front e) (op_plain text front e ∙ is)
plain_finds text front (Some op) e is = plain_sound text (no_colon text front e) (an_item operation operation_law.law text op (op_plain text front e ∙ is))

-- an operation with a number of no sign

operand_shape : (text : List ℕ) (kind : NumberedOp) (t : List ℕ) → kind ≢ numbered.Reg → text ≡ numbered_word kind ++ 58 ∷ t
    → (r : ℕ) → BreaksOperation text r → (¬ IsItem (number (operand_bits kind)) t) × (r ≡ 4)
operand_shape text kind t not_reg is _ (no_operation item kinds) = absurd (kinds kind t is)
operand_shape text kind t not_reg is _ (no_operand other u also e item) =
    let same = same_kind other kind u t (sym e ∙ is) in
    (subst (λ k. ¬ IsItem (number (operand_bits k)) t) same.0 (subst (λ v. ¬ IsItem (number (operand_bits other)) v) same.1 item), refl)
operand_shape text kind t not_reg is _ (no_sum sum e lacks) = absurd (not_reg (same_kind kind numbered.Reg t sum (sym is ∙ e)).0)
operand_shape text kind t not_reg is _ (unknown_register reg offset e lacks item) = absurd (not_reg (same_kind kind numbered.Reg t (reg ++ 58 ∷ offset) (sym is ∙ e)).0)
operand_shape text kind t not_reg is _ (no_offset reg offset e lacks item) = absurd (not_reg (same_kind kind numbered.Reg t (reg ++ 58 ∷ offset) (sym is ∙ e)).0)

map_none : {A B : Type 0} (f : A → B) (o : Option A) → option_map f o ≡ None → o ≡ None
map_none f None e = refl
map_none f (Some a) e = absurd (cc)

operand_finds : (text : List ℕ) (kind : NumberedOp) (f : ℕ → Op) (t : List ℕ) → kind ≢ numbered.Reg → operand_bits kind ≤ 128 → text ≡ numbered_word kind ++ 58 ∷ t
    → Finds (BreaksOperation text) (unless 4 (option_map f (number_of (operand_bits kind) t)))
operand_finds text kind f t not_reg few is =
    let bits = operand_bits kind in
    let law = (number_law bits few).law in
    finds_same (λ r. (¬ IsItem (number bits) t) × (r ≡ 4)) (BreaksOperation text) (unless 4 (option_map f (number_of bits t)))
    (λ r d. subst (BreaksOperation text) (sym d.1) (no_operand kind t not_reg is d.0))
    (operand_shape text kind t not_reg is)
    (finds_unless (¬ IsItem (number bits) t) 4 (option_map f (number_of bits t))
    (λ e. not_item (number bits) law t (map_none f (number_of bits t) e))
    (λ op e n. let found = map_says f (number_of bits t) op e in n (an_item (number bits) law t found.0 found.1)))

-- the sum of a register and a number

abbrev IsNoOffset : List ℕ → Type 0
IsNoOffset text = (n : ℤ) → FitsSigned w64 n → text ≢ signed_decimal n

no_offset_read : (text : List ℕ) → signed_of 63 text ≡ None → IsNoOffset text
no_offset_read text e n fits is =
    let no : None ≡ Some n = sym e ∙ ap (signed_of 63) is ∙ signed_some 63 n (lit≤ tt) fits.sfits in
    cc

offset_finds : (text : List ℕ) → Finds (λ r. IsNoOffset text × (r ≡ 4)) (unless 4 (signed_of 63 text))
offset_finds text = finds_unless (IsNoOffset text) 4 (signed_of 63 text) (no_offset_read text) (λ z e none. let known = signed_says 63 text z e in none z (record { sfits = known.1 }) known.0)

-- a sum is what stands behind `reg:`
sum_is : (text t u : List ℕ) → text ≡ codes "reg:" ++ t → text ≡ codes "reg:" ++ u → t ≡ u
sum_is text t u is e = (same_kind numbered.Reg numbered.Reg t u (sym is ∙ e)).1

no_parts : (t reg offset : List ℕ) → cut_at 58 t ≡ (t, None) → Lacks 58 reg → t ≡ reg ++ 58 ∷ offset → ⊥
no_parts t reg offset e lacks is =
    let no : None ≡ Some offset = ap (λ p. p.1) (sym e ∙ ap (cut_at 58) is ∙ cut_front 58 reg offset lacks) in
    cc

sum_low : (text t : List ℕ) → text ≡ codes "reg:" ++ t → Lacks 58 t → (r : ℕ) → BreaksOperation text r → 7 ≤ r
sum_low text t is lacks _ (no_operation item kinds) = absurd (kinds numbered.Reg t is)
sum_low text t is lacks _ (no_operand kind operand not_reg e item) = absurd (not_reg (same_kind kind numbered.Reg operand t (sym e ∙ is)).0)
sum_low text t is lacks _ (no_sum sum e also) = lit≤ tt
sum_low text t is lacks _ (unknown_register reg offset e also item) = lit≤ tt
sum_low text t is lacks _ (no_offset reg offset e also item) = absurd (no_parts t reg offset (cut_whole 58 t lacks) also (sum_is text t (reg ++ 58 ∷ offset) is e))

-- the parts of a sum are at fault
abbrev IsSumFault : List ℕ → List ℕ → ℕ → Type 0
IsSumFault reg offset r = ((¬ IsItem register reg) × (r ≡ 7)) ⊎ (IsNoOffset offset × (r ≡ 4))

same_parts : (text t reg offset other more : List ℕ) → text ≡ codes "reg:" ++ t → cut_at 58 t ≡ (reg, Some offset)
    → text ≡ codes "reg:" ++ (other ++ 58 ∷ more) → Lacks 58 other → (other ≡ reg) × (more ≡ offset)
same_parts text t reg offset other more is e also lacks =
    let p = sym (cut_front 58 other more lacks) ∙ ap (cut_at 58) (sym (sum_is text t (other ++ 58 ∷ more) is also)) ∙ e in
    (ap (λ x. x.0) p, same_Some more offset (ap (λ x. x.1) p))

parts_shape : (text t reg offset : List ℕ) → text ≡ codes "reg:" ++ t → cut_at 58 t ≡ (reg, Some offset) → (r : ℕ) → BreaksOperation text r → IsSumFault reg offset r
parts_shape text t reg offset is e _ (no_operation item kinds) = absurd (kinds numbered.Reg t is)
parts_shape text t reg offset is e _ (no_operand kind operand not_reg also item) = absurd (not_reg (same_kind kind numbered.Reg operand t (sym also ∙ is)).0)
parts_shape text t reg offset is e _ (no_sum sum also lacks) =
    let same = sum_is text t sum is also in
    let no : None ≡ Some offset = ap (λ p. p.1) (sym (cut_whole 58 sum lacks) ∙ ap (cut_at 58) (sym same) ∙ e) in
    absurd (cc)
parts_shape text t reg offset is e _ (unknown_register other more also lacks item) =
    let same = same_parts text t reg offset other more is e also lacks in
    inl (subst (λ w. ¬ IsItem register w) same.0 item, refl)
parts_shape text t reg offset is e _ (no_offset other more also lacks item) =
    let same = same_parts text t reg offset other more is e also lacks in
    inr (subst IsNoOffset same.1 item, refl)

parts_back : (text reg offset : List ℕ) → text ≡ codes "reg:" ++ (reg ++ 58 ∷ offset) → Lacks 58 reg → (r : ℕ) → IsSumFault reg offset r → BreaksOperation text r
parts_back text reg offset is lacks r (inl d) = subst (BreaksOperation text) (sym d.1) (unknown_register reg offset is lacks d.0)
parts_back text reg offset is lacks r (inr d) = subst (BreaksOperation text) (sym d.1) (no_offset reg offset is lacks d.0)

sum_finds : (text t : List ℕ) → text ≡ codes "reg:" ++ t → (p : List ℕ × Option (List ℕ)) → cut_at 58 t ≡ p → Finds (BreaksOperation text) (broken_sum p)
sum_finds text t is (reg, None) e =
    let known = one_part t reg e in
    let lacks = subst (Lacks 58) (sym known.0) known.1 in
    (no_sum t is lacks, sum_low text t is lacks)
sum_finds text t is (reg, Some offset) e =
    let known = two_parts t reg offset e in
    finds_same (IsSumFault reg offset) (BreaksOperation text) (lower (unless 7 (reg_of reg)) (unless 4 (signed_of 63 offset)))
    (parts_back text reg offset (is ∙ ap (λ x. codes "reg:" ++ x) known.0) known.1)
    (parts_shape text t reg offset is e)
    (finds_lower (λ r. (¬ IsItem register reg) × (r ≡ 7)) (λ r. IsNoOffset offset × (r ≡ 4)) (unless 7 (reg_of reg)) (unless 4 (signed_of 63 offset)) (item_finds register register_law.law 7 reg) (offset_finds offset))

-- an operation with a colon

kind_finds : (text : List ℕ) (kind : NumberedOp) (t : List ℕ) → text ≡ numbered_word kind ++ 58 ∷ t → Finds (BreaksOperation text) (broken_number t (Some kind))
kind_finds text numbered.Const t is = operand_finds text numbered.Const (λ n. ops.Const n) t (λ e. cc) (lit≤ tt) is
kind_finds text numbered.Deref t is = operand_finds text numbered.Deref (λ n. ops.Deref n) t (λ e. cc) (lit≤ tt) is
kind_finds text numbered.Pick t is = operand_finds text numbered.Pick (λ n. ops.Pick n) t (λ e. cc) (lit≤ tt) is
kind_finds text numbered.Plus t is = operand_finds text numbered.Plus (λ n. ops.PlusConst n) t (λ e. cc) (lit≤ tt) is
kind_finds text numbered.Reg t is = sum_finds text t is (cut_at 58 t) refl

op_numbered : (text front t : List ℕ) → cut_at 58 text ≡ (front, Some t) → op_of text ≡ (numbered_of front >>= λ kind. numbered_op kind t)
unfolding op_of
op_numbered text front t e = ap (λ p. op_by p.0 p.1) e

no_such_kind : (text front t : List ℕ) → cut_at 58 text ≡ (front, Some t) → numbered_of front ≡ None → HasNoKind text
no_such_kind text front t e none kind operand is =
    let same : front ≡ numbered_word kind = ap (λ p. p.0) (sym e ∙ ap (cut_at 58) is ∙ cut_kind kind operand) in
    let no : None ≡ Some kind = sym none ∙ ap numbered_of same ∙ (kind_found kind).0 in
    cc

colon_finds : (text front t : List ℕ) → cut_at 58 text ≡ (front, Some t) → (o : Option NumberedOp) → numbered_of front ≡ o → Finds (BreaksOperation text) (broken_number t o)
colon_finds text front t e None none =
    unknown_finds text (no_such_kind text front t e none) (op_numbered text front t e ∙ ap (λ o. o >>= λ kind. numbered_op kind t) none)
colon_finds text front t e (Some kind) is =
    let known = two_parts text front t e in
    kind_finds text kind t (known.0 ∙ ap (λ w. w ++ 58 ∷ t) (numbered_says front kind is))

parts_find : (text : List ℕ) (p : List ℕ × Option (List ℕ)) → cut_at 58 text ≡ p → Finds (BreaksOperation text) (broken_op_by p)
parts_find text (front, None) e = plain_finds text front (plain_of front) e refl
parts_find text (front, Some t) e = colon_finds text front t e (numbered_of front) refl

pub operation_finds : (text : List ℕ) → Finds (BreaksOperation text) (broken_op text)
operation_finds text = parts_find text (cut_at 58 text) refl

-- one word of a list

abbrev OneOf : (List ℕ → ℕ → Type 0) → List (List ℕ) → ℕ → Type 0
OneOf B ws r = (w : List ℕ) × (Contains ws w × B w r)

no_member : (w : List ℕ) → Contains [] w → ⊥
no_member w c = let below = c.1 in omega (arith, below)

one_to : (B : List ℕ → ℕ → Type 0) (w : List ℕ) (ws : List (List ℕ)) (r : ℕ) → B w r ⊎ OneOf B ws r → OneOf B (w ∷ ws) r
one_to B w ws r (inl b) = (w, ((zero, (let below : zero < suc (length ws) = omega arith in below), refl), b))
one_to B w ws r (inr d) =
    let c = d.1.0 in
    let within = c.1 in
    (d.0, ((suc c.0, (let below : suc c.0 < suc (length ws) = omega (arith, within) in below), c.2), d.1.1))

one_at : (B : List ℕ → ℕ → Type 0) (w : List ℕ) (ws : List (List ℕ)) (r : ℕ) (x : List ℕ) (k : ℕ) → k < length (w ∷ ws)
    → slice_index_or (w ∷ ws) k x ≡ x → B x r → B w r ⊎ OneOf B ws r
one_at B w ws r x zero l e b = inl (subst (λ z. B z r) (sym e) b)
one_at B w ws r x (suc k) l e b = inr (x, ((k, (let below : k < length ws = omega arith in below), e), b))

one_from : (B : List ℕ → ℕ → Type 0) (w : List ℕ) (ws : List (List ℕ)) (r : ℕ) → OneOf B (w ∷ ws) r → B w r ⊎ OneOf B ws r
one_from B w ws r d = let c = d.1.0 in one_at B w ws r d.0 c.0 c.1 c.2 d.1.1

-- the lowest of each word is the lowest of the list
each_finds : (B : List ℕ → ℕ → Type 0) (rule : List ℕ → Option ℕ) → ((w : List ℕ) → Finds (B w) (rule w)) → (ws : List (List ℕ)) → Finds (OneOf B ws) (lowest_of rule ws)
each_finds B rule h [] = λ r d. no_member d.0 d.1.0
each_finds B rule h (w ∷ ws) =
    finds_same (λ r. B w r ⊎ OneOf B ws r) (OneOf B (w ∷ ws)) (lower (rule w) (lowest_of rule ws)) (one_to B w ws) (one_from B w ws)
    (finds_lower (B w) (OneOf B ws) (rule w) (lowest_of rule ws) (h w) (each_finds B rule h ws))

-- an expression

abbrev IsNoExpression : List ℕ → Type 0
IsNoExpression text = (items : List Op) → AreOperations items → Some text ≢ words_text operation items

not_expression : (text : List ℕ) → operations_of (Some text) ≡ None → IsNoExpression text
not_expression text e items are is =
    let no : None ≡ Some items = sym e ∙ ap operations_of is ∙ operations_law.some items are in
    cc

expression_finds : (text : List ℕ) → Finds (λ r. IsNoExpression text × (r ≡ 7)) (unless 7 (operations_of (Some text)))
expression_finds text =
    finds_unless (IsNoExpression text) 7 (operations_of (Some text)) (not_expression text) (λ items e none. let known = operations_law.says (Some text) items e in none items known.1 known.0)

-- the number of a type

abbrev IsOtherNumber : ℕ → List ℕ → Type 0
IsOtherNumber next text = (n : ℕ) × ((n < 2 ^ 32) × ((text ≡ decimal n) × (n ≢ next)))

abbrev IsNextFault : ℕ → List ℕ → ℕ → Type 0
IsNextFault next text r = ((¬ IsItem (number 32) text) × (r ≡ 4)) ⊎ (IsOtherNumber next text × (r ≡ 5))

no_number_low : (next : ℕ) (text : List ℕ) (r : ℕ) → IsNextFault next text r → 4 ≤ r
no_number_low next text r (inl d) = let is = d.1 in omega (arith, is)
no_number_low next text r (inr d) = let is = d.1 in omega (arith, is)

other_low : (next : ℕ) (text : List ℕ) → IsItem (number 32) text → (r : ℕ) → IsNextFault next text r → 5 ≤ r
other_low next text item r (inl d) = absurd (d.0 item)
other_low next text item r (inr d) = let is = d.1 in omega (arith, is)

next_sound : (next : ℕ) (text : List ℕ) → number_of 32 text ≡ Some next → (r : ℕ) → ¬ IsNextFault next text r
next_sound next text e r (inl d) = d.0 (an_item (number 32) (number_law 32 (lit≤ tt)).law text next e)
next_sound next text e r (inr d) =
    let other = d.0 in
    let read = number_some 32 text other.0 (lit≤ tt) other.1.0 other.1.1.0 in
    other.1.1.1 (same_Some other.0 next (sym read ∙ e))

next_by : (next : ℕ) (text : List ℕ) (n : ℕ) → number_of 32 text ≡ Some n → (t : Bool) → (n == next) ≡ t → Finds (IsNextFault next text) (cond t None (Some 5))
next_by next text n e true is = next_sound next text (e ∙ ap Some (eqb-true n next is))
next_by next text n e false is =
    let known = number_says 32 text n e in
    let other : n ≢ next = λ same. grind (arith, is, same) in
    (inr ((n, (known.0, (known.1, other))), refl), other_low next text (n, (known.0, known.1)))

next_finds : (next : ℕ) (text : List ℕ) (o : Option ℕ) → number_of 32 text ≡ o → Finds (IsNextFault next text) (not_next next o)
next_finds next text None e = (inl (not_item (number 32) (number_law 32 (lit≤ tt)).law text e, refl), no_number_low next text)
next_finds next text (Some n) e = next_by next text n e (n == next) refl

-- a primitive, or the number of a type

abbrev IsReferenceFault : List ℕ → ℕ → Type 0
IsReferenceFault text r = ((t : List ℕ) × ((text ≡ 35 ∷ t) × ((¬ IsItem (number 32) t) × (r ≡ 4)))) ⊎ ((begins_with 35 text ≡ false) × ((¬ IsItem primitive text) × (r ≡ 7)))

hash_from : (text : List ℕ) → begins_with 35 text ≡ true → (r : ℕ) → IsReferenceFault text r → (¬ IsItem (number 32) (drop 1 text)) × (r ≡ 4)
hash_from text e r (inl d) = (subst (λ t. ¬ IsItem (number 32) t) (sym (ap (drop 1) d.1.0)) d.1.1.0, d.1.1.1)
hash_from text e r (inr d) = let no : true ≡ false = sym e ∙ d.0 in absurd (cc)

hash_to : (text : List ℕ) → begins_with 35 text ≡ true → (r : ℕ) → (¬ IsItem (number 32) (drop 1 text)) × (r ≡ 4) → IsReferenceFault text r
hash_to text e r d = inl (drop 1 text, (begun 35 text e, d))

word_from : (text : List ℕ) → begins_with 35 text ≡ false → (r : ℕ) → IsReferenceFault text r → (¬ IsItem primitive text) × (r ≡ 7)
word_from text e r (inl d) = let no : false ≡ true = sym e ∙ ap (begins_with 35) d.1.0 in absurd (cc)
word_from text e r (inr d) = d.1

reference_finds : (text : List ℕ) (t : Bool) → begins_with 35 text ≡ t
    → Finds (IsReferenceFault text) (cond t (unless 4 (number_of 32 (drop 1 text))) (unless 7 (primitive_of text)))
reference_finds text true e =
    finds_same (λ r. (¬ IsItem (number 32) (drop 1 text)) × (r ≡ 4)) (IsReferenceFault text) (unless 4 (number_of 32 (drop 1 text))) (hash_to text e) (hash_from text e)
    (item_finds (number 32) (number_law 32 (lit≤ tt)).law 4 (drop 1 text))
reference_finds text false e =
    finds_same (λ r. (¬ IsItem primitive text) × (r ≡ 7)) (IsReferenceFault text) (unless 7 (primitive_of text)) (λ r d. inr (e, d)) (word_from text e)
    (item_finds primitive primitive_law.law 7 text)

-- each place

-- how a rule is broken at a place
abbrev IsFaultAt : ℕ → Slot → List ℕ → ℕ → Type 0
IsFaultAt next slots.Version text r = (text ≢ codes "1") × (r ≡ 4)
IsFaultAt next slots.Next text r = IsNextFault next text r
IsFaultAt next (slots.Number bits) text r = (¬ IsItem (number (min bits 128)) text) × (r ≡ 4)
IsFaultAt next slots.Address text r = (¬ IsItem address text) × (r ≡ 4)
IsFaultAt next slots.Reference text r = IsReferenceFault text r
IsFaultAt next slots.Pointer text r = (¬ IsItem pointer text) × (r ≡ 7)
IsFaultAt next slots.Primitive text r = (¬ IsItem primitive text) × (r ≡ 7)
IsFaultAt next slots.Kind text r = ⊥
IsFaultAt next slots.Word text r = (¬ IsItem word text) × (r ≡ 6)
IsFaultAt next slots.Name text r = (¬ IsItem name text) × (r ≡ 6)
IsFaultAt next slots.Frame text r = (¬ IsItem frame text) × (r ≡ 7)
IsFaultAt next slots.Register text r = (¬ IsItem register text) × (r ≡ 7)
IsFaultAt next slots.Signed text r = (¬ IsItem signed text) × (r ≡ 4)
IsFaultAt next slots.Hex text r = (¬ IsItem hex text) × (r ≡ 4)
IsFaultAt next slots.Digits text r = (¬ IsItem digits text) × (r ≡ 7)
IsFaultAt next slots.Zones text r = OneOf (λ w q. (¬ IsItem zone w) × (q ≡ 4)) (words text) r
IsFaultAt next slots.Operations text r = OneOf BreaksOperation (words text) r ⊎ (IsNoExpression text × (r ≡ 7))

fault_from : (next : ℕ) (slot : Slot) (text : List ℕ) (r : ℕ) → BreaksItem next slot text r → IsFaultAt next slot text r
fault_from next _ _ _ (other_version n) = (n, refl)
fault_from next _ _ _ (no_type_number n) = inl (n, refl)
fault_from next _ _ _ (other_type_number n l e o) = inr ((n, (l, (e, o))), refl)
fault_from next _ _ _ (no_number bits n) = (n, refl)
fault_from next _ _ _ (no_address n) = (n, refl)
fault_from next _ _ _ (no_numbered_type t e n) = inl (t, (e, (n, refl)))
fault_from next _ _ _ (no_named_type e n) = inr (e, (n, refl))
fault_from next _ _ _ (no_pointer n) = (n, refl)
fault_from next _ _ _ (no_primitive n) = (n, refl)
fault_from next _ _ _ (no_word n) = (n, refl)
fault_from next _ _ _ (no_name n) = (n, refl)
fault_from next _ _ _ (no_frame n) = (n, refl)
fault_from next _ _ _ (no_register n) = (n, refl)
fault_from next _ _ _ (no_signed n) = (n, refl)
fault_from next _ _ _ (no_hex n) = (n, refl)
fault_from next _ _ _ (no_digits n) = (n, refl)
fault_from next _ _ _ (no_zone w c n) = (w, (c, (n, refl)))
fault_from next _ _ _ (operation_breaks w c b) = inl (w, (c, b))
fault_from next _ _ _ (no_expression n) = inr (n, refl)

-- at the rule that it is
moved : (next : ℕ) (slot : Slot) (text : List ℕ) (r rule : ℕ) → r ≡ rule → BreaksItem next slot text rule → BreaksItem next slot text r
moved next slot text r rule e b = subst (BreaksItem next slot text) (sym e) b

next_to : (next : ℕ) (text : List ℕ) (r : ℕ) → IsNextFault next text r → BreaksItem next slots.Next text r
next_to next text r (inl d) = moved next slots.Next text r 4 d.1 (no_type_number d.0)
next_to next text r (inr d) = moved next slots.Next text r 5 d.1 (other_type_number d.0.0 d.0.1.0 d.0.1.1.0 d.0.1.1.1)

reference_to : (next : ℕ) (text : List ℕ) (r : ℕ) → IsReferenceFault text r → BreaksItem next slots.Reference text r
reference_to next text r (inl d) = moved next slots.Reference text r 4 d.1.1.1 (no_numbered_type d.0 d.1.0 d.1.1.0)
reference_to next text r (inr d) = moved next slots.Reference text r 7 d.1.1 (no_named_type d.0 d.1.0)

operations_to : (next : ℕ) (text : List ℕ) (r : ℕ) → OneOf BreaksOperation (words text) r ⊎ (IsNoExpression text × (r ≡ 7)) → BreaksItem next slots.Operations text r
operations_to next text r (inl d) = operation_breaks d.0 d.1.0 d.1.1
operations_to next text r (inr d) = moved next slots.Operations text r 7 d.1 (no_expression d.0)

fault_to : (next : ℕ) (slot : Slot) (text : List ℕ) (r : ℕ) → IsFaultAt next slot text r → BreaksItem next slot text r
fault_to next slots.Version text r d = moved next slots.Version text r 4 d.1 (other_version d.0)
fault_to next slots.Next text r d = next_to next text r d
fault_to next (slots.Number bits) text r d = moved next (slots.Number bits) text r 4 d.1 (no_number bits d.0)
fault_to next slots.Address text r d = moved next slots.Address text r 4 d.1 (no_address d.0)
fault_to next slots.Reference text r d = reference_to next text r d
fault_to next slots.Pointer text r d = moved next slots.Pointer text r 7 d.1 (no_pointer d.0)
fault_to next slots.Primitive text r d = moved next slots.Primitive text r 7 d.1 (no_primitive d.0)
fault_to next slots.Kind text r d = absurd d
fault_to next slots.Word text r d = moved next slots.Word text r 6 d.1 (no_word d.0)
fault_to next slots.Name text r d = moved next slots.Name text r 6 d.1 (no_name d.0)
fault_to next slots.Frame text r d = moved next slots.Frame text r 7 d.1 (no_frame d.0)
fault_to next slots.Register text r d = moved next slots.Register text r 7 d.1 (no_register d.0)
fault_to next slots.Signed text r d = moved next slots.Signed text r 4 d.1 (no_signed d.0)
fault_to next slots.Hex text r d = moved next slots.Hex text r 4 d.1 (no_hex d.0)
fault_to next slots.Digits text r d = moved next slots.Digits text r 7 d.1 (no_digits d.0)
fault_to next slots.Zones text r d = moved next slots.Zones text r 4 d.1.1.1 (no_zone d.0 d.1.0 d.1.1.0)
fault_to next slots.Operations text r d = operations_to next text r d

version_none : (text : List ℕ) → bytes_eq text (codes "1") ≡ false → text ≢ codes "1"
version_none text e is = let no : false ≡ true = sym e ∙ (bytes_eq-Decides text (codes "1")).1 is in cc

at_most_128 : (bits : ℕ) → min bits 128 ≤ 128
at_most_128 bits = omega arith

fault_finds : (next : ℕ) (slot : Slot) (text : List ℕ) → Finds (IsFaultAt next slot text) (broken next slot text)
fault_finds next slots.Version text = finds_test (text ≢ codes "1") 4 (bytes_eq text (codes "1")) (λ e n. n ((bytes_eq-Decides text (codes "1")).0 e)) (version_none text)
fault_finds next slots.Next text = next_finds next text (number_of 32 text) refl
fault_finds next (slots.Number bits) text = item_finds (number (min bits 128)) (number_law (min bits 128) (at_most_128 bits)).law 4 text
fault_finds next slots.Address text = item_finds address address_law.law 4 text
fault_finds next slots.Reference text = reference_finds text (begins_with 35 text) refl
fault_finds next slots.Pointer text = item_finds pointer pointer_law.law 7 text
fault_finds next slots.Primitive text = item_finds primitive primitive_law.law 7 text
fault_finds next slots.Kind text = λ r d. d
fault_finds next slots.Word text = item_finds word word_law.law 6 text
fault_finds next slots.Name text = item_finds name name_law 6 text
fault_finds next slots.Frame text = item_finds frame frame_law.law 7 text
fault_finds next slots.Register text = item_finds register register_law.law 7 text
fault_finds next slots.Signed text = item_finds signed signed_law.law 4 text
fault_finds next slots.Hex text = item_finds hex hex_law.law 4 text
fault_finds next slots.Digits text = item_finds digits digits_law.law 7 text
fault_finds next slots.Zones text = each_finds (λ w r. (¬ IsItem zone w) × (r ≡ 4)) broken_zone (item_finds zone zone_law.law 4) (words text)
fault_finds next slots.Operations text =
    finds_lower (OneOf BreaksOperation (words text)) (λ r. IsNoExpression text × (r ≡ 7)) (lowest_of broken_op (words text)) (unless 7 (operations_of (Some text)))
    (each_finds BreaksOperation broken_op operation_finds (words text)) (expression_finds text)

-- the rule that is found at a place is the lowest that is broken there
pub item_finds_lowest : (next : ℕ) (slot : Slot) (text : List ℕ) → Finds (BreaksItem next slot text) (broken next slot text)
item_finds_lowest next slot text = finds_same (IsFaultAt next slot text) (BreaksItem next slot text) (broken next slot text) (fault_to next slot text) (fault_from next slot text) (fault_finds next slot text)
