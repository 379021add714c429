-- A text is read as the operation that has it.
use Rattle.std.proofs.Common.{◌≡◌, ◌∙◌, ap, subst, refl, ℕ, ◌<◌, ◌≤◌, ◌^◌, true, List, ◌∷◌, ◌++◌, append-nil, Option, Some, None, codes, lit≤, lit<}
use Rattle.std.specs.Fmt.{decimal, signed_decimal}
use Rattle.std.specs.Option.{option_map}
use Rattle.snapshot_file.specs.Registers.{name_of, reg_of}
use Rattle.snapshot_file.proofs.RegisterLists.{word_of, named}
use Rattle.expr_eval.specs.declared.operation.Op.{Op}
use Rattle.expr_eval.specs.declared.operation.Op.TheVariants as ops
use Rattle.layout_words.specs.declared.kinds.NumberedOp.{NumberedOp}
use Rattle.layout_words.specs.declared.kinds.NumberedOp.TheVariants as numbered
use Rattle.layout_words.specs.Kinds.{numbered_word, numbered_of, plain_word}
use Rattle.layout_words.specs.Spellings.{◌>>=◌, number_of}
use Rattle.layout_words.specs.PlaceSpellings.{signed_of, cut_at, operation, op_text, op_of, op_by, numbered_op, register_op, IsOp}
use Rattle.layout_words.proofs.Decimals.{number_some, number_says}
use Rattle.layout_words.proofs.Lacking.{free_lacks}
use Rattle.layout_words.proofs.Separators.{cut_front, cut_joins, after}
use Rattle.layout_words.proofs.SignedNumbers.{signed_says, signed_some}
use Rattle.layout_words.proofs.Visible.{IsFrom, is_from, from_test, from_lacks, from_append, from_weaker, from_decimal, from_signed}
use Rattle.layout_words.proofs.PlaceWords.{numbered_says, plain_says, register_clear}
use Rattle.layout_words.proofs.ItemLaws.{WordLaw, map_says}
use Rattle.layout_words.proofs.FormLaws.{bind_says}

-- an operation has the text, and is one
abbrev IsOpOf : List ℕ → Op → Type 0
IsOpOf text op = (text ≡ op_text op) × IsOp op

register_says : (p : List ℕ × Option (List ℕ)) (op : Op) → register_op p ≡ Some op → IsOpOf (codes "reg:" ++ (p.0 ++ after 58 p.1)) op
register_says (name, None) op e = absurd (cc)
register_says (name, Some number) op e =
    let found = bind_says (reg_of name) (λ reg. option_map (λ n. ops.RegPlus reg n) (signed_of 63 number)) op e in
    let more = map_says (λ n. ops.RegPlus found.0 n) (signed_of 63 number) op found.2 in
    let known = signed_says 63 number more.0 more.1 in
    subst (IsOpOf (codes "reg:" ++ (name ++ 58 ∷ number))) more.2
    (ap (λ w. codes "reg:" ++ (w ++ 58 ∷ number)) (word_of name found.0 found.1) ∙ ap (λ d. codes "reg:" ++ (name_of found.0 ++ 58 ∷ d)) known.0, record { sfits = known.1 })

-- an operation that has a number behind its colon
numbered_by : (kind : NumberedOp) (bits : ℕ) (f : ℕ → Op) (text : List ℕ) (op : Op) → ((n : ℕ) → n < 2 ^ bits → IsOpOf (numbered_word kind ++ 58 ∷ decimal n) (f n))
    → option_map f (number_of bits text) ≡ Some op → IsOpOf (numbered_word kind ++ 58 ∷ text) op
numbered_by kind bits f text op h e =
    let found = map_says f (number_of bits text) op e in
    let known = number_says bits text found.0 found.1 in
    let is = h found.0 known.0 in
    subst (IsOpOf (numbered_word kind ++ 58 ∷ text)) found.2 (ap (λ d. numbered_word kind ++ 58 ∷ d) known.1 ∙ is.0, is.1)

numbered_op_says : (kind : NumberedOp) (text : List ℕ) (op : Op) → numbered_op kind text ≡ Some op → IsOpOf (numbered_word kind ++ 58 ∷ text) op
numbered_op_says numbered.Const text op e = numbered_by numbered.Const 64 (λ n. ops.Const n) text op (λ n h. (refl, h)) e
numbered_op_says numbered.Deref text op e = numbered_by numbered.Deref 8 (λ n. ops.Deref n) text op (λ n h. (refl, h)) e
numbered_op_says numbered.Pick text op e = numbered_by numbered.Pick 8 (λ n. ops.Pick n) text op (λ n h. (refl, h)) e
numbered_op_says numbered.Plus text op e = numbered_by numbered.Plus 64 (λ n. ops.PlusConst n) text op (λ n h. (refl, h)) e
numbered_op_says numbered.Reg text op e =
    let known = register_says (cut_at 58 text) op e in
    (ap (λ t. codes "reg:" ++ t) (cut_joins 58 text) ∙ known.0, known.1)

op_by_says : (word : List ℕ) (left : Option (List ℕ)) (op : Op) → op_by word left ≡ Some op → IsOpOf (word ++ after 58 left) op
op_by_says word None op e = let known = plain_says word op e in (append-nil word ∙ known.0, known.1)
op_by_says word (Some text) op e =
    let found = bind_says (numbered_of word) (λ kind. numbered_op kind text) op e in
    let known = numbered_op_says found.0 text op found.2 in
    (ap (λ w. w ++ 58 ∷ text) (numbered_says word found.0 found.1) ∙ known.0, known.1)

op_says : (text : List ℕ) (op : Op) → op_of text ≡ Some op → IsOpOf text op
unfolding op_of
op_says text op e =
    let p = cut_at 58 text in
    let known = op_by_says p.0 p.1 op e in
    (cut_joins 58 text ∙ known.0, known.1)

op_some : (op : Op) → IsOp op → op_of (op_text op) ≡ Some op
unfolding op_of
op_some (ops.Const n) h = ap (option_map (λ n. ops.Const n)) (number_some 64 (decimal n) n (lit≤ tt) h refl)
op_some (ops.Deref n) h = ap (option_map (λ n. ops.Deref n)) (number_some 8 (decimal n) n (lit≤ tt) h refl)
op_some (ops.Pick n) h = ap (option_map (λ n. ops.Pick n)) (number_some 8 (decimal n) n (lit≤ tt) h refl)
op_some (ops.PlusConst n) h = ap (option_map (λ n. ops.PlusConst n)) (number_some 64 (decimal n) n (lit≤ tt) h refl)
op_some (ops.RegPlus reg n) h =
    ap register_op (cut_front 58 (name_of reg) (signed_decimal n) (free_lacks 58 (name_of reg) (register_clear reg).0))
    ∙ ap (λ o. o >>= λ r. option_map (λ n. ops.RegPlus r n) (signed_of 63 (signed_decimal n))) (named reg)
    ∙ ap (option_map (λ n. ops.RegPlus reg n)) (signed_some 63 n (lit≤ tt) h.sfits)
op_some ops.Dup h = refl
op_some ops.Drop h = refl
op_some ops.Over h = refl
op_some ops.Swap h = refl
op_some ops.Rot h = refl
op_some ops.And h = refl
op_some ops.Minus h = refl
op_some ops.Mul h = refl
op_some ops.Neg h = refl
op_some ops.Not h = refl
op_some ops.Or h = refl
op_some ops.Plus h = refl
op_some ops.Shl h = refl
op_some ops.Shr h = refl
op_some ops.Shra h = refl
op_some ops.Xor h = refl
op_some ops.Cfa h = refl
op_some ops.Entry h = refl
op_some ops.StackValue h = refl

-- what stands before a number, and the number
front_visible : (front : List ℕ) (bits n : ℕ) → is_from 45 front ≡ true → bits ≤ 128 → n < 2 ^ bits → IsFrom 45 (front ++ decimal n)
front_visible front bits n e h l = from_append 45 front (decimal n) (from_test 45 front e) (from_weaker 48 45 (decimal n) (lit≤ tt) (from_decimal bits n h l))

pub op_visible : (op : Op) → IsOp op → IsFrom 45 (op_text op)
op_visible (ops.Const n) h = front_visible (codes "const:") 64 n refl (lit≤ tt) h
op_visible (ops.Deref n) h = front_visible (codes "deref:") 8 n refl (lit≤ tt) h
op_visible (ops.Pick n) h = front_visible (codes "pick:") 8 n refl (lit≤ tt) h
op_visible (ops.PlusConst n) h = front_visible (codes "plus:") 64 n refl (lit≤ tt) h
op_visible (ops.RegPlus reg n) h =
    let number = from_append 45 (codes ":") (signed_decimal n) (from_test 45 (codes ":") refl) (from_signed n h.sfits) in
    let name = from_append 45 (name_of reg) (codes ":" ++ signed_decimal n) (from_test 45 (name_of reg) (register_clear reg).1) number in
    from_append 45 (codes "reg:") (name_of reg ++ (codes ":" ++ signed_decimal n)) (from_test 45 (codes "reg:") refl) name
op_visible ops.Dup h = from_test 45 (plain_word ops.Dup) refl
op_visible ops.Drop h = from_test 45 (plain_word ops.Drop) refl
op_visible ops.Over h = from_test 45 (plain_word ops.Over) refl
op_visible ops.Swap h = from_test 45 (plain_word ops.Swap) refl
op_visible ops.Rot h = from_test 45 (plain_word ops.Rot) refl
op_visible ops.And h = from_test 45 (plain_word ops.And) refl
op_visible ops.Minus h = from_test 45 (plain_word ops.Minus) refl
op_visible ops.Mul h = from_test 45 (plain_word ops.Mul) refl
op_visible ops.Neg h = from_test 45 (plain_word ops.Neg) refl
op_visible ops.Not h = from_test 45 (plain_word ops.Not) refl
op_visible ops.Or h = from_test 45 (plain_word ops.Or) refl
op_visible ops.Plus h = from_test 45 (plain_word ops.Plus) refl
op_visible ops.Shl h = from_test 45 (plain_word ops.Shl) refl
op_visible ops.Shr h = from_test 45 (plain_word ops.Shr) refl
op_visible ops.Shra h = from_test 45 (plain_word ops.Shra) refl
op_visible ops.Xor h = from_test 45 (plain_word ops.Xor) refl
op_visible ops.Cfa h = from_test 45 (plain_word ops.Cfa) refl
op_visible ops.Entry h = from_test 45 (plain_word ops.Entry) refl
op_visible ops.StackValue h = from_test 45 (plain_word ops.StackValue) refl

pub operation_law : WordLaw operation
operation_law = record { law = record { says = op_says; some = op_some }; lacks = λ op h. from_lacks 45 32 (op_text op) (lit< tt) (op_visible op h) }
