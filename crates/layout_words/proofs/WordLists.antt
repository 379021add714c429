-- What is left of a line is read as a list of items, one for each word.
use Rattle.std.proofs.Common.{◌≡◌, ◌∙◌, sym, ap, subst, refl, ℕ, ◌&&◌, Bool, true, false, cond, nat_lt, nat_le, ◌==◌, List, [], ◌∷◌, ◌++◌, length, flat_map, append_assoc, Option, Some, None}
use Rattle.std.proofs.lemmas.Bool.{lt-ltb, ltb-true, le-leb, leb-true}
use Rattle.std.proofs.lemmas.List.Elements.{All-nil, All-cons, All-head, All-tail}
use Rattle.std.proofs.lemmas.Option.{same_Some, cond_some}
use Rattle.std.specs.List.{All}
use Rattle.std.specs.Option.{option_map}
use Rattle.std.specs.Borrow.{Bor}
use Rattle.readers.proofs.HexWords.{both}
use Rattle.expr_eval.specs.declared.operation.Op.{Op}
use Rattle.expr_eval.specs.Invariant.{each_sound, value_is_last, fits, height_after, AreOps}
use Rattle.layout_words.specs.Spellings.{Spelling, ◌>>=◌}
use Rattle.layout_words.specs.PlaceSpellings.{operation}
use Rattle.layout_words.specs.Forms.{Left, cut, cons_word, behind, words, cons_first, left_words, each_of, words_text, many, are_ops, operations_of, AreOperations, operations}
use Rattle.layout_words.specs.Steps.{lent}
use Rattle.layout_words.proofs.Cuts.{cut_joins, cut_behind}
use Rattle.layout_words.proofs.ItemLaws.{WordLaw, cond_true}
use Rattle.layout_words.proofs.FormLaws.{FormLaw, bind_says}
use Rattle.layout_words.proofs.OpLaws.{operation_law}

words_by : (c : ℕ) (line : List ℕ) → words line ≡ (cut line).0 ∷ left_words (cut line).1 → (t : Bool) → (c == 32) ≡ t
    → cond t ([] ∷ words line) (cons_first c (words line)) ≡ (cond t ([], Some line) (cons_word c (cut line))).0 ∷ left_words (cond t ([], Some line) (cons_word c (cut line))).1
words_by c line h true e = refl
words_by c line h false e = ap (cons_first c) h

-- the words of a line are its first and those of what is left
pub words_are : (line : List ℕ) → words line ≡ (cut line).0 ∷ left_words (cut line).1
unfolding words cut
words_are [] = refl
words_are (c ∷ line) = words_by c line (words_are line) (c == 32) refl

-- a word more
pub each_more : {A : Type 0} (S : Spelling A) (line : List ℕ) → each_of S (left_words (Some line)) ≡ (S.of (cut line).0 >>= λ a. each_of S (left_words (cut line).1) >>= λ items. Some (a ∷ items))
each_more S line = ap (each_of S) (words_are line)

-- the items have the text, and are such items
abbrev AreOf : {A : Type 0} → Spelling A → Left → List A → Type 0
AreOf S left items = (left ≡ words_text S items) × All S.Is items

module _ {A : Type 0} (S : Spelling A) (law : WordLaw S) where
  each_says : (ws : List (List ℕ)) (left : Left) (items : List A) → left_words left ≡ ws → each_of S ws ≡ Some items → AreOf S left items
  each_says [] None items w e = subst (AreOf S None) (same_Some [] items e) (refl, All-nil S.Is)
  each_says [] (Some line) items w e = let no = sym (words_are line) ∙ w in absurd (cc)
  each_says (word ∷ ws) None items w e = absurd (cc)
  each_says (word ∷ ws) (Some line) items w e =
      let parts = sym (words_are line) ∙ w in
      let first : (cut line).0 ≡ word = cc in
      let more : left_words (cut line).1 ≡ ws = cc in
      let found = bind_says (S.of word) (λ a. each_of S ws >>= λ more. Some (a ∷ more)) items e in
      let rest = bind_says (each_of S ws) (λ more. Some (found.0 ∷ more)) items found.2 in
      let item = law.law.says word found.0 found.1 in
      let others = each_says ws (cut line).1 rest.0 more rest.1 in
      subst (AreOf S (Some line)) (same_Some (found.0 ∷ rest.0) items rest.2) (
        ap (λ l. Some l) (cut_joins line) ∙ ap (λ t. Some (t ++ behind (cut line).1)) (first ∙ item.0) ∙ ap (λ l. Some (S.text found.0 ++ behind l)) others.0,
        All-cons S.Is found.0 rest.0 item.1 others.1,
      )

  pub list_says : (left : Left) (items : List A) → each_of S (left_words left) ≡ Some items → AreOf S left items
  list_says left items e = each_says (left_words left) left items refl e

  pub list_some : (items : List A) → All S.Is items → each_of S (left_words (words_text S items)) ≡ Some items
  list_some [] h = refl
  list_some (a ∷ items) h =
      let left = words_text S items in
      let is = All-head S.Is a items h in
      each_more S (S.text a ++ behind left)
      ∙ ap (λ p. S.of p.0 >>= λ x. each_of S (left_words p.1) >>= λ xs. Some (x ∷ xs)) (cut_behind (S.text a) left (law.lacks a is))
      ∙ ap (λ o. o >>= λ x. each_of S (left_words left) >>= λ xs. Some (x ∷ xs)) (law.law.some a is)
      ∙ ap (λ o. o >>= λ xs. Some (a ∷ xs)) (list_some items (All-tail S.Is a items h))

  pub many_law : FormLaw (many S)
  many_law = record { says = list_says; some = list_some }

-- expressions

are_ops_says : (ops : List Op) → are_ops ops ≡ true → AreOps ops
are_ops_says ops e =
    let leaves = fits 0 ops && nat_lt 0 (height_after 0 ops) in
    let a = both (nat_lt 0 (length ops)) (nat_le (length ops) 64 && (each_sound ops && (value_is_last ops && leaves))) e in
    let b = both (nat_le (length ops) 64) (each_sound ops && (value_is_last ops && leaves)) a.1 in
    let c = both (each_sound ops) (value_is_last ops && leaves) b.1 in
    let d = both (value_is_last ops) leaves c.1 in
    let f = both (fits 0 ops) (nat_lt 0 (height_after 0 ops)) d.1 in
    record {
      some = ltb-true 0 (length ops) a.0;
      few = leb-true (length ops) 64 b.0;
      sound = c.0;
      last = d.0;
      fit = f.0;
      value = ltb-true 0 (height_after 0 ops) f.1;
    }

are_ops_some : (ops : List Op) → AreOps ops → are_ops ops ≡ true
are_ops_some ops h =
    let value = nat_lt 0 (height_after 0 ops) in
    ap (λ t. t && (nat_le (length ops) 64 && (each_sound ops && (value_is_last ops && (fits 0 ops && value))))) (lt-ltb 0 (length ops) h.some)
    ∙ ap (λ t. t && (each_sound ops && (value_is_last ops && (fits 0 ops && value)))) (le-leb (length ops) 64 h.few)
    ∙ ap (λ t. t && (value_is_last ops && (fits 0 ops && value))) h.sound
    ∙ ap (λ t. t && (fits 0 ops && value)) h.last
    ∙ ap (λ t. t && value) h.fit
    ∙ lt-ltb 0 (height_after 0 ops) h.value

-- the list, where it is an expression
abbrev if_ops : List Op → Option (List Op)
if_ops ops = cond (are_ops ops) (Some ops) None

operations_says : (left : Left) (ops : List Op) → operations_of left ≡ Some ops → (left ≡ words_text operation ops) × AreOperations ops
operations_says left ops e =
    let found = bind_says (each_of operation (left_words left)) if_ops ops e in
    let same = cond_some (are_ops found.0) found.0 ops found.2 in
    let known = list_says operation operation_law left found.0 found.1 in
    subst (λ xs. (left ≡ words_text operation xs) × AreOperations xs) same.1 (known.0, (known.1, are_ops_says found.0 same.0))

operations_some : (ops : List Op) → AreOperations ops → operations_of (words_text operation ops) ≡ Some ops
operations_some ops h =
    ap (λ o. o >>= if_ops) (list_some operation operation_law ops h.0)
    ∙ cond_true (are_ops ops) (Some ops) None (are_ops_some ops h.1)

pub operations_law : FormLaw operations
operations_law = record { says = operations_says; some = operations_some }

-- the words of items, each behind a space
pub words_behind : {A : Type 0} (S : Spelling A) (items : List A) → behind (words_text S items) ≡ flat_map (λ a. 32 ∷ S.text a) items
words_behind S [] = refl
words_behind S (a ∷ items) = ap (λ t. 32 ∷ (S.text a ++ t)) (words_behind S items)

-- items that are read word by word, in front of those of the words that are left
abbrev pub onto : {A : Type 0} → List A → Option (List A) → Option (List A)
onto items o = option_map (λ more. items ++ more) o

pub onto_nil : {A : Type 0} (o : Option (List A)) → onto [] o ≡ o
onto_nil None = refl
onto_nil (Some items) = refl

onto_more : {A : Type 0} (items : List A) (a : A) (o : Option (List A)) → onto (items ++ a ∷ []) o ≡ onto items (o >>= λ more. Some (a ∷ more))
onto_more items a None = refl
onto_more items a (Some more) = ap (λ l. Some l) (append_assoc items (a ∷ []) more)

-- a word that is an item is read
pub each_step : {A : Type 0} (S : Spelling A) (items : List A) (line word : List ℕ) (left : Left) (a : A) → cut line ≡ (word, left) → S.of word ≡ Some a
    → onto (items ++ a ∷ []) (each_of S (left_words left)) ≡ onto items (each_of S (left_words (Some line)))
each_step S items line word left a e is =
    onto_more items a (each_of S (left_words left))
    ∙ ap (λ o. onto items (o >>= λ x. each_of S (left_words left) >>= λ more. Some (x ∷ more))) (sym is)
    ∙ ap (λ p. onto items (S.of p.0 >>= λ x. each_of S (left_words p.1) >>= λ more. Some (x ∷ more))) (sym e)
    ∙ ap (onto items) (sym (each_more S line))

-- and one that is none is not
pub each_stop : {A : Type 0} (S : Spelling A) (items : List A) (line word : List ℕ) (left : Left) → cut line ≡ (word, left) → S.of word ≡ None
    → onto items (each_of S (left_words (Some line))) ≡ None
each_stop S items line word left e none =
    ap (onto items) (each_more S line)
    ∙ ap (λ p. onto items (S.of p.0 >>= λ x. each_of S (left_words p.1) >>= λ more. Some (x ∷ more))) e
    ∙ ap (λ o. onto items (o >>= λ x. each_of S (left_words left) >>= λ more. Some (x ∷ more))) none

pub lent_map : (left : Option (Bor (List ℕ))) → option_map (λ b. b.now) left ≡ lent left
lent_map None = refl
lent_map (Some line) = refl
