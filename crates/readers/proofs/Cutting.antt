-- A cut at the first byte of a kind, and the parts of the whole.
use Rattle.std.proofs.Common.{◌≡◌, ◌≢◌, ◌∙◌, sym, ap, subst, refl, ℕ, ◌<◌, length, append_assoc, ◌==◌, Bool, true, false, cond, List, [], ◌∷◌, ◌++◌, Some, None, arith}
use Rattle.std.specs.List.{slice_split, onto_first, All, join_with_byte}
use Rattle.std.proofs.lemmas.List.Elements.{All-weaker, All-nil, All-cons, All-head, All-tail}
use Rattle.std.proofs.lemmas.List.Splits.{slice_split_at, slice_split_none, length-slice_split, join_with_byte-slice_split}
use Rattle.std.proofs.lemmas.Option.{same_Some}
use Rattle.readers.specs.Lines.{Lacks, CutAt, words, lines, with_end, only, two}

other : (c b : ℕ) → b ≢ c → (b == c) ≡ false
other c b h = grind arith

same : (c : ℕ) → (c == c) ≡ true
same c = grind arith

tests : (c : ℕ) (xs : List ℕ) → Lacks c xs → All (λ b. (b == c) ≡ false) xs
tests c xs h = All-weaker (λ b. b ≢ c) (λ b. (b == c) ≡ false) (other c) xs h

-- bytes without `c` are the one part
pub parts_whole : (c : ℕ) (bytes : List ℕ) → Lacks c bytes → slice_split (λ b. b == c) bytes ≡ bytes ∷ []
parts_whole c bytes h = slice_split_none (λ b. b == c) bytes (tests c bytes h)

-- the first part of a cut text is what stands before the cut
pub parts_cut : (c : ℕ) (bytes front back : List ℕ) → CutAt c bytes front back → slice_split (λ b. b == c) bytes ≡ front ∷ slice_split (λ b. b == c) back
parts_cut c bytes front back h = ap (slice_split (λ b. b == c)) h.text ∙ slice_split_at (λ b. b == c) front c back (tests c front h.first) (same c)

-- a line with its end, and the rest, are cut at that end
pub line_cut : (line rest : List ℕ) → Lacks 10 line → lines (with_end line ++ rest) ≡ line ∷ lines rest
line_cut line rest h = parts_cut 10 (with_end line ++ rest) line rest (record { text = append_assoc line (10 ∷ []) rest; first = h })

after_front : (c : ℕ) (f g r s : List ℕ) → f ≡ g → f ++ c ∷ r ≡ g ++ c ∷ s → r ≡ s
after_front c [] [] r s e w = cc
after_front c (x ∷ f) (y ∷ g) r s e w = after_front c f g r s (cc) (cc)
after_front c [] (y ∷ g) r s e w = cc
after_front c (x ∷ f) [] r s e w = cc

-- a text is cut in one way
pub one_cut : (c : ℕ) (bytes f g r s : List ℕ) → CutAt c bytes f r → CutAt c bytes g s → (f ≡ g) × (r ≡ s)
one_cut c bytes f g r s h k =
    let p = parts_cut c bytes f r h in
    let q = parts_cut c bytes g s k in
    let front : f ≡ g = cc in
    let whole : f ++ c ∷ r ≡ g ++ c ∷ s = sym h.text ∙ k.text in
    (front, after_front c f g r s front whole)

more_than_one : (w : List ℕ) (parts rest : List (List ℕ)) → 0 < length rest → parts ≡ w ∷ rest → None ≡ only parts
more_than_one w parts [] h e = absurd (omega arith)
more_than_one w parts (x ∷ rest) h e = sym (ap only e)

pub not_only : (line w rest : List ℕ) → words line ≡ w ∷ words rest → None ≡ only (words line)
not_only line w rest e = more_than_one w (words line) (words rest) (omega (arith, length-slice_split (λ b. b == 32) rest)) e

-- two words with a space between them are the words of the line
pub words_are : (line a b : List ℕ) → line ≡ a ++ 32 ∷ b → Lacks 32 a → Lacks 32 b → words line ≡ a ∷ b ∷ []
words_are line a b e h k = parts_cut 32 line a b (record { text = e; first = h }) ∙ ap (λ ps. a ∷ ps) (parts_whole 32 b k)

onto : (c x : ℕ) (parts : List (List ℕ)) → x ≢ c → All (Lacks c) parts → All (Lacks c) (onto_first x parts)
onto c x [] h k = All-cons (Lacks c) (x ∷ []) [] (All-cons (λ b. b ≢ c) x [] h (All-nil (λ b. b ≢ c))) (All-nil (Lacks c))
onto c x (p ∷ parts) h k = All-cons (Lacks c) (x ∷ p) parts (All-cons (λ b. b ≢ c) x p h (All-head (Lacks c) p parts k)) (All-tail (Lacks c) p parts k)

-- no part has the byte at which the text was cut
pub parts_lack : (c : ℕ) (xs : List ℕ) → All (Lacks c) (slice_split (λ b. b == c) xs)
parts_lack c [] = All-cons (Lacks c) [] [] (All-nil (λ b. b ≢ c)) (All-nil (Lacks c))
parts_lack c (x ∷ xs) =
    let test = x == c in
    let P : Bool → Type 0 = λ b. All (Lacks c) (cond b ([] ∷ slice_split (λ y. y == c) xs) (onto_first x (slice_split (λ y. y == c) xs))) in
    elim test as (λ b. test ≡ b → P b) [
      | true ↦ λ e. All-cons (Lacks c) [] (slice_split (λ y. y == c) xs) (All-nil (λ b. b ≢ c)) (parts_lack c xs)
      | false ↦ λ e. onto c x (slice_split (λ y. y == c) xs) (λ q. grind (arith, e, q)) (parts_lack c xs)
    ] refl

-- a list that has one item
pub only_item : (ps : List (List ℕ)) (a : List ℕ) → only ps ≡ Some a → ps ≡ a ∷ []
only_item [] a e = absurd (cc)
only_item (x ∷ []) a e = cc
only_item (x ∷ y ∷ ps) a e = absurd (cc)

-- a list that has two
pub two_items : (ps : List (List ℕ)) (a b : List ℕ) → two ps ≡ Some (a, b) → ps ≡ a ∷ b ∷ []
two_items [] a b e = absurd (cc)
two_items (x ∷ []) a b e = absurd (cc)
two_items (x ∷ y ∷ []) a b e = ap (λ q. q.0 ∷ q.1 ∷ []) (same_Some (x, y) (a, b) e)
two_items (x ∷ y ∷ z ∷ ps) a b e = absurd (cc)

-- the word of a line that is one word is the line
pub one_is : (line a : List ℕ) → only (words line) ≡ Some a → (line ≡ a) × Lacks 32 a
one_is line a e =
    let items = only_item (words line) a e in
    let lack = subst (All (Lacks 32)) items (parts_lack 32 line) in
    (sym (join_with_byte-slice_split 32 line) ∙ ap (join_with_byte 32) items, All-head (Lacks 32) a [] lack)

-- the two words of a line, with a space between them, are the line
pub two_are : (line a b : List ℕ) → two (words line) ≡ Some (a, b) → (line ≡ a ++ 32 ∷ b) × Lacks 32 a × Lacks 32 b
two_are line a b e =
    let items = two_items (words line) a b e in
    let lack = subst (All (Lacks 32)) items (parts_lack 32 line) in
    (sym (join_with_byte-slice_split 32 line) ∙ ap (join_with_byte 32) items, All-head (Lacks 32) a (b ∷ []) lack, All-head (Lacks 32) b [] (All-tail (Lacks 32) a (b ∷ []) lack))
