-- A line is cut at its first space.
use Rattle.std.proofs.Common.{◌≡◌, ◌≢◌, ◌∙◌, sym, ap, subst, refl, ℕ, Bool, true, false, cond, List, [], ◌∷◌, ◌++◌, Option, Some, None, ◌==◌, arith, append-nil}
use Rattle.std.specs.Option.{MatchOption, option_map}
use Rattle.std.specs.Borrow.{Bor}
use Rattle.std.proofs.lemmas.List.Elements.{All-head, All-tail}
use Rattle.readers.specs.Lines.{Lacks, CutAt}
use Rattle.layout_words.specs.Steps.{lent}
use Rattle.layout_words.specs.Forms.{Left, cut, cons_word, behind, next_word}

other : (c : ℕ) → c ≢ 32 → (c == 32) ≡ false
other c h = grind arith

-- a line whose first word is followed by a space
pub cut_front : (front back : List ℕ) → Lacks 32 front → cut (front ++ 32 ∷ back) ≡ (front, Some back)
unfolding cut
cut_front [] back h = refl
cut_front (c ∷ front) back h =
    ap (λ b. cond b ([], Some (front ++ 32 ∷ back)) (cons_word c (cut (front ++ 32 ∷ back)))) (other c (All-head (λ b. b ≢ 32) c front h))
    ∙ ap (cons_word c) (cut_front front back (All-tail (λ b. b ≢ 32) c front h))

-- a line of one word
pub cut_whole : (line : List ℕ) → Lacks 32 line → cut line ≡ (line, None)
unfolding cut
cut_whole [] h = refl
cut_whole (c ∷ line) h =
    ap (λ b. cond b ([], Some line) (cons_word c (cut line))) (other c (All-head (λ b. b ≢ 32) c line h))
    ∙ ap (cons_word c) (cut_whole line (All-tail (λ b. b ≢ 32) c line h))

pub cut_at : (line front back : List ℕ) → CutAt 32 line front back → cut line ≡ (front, Some back)
cut_at line front back h = ap cut h.text ∙ cut_front front back h.first

-- a word and what follows it
pub cut_behind : (word : List ℕ) (left : Left) → Lacks 32 word → cut (word ++ behind left) ≡ (word, left)
cut_behind word None h = subst (λ l. cut l ≡ (word, None)) (sym (append-nil word)) (cut_whole word h)
cut_behind word (Some line) h = cut_front word line h

joins_cons : (c : ℕ) (line : List ℕ) → line ≡ (cut line).0 ++ behind (cut line).1 → (b : Bool) → (c == 32) ≡ b
    → c ∷ line ≡ (cond b ([], Some line) (cons_word c (cut line))).0 ++ behind (cond b ([], Some line) (cons_word c (cut line))).1
joins_cons c line h true e = let is : c ≡ 32 = grind (arith, e) in ap (λ x. x ∷ line) is
joins_cons c line h false e = ap (λ l. c ∷ l) h

-- the first word and what is left are the line
pub cut_joins : (line : List ℕ) → line ≡ (cut line).0 ++ behind (cut line).1
unfolding cut
cut_joins [] = refl
cut_joins (c ∷ line) = joins_cons c line (cut_joins line) (c == 32) refl

-- what was cut is the first word, and what follows its space
pub cut_is : (line word : List ℕ) (rest : Option (Bor (List ℕ))) → MatchOption rest (Lacks 32 line) (λ r. CutAt 32 line word r.now) → MatchOption rest (word ≡ line) (λ _. Unit {0})
    → next_word (Some line) ≡ Some (word, option_map (λ b. b.now) rest)
cut_is line word None h e = ap Some (cut_whole line h ∙ ap (λ w. (w, None)) (sym e))
cut_is line word (Some r) h e = ap Some (cut_at line word r.now h)

-- the same, by its parts
pub cut_parts : (line word : List ℕ) (rest : Option (Bor (List ℕ))) → MatchOption rest (Lacks 32 line) (λ r. CutAt 32 line word r.now) → MatchOption rest (word ≡ line) (λ _. Unit {0})
    → cut line ≡ (word, lent rest)
cut_parts line word None h e = cut_whole line h ∙ ap (λ w. (w, None)) (sym e)
cut_parts line word (Some r) h e = cut_at line word r.now h
