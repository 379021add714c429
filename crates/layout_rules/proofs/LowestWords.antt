-- The lowest rule that words break, one word after the other.
use Rattle.std.proofs.Common.{◌≡◌, ◌∙◌, sym, ap, refl, ℕ, min, List, Option, Some, None, arith}
use Rattle.layout_rules.specs.LineRules.{lower, lowest_of}
use Rattle.layout_words.specs.Forms.{Left, cut, words, left_words}
use Rattle.layout_words.proofs.WordLists.{words_are}

some_is : (a b : ℕ) → a ≡ b → ◌≡◌ {A = Option ℕ} (Some a) (Some b)
some_is a b e = ap (λ n. Some n) e

pub lower_assoc : (a b c : Option ℕ) → lower (lower a b) c ≡ lower a (lower b c)
lower_assoc None b c = refl
lower_assoc (Some x) None c = refl
lower_assoc (Some x) (Some y) None = refl
lower_assoc (Some x) (Some y) (Some z) = some_is (min (min x y) z) (min x (min y z)) (omega arith)

-- the words of a line are its first and those that are left
lowest_parts : (rule : List ℕ → Option ℕ) (line : List ℕ) → lowest_of rule (words line) ≡ lower (rule (cut line).0) (lowest_of rule (left_words (cut line).1))
lowest_parts rule line = ap (lowest_of rule) (words_are line)

-- one word further
pub lowest_step : (rule : List ℕ → Option ℕ) (low new whole : Option ℕ) (line word : List ℕ) (left : Left) → word ≡ (cut line).0 → left ≡ (cut line).1
    → new ≡ lower low (rule word) → lower low (lowest_of rule (words line)) ≡ whole → lower new (lowest_of rule (left_words left)) ≡ whole
lowest_step rule low new whole line word left first behind is before =
    let rest = lowest_of rule (left_words left) in
    ap (λ n. lower n rest) is ∙ lower_assoc low (rule word) rest
    ∙ ap (λ w. lower low (lower (rule w) rest)) first
    ∙ ap (λ l. lower low (lower (rule (cut line).0) (lowest_of rule (left_words l)))) behind
    ∙ ap (lower low) (sym (lowest_parts rule line)) ∙ before
