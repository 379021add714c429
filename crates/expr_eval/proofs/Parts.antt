-- A part of memory has no number exactly where an item is missing.
use Rattle.std.proofs.Common.{◌≡◌, ◌∙◌, ℕ, zero, suc, ◌+◌, ◌<◌, List, Option, Some, None, refl, ap, subst, arith}
use Rattle.snapshot_file.specs.Memory.{Run, item_at, items_at, join, number}

-- one of the n items from an address on is missing
abbrev pub Lacks : List Run → ℕ → ℕ → Type 0
Lacks memory a n = (i : ℕ) × (i < n) × (item_at memory (a + i) ≡ None)

further_item : (memory : List Run) (a n : ℕ) → Lacks memory (a + 1) n → Lacks memory a (suc n)
further_item memory a n l =
    let place : a + 1 + l.0 ≡ a + suc l.0 = omega arith in
    let within = l.1 in
    (suc l.0, omega arith, subst (λ b. item_at memory b ≡ None) place l.2)

first_or : (memory : List Run) (a n : ℕ) (item rest : Option ℕ) → item_at memory a ≡ item → (rest ≡ None → Lacks memory (a + 1) n) → join item rest ≡ None → Lacks memory a (suc n)
first_or memory a n None rest e h none =
    let place : a ≡ a + 0 = omega arith in
    (0, omega arith, subst (λ b. item_at memory b ≡ None) place e)
first_or memory a n (Some low) None e h none = further_item memory a n (h refl)
first_or memory a n (Some low) (Some high) e h none = cc

-- a part has no number only where an item is missing
pub lacking : (memory : List Run) (a n : ℕ) → number (items_at memory a n) ≡ None → Lacks memory a n
lacking memory a zero e = cc
lacking memory a (suc n) e = first_or memory a n (item_at memory a) (number (items_at memory (a + 1) n)) refl (lacking memory (a + 1) n) e

join_none : (item : Option ℕ) → join item None ≡ None
join_none (Some low) = refl
join_none None = refl

none_join : (rest : Option ℕ) → join None rest ≡ None
none_join (Some high) = refl
none_join None = refl

-- where an item is missing there is no number
pub numberless : (memory : List Run) (a n i : ℕ) → i < n → item_at memory (a + i) ≡ None → number (items_at memory a n) ≡ None
numberless memory a zero i h e = absurd (omega arith)
numberless memory a (suc n) zero h e =
    let place : a + 0 ≡ a = omega arith in
    ap (λ item. join item (number (items_at memory (a + 1) n))) (subst (λ b. item_at memory b ≡ None) place e) ∙ none_join (number (items_at memory (a + 1) n))
numberless memory a (suc n) (suc i) h e =
    let place : a + suc i ≡ a + 1 + i = omega arith in
    ap (join (item_at memory a)) (numberless memory (a + 1) n i (omega arith) (subst (λ b. item_at memory b ≡ None) place e)) ∙ join_none (item_at memory a)
