-- Lists that are made of others, one element after the other, and the lowest of the rules of such.
use Rattle.std.proofs.Common.{◌≡◌, ℕ, List, [], ◌∷◌, ◌++◌, map, Option, None, refl, sym, ap, ◌∙◌, append-nil}
use Rattle.cv_type_defs.specs.Items.{lower, lowest}
use Rattle.cv_fields.proofs.Lowers.{lower_assoc, lower_none}
use Rattle.cv_structures.proofs.Rules.{neither}

-- what was made so far, and what is to be made of those that are left, is the whole; and none that is left breaks a rule
pub record AreLeft {A B : Type 0} (r : A → Option ℕ) (f : A → B) (so_far : List B) (left : List A) (whole : List B) : Type 0 where
  pub all : so_far ++ map f left ≡ whole
  pub fit : lowest (map r left) ≡ None

joined : {A : Type 0} (xs : List A) (y : A) (ys : List A) → (xs ++ y ∷ []) ++ ys ≡ xs ++ y ∷ ys
joined [] y ys = refl
joined {A} (x ∷ xs) y ys = ap (λ (l : List A). x ∷ l) (joined xs y ys)

-- before the first
pub at_first : {A B : Type 0} (r : A → Option ℕ) (f : A → B) (all left : List A) → left ≡ all → lowest (map r all) ≡ None → (so_far : List B) → so_far ≡ [] → AreLeft r f so_far left (map f all)
at_first {A} {B} r f all left is fit so_far none = record {
  all = ap (λ (m : List B). m ++ map f left) none ∙ ap (map f) is;
  fit = ap (λ (l : List A). lowest (map r l)) is ∙ fit;
}

-- the next breaks no rule
pub next_fits : {A B : Type 0} (r : A → Option ℕ) (f : A → B) (so_far : List B) (a : A) (left : List A) (whole : List B) → AreLeft r f so_far (a ∷ left) whole → r a ≡ None
next_fits r f so_far a left whole h = (neither (r a) (lowest (map r left)) h.fit).0

-- and what it makes is added
pub one_more : {A B : Type 0} (r : A → Option ℕ) (f : A → B) (so_far : List B) (a : A) (left : List A) (whole : List B) → AreLeft r f so_far (a ∷ left) whole
    → (b : B) → b ≡ f a → (more : List B) → more ≡ so_far ++ b ∷ [] → AreLeft r f more left whole
one_more {A} {B} r f so_far a left whole h b is more added = record {
  all = ap (λ (m : List B). m ++ map f left) added ∙ joined so_far b (map f left) ∙ ap (λ (y : B). so_far ++ y ∷ map f left) is ∙ h.all;
  fit = (neither (r a) (lowest (map r left)) h.fit).1;
}

-- after the last
pub all_made : {A B : Type 0} (r : A → Option ℕ) (f : A → B) (so_far : List B) (left : List A) (whole : List B) → AreLeft r f so_far left whole → left ≡ [] → so_far ≡ whole
all_made {A} {B} r f so_far left whole h none = sym (append-nil so_far) ∙ ap (λ (l : List A). so_far ++ map f l) (sym none) ∙ h.all

-- the lower of a rule and of the lowest of some that are left is the whole
abbrev pub IsLowest : {A : Type 0} → (A → Option ℕ) → Option ℕ → List A → Option ℕ → Type 0
IsLowest r low left whole = lower low (lowest (map r left)) ≡ whole

-- one more rule
pub one_lower : {A : Type 0} (r : A → Option ℕ) (low : Option ℕ) (a : A) (left : List A) (whole : Option ℕ) → IsLowest r low (a ∷ left) whole
    → (x : Option ℕ) → x ≡ r a → (now : Option ℕ) → now ≡ lower low x → IsLowest r now left whole
one_lower r low a left whole h x is now lowered =
    ap (λ (o : Option ℕ). lower o (lowest (map r left))) (lowered ∙ ap (lower low) is) ∙ sym (lower_assoc low (r a) (lowest (map r left))) ∙ h

-- after the last
pub is_lowest : {A : Type 0} (r : A → Option ℕ) (low : Option ℕ) (left : List A) (whole : Option ℕ) → IsLowest r low left whole → left ≡ [] → low ≡ whole
is_lowest {A} r low left whole h none = sym (lower_none low) ∙ ap (λ (l : List A). lower low (lowest (map r l))) (sym none) ∙ h
