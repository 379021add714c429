-- Lines of which each is a line: one more, as a loop comes to it, all of them, and those of several items joined.
use Rattle.std.proofs.Common.{◌≡◌, subst, ℕ, ◌+◌, ◌<◌, ◌≤◌, List, [], ◌∷◌, length, take, get_or, Result, Ok, Err}
use Rattle.std.specs.List.{All, flat_map}
use Rattle.std.specs.Result.{OnOk}
use Rattle.std.proofs.lemmas.List.{take_all}
use Rattle.std.proofs.lemmas.List.Elements.{All-nil, All-head, All-tail, All-append, All-more}
use Rattle.layout_lines.specs.declared.line.Line.{Line}

-- what holds whatever was returned holds where it was `Ok`
pub on_ok : {T E P : Type 0} (r : Result T E) → P → OnOk r P
on_ok (Ok x) p = p
on_ok (Err e) p = tt

-- one more item, as a loop comes to it
pub each_more : {A : Type 0} (P : A → Type 0) (xs : List A) (i : ℕ) (x : A) → i < length xs → x ≡ get_or xs i x → P x → All P (take i xs) → All P (take (i + 1) xs)
each_more P xs i x h e p all = All-more P xs i x h all (subst P e p)

-- all items, where a loop has come to their end
pub each_all : {A : Type 0} (P : A → Type 0) (xs : List A) (i : ℕ) → length xs ≤ i → All P (take i xs) → All P xs
each_all P xs i h all = subst (All P) (take_all i xs h) all

-- what follows for each item from what is given for each
pub each_given : {A : Type 0} (P Q : A → Type 0) (xs : List A) → All (λ x. P x → Q x) xs → All P xs → All Q xs
each_given P Q xs step given = λ k d h. step k d h (given k d h)

-- what holds of each line of each item holds of all lines
pub each_joined : {A : Type 0} (P : Line → Type 0) (f : A → List Line) (xs : List A) → All (λ x. All P (f x)) xs → All P (flat_map f xs)
each_joined P f [] h = All-nil P
each_joined P f (x ∷ xs) h = All-append P (f x) (flat_map f xs) (All-head (λ x. All P (f x)) x xs h) (each_joined P f xs (All-tail (λ x. All P (f x)) x xs h))
