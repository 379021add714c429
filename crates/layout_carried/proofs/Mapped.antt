-- What is true of each element of a list, and of what is made of each.
use Rattle.std.proofs.Common.{◌≡◌, sym, subst, ℕ, ◌+◌, ◌<◌, ◌≤◌, Bool, true, false, cond, List, [], ◌∷◌, ◌++◌, map, length, get_or, arith}
use Rattle.std.specs.List.{All, HoldsAt, filter, sum_by}
use Rattle.std.proofs.lemmas.List.{length-map, get_or-map}
use Rattle.std.proofs.lemmas.List.Elements.{All-head, All-tail, All-cons, All-nil, All-map, All-weaker}
use Rattle.std.proofs.lemmas.List.Sums.{sum_by-cons}

-- a place in what is made is one in the list
pub place_of_map : {X Y : Type 0} (f : X → Y) (xs : List X) (i : ℕ) → i < length (map f xs) → i < length xs
place_of_map f xs i h = subst (λ n. i < n) (length-map xs f) h

pub holds_map : {X Y : Type 0} (f : X → Y) (P : Y → Type 0) (Q : X → Type 0) (xs : List X) (i : ℕ) → i < length xs → ((x : X) → Q x → P (f x))
    → HoldsAt Q xs i → HoldsAt P (map f xs) i
holds_map f P Q [] i h more at = absurd (let e : ⊥ = omega (arith, h) in e)
holds_map f P Q (x ∷ xs) i h more at = λ e. subst P (sym (get_or-map f (x ∷ xs) i x e h)) (more (get_or (x ∷ xs) i x) (at x))

pub holds_back : {X Y : Type 0} (f : X → Y) (P : Y → Type 0) (xs : List X) (i : ℕ) → i < length xs → HoldsAt P (map f xs) i → HoldsAt (λ x. P (f x)) xs i
holds_back f P xs i h at = λ d. subst P (get_or-map f xs i d (f d) h) (at (f d))

pub all_map_more : {X Y : Type 0} (f : X → Y) (P : Y → Type 0) (Q : X → Type 0) (xs : List X) → ((x : X) → Q x → P (f x)) → All Q xs → All P (map f xs)
all_map_more f P Q xs more all = All-map P f xs (All-weaker Q (λ x. P (f x)) more xs all)

pub all_of_map : {X Y : Type 0} (f : X → Y) (P : Y → Type 0) (xs : List X) → All P (map f xs) → All (λ x. P (f x)) xs
all_of_map f P xs all = λ k d h. subst P (get_or-map f xs k d (f d) h) (all k (f d) (subst (λ n. k < n) (sym (length-map xs f)) h))

pub all_before : {X : Type 0} (P : X → Type 0) (xs ys : List X) → All P (xs ++ ys) → All P xs
all_before P [] ys all = All-nil P
all_before P (x ∷ xs) ys all = All-cons P x xs (All-head P x (xs ++ ys) all) (all_before P xs ys (All-tail P x (xs ++ ys) all))

pub all_after : {X : Type 0} (P : X → Type 0) (xs ys : List X) → All P (xs ++ ys) → All P ys
all_after P [] ys all = all
all_after P (x ∷ xs) ys all = all_after P xs ys (All-tail P x (xs ++ ys) all)

pub no_more : (m n : ℕ) → m ≡ n → m ≤ n
no_more m n e = omega (arith, e)

pub at_most : (m n top : ℕ) → m ≤ n → n ≤ top → m ≤ top
at_most m n top h g = omega (arith, h, g)

pub sum_at_most : (a b c d top : ℕ) → a ≤ c → b ≤ d → c + d ≤ top → a + b ≤ top
sum_at_most a b c d top h g k = omega (arith, h, g, k)

pub sum_map : {X Y : Type 0} (f : X → Y) (n : Y → ℕ) (m : X → ℕ) → ((x : X) → n (f x) ≤ m x) → (xs : List X) → sum_by n (map f xs) ≤ sum_by m xs
sum_map f n m less [] = omega arith
sum_map f n m less (x ∷ xs) =
    let a : sum_by n (f x ∷ map f xs) ≡ n (f x) + sum_by n (map f xs) = sum_by-cons n (f x) (map f xs) in
    let b : sum_by m (x ∷ xs) ≡ m x + sum_by m xs = sum_by-cons m x xs in
    let c : n (f x) ≤ m x = less x in
    let d : sum_by n (map f xs) ≤ sum_by m xs = sum_map f n m less xs in
    omega (arith, a, b, c, d)

pub sum_filter : {X : Type 0} (p : X → Bool) (n : X → ℕ) (xs : List X) → sum_by n (filter p xs) ≤ sum_by n xs
sum_filter p n [] = omega arith
sum_filter p n (x ∷ xs) = by_test (p x) (sum_filter p n xs)
  where
    by_test : (b : Bool) → sum_by n (filter p xs) ≤ sum_by n xs → sum_by n (cond b (x ∷ filter p xs) (filter p xs)) ≤ sum_by n (x ∷ xs)
    by_test true less =
        let a : sum_by n (x ∷ filter p xs) ≡ n x + sum_by n (filter p xs) = sum_by-cons n x (filter p xs) in
        let b : sum_by n (x ∷ xs) ≡ n x + sum_by n xs = sum_by-cons n x xs in
        omega (arith, a, b, less)
    by_test false less =
        let b : sum_by n (x ∷ xs) ≡ n x + sum_by n xs = sum_by-cons n x xs in
        omega (arith, b, less)
