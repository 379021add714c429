-- Items that are put one after the other.
use Rattle.std.proofs.Common.{◌≡◌, ◌∙◌, sym, ap, subst, refl, ℕ, zero, suc, ◌<◌, ◌≤◌, ◌+◌, Bool, true, false, cond, eqb, List, [], ◌∷◌}
use Rattle.std.proofs.Common.{◌++◌, map, length, take, drop, get_or, append_assoc, arith, if◌then◌else◌, ◌==◌, ◌&&◌}
use Rattle.std.proofs.lemmas.Grind.{common_steps, flat_map-append}
use Rattle.std.proofs.lemmas.List.{take-append-drop, append-nil, map_more, length-append}
use Rattle.std.proofs.Math.Dec.{eqb-suc-zero}
use Rattle.std.proofs.Math.Seq.{take-append_seam}
use Rattle.std.specs.Prelude.{Result, Ok, Err, OnErr}
use Rattle.std.specs.List.{flat_map}
use Rattle.names.specs.Joined.{joined}
use Rattle.rust_value.specs.Utf8.{all_true}

-- what keeps a longer front keeps a shorter one
pub shorter_front : (old mid new rest : List ℕ) → mid ≡ old ++ rest → take (length mid) new ≡ mid → take (length old) new ≡ old
shorter_front old mid new rest e h =
    let whole : new ≡ old ++ (rest ++ drop (length mid) new) =
    sym (take-append-drop (length mid) new) ∙ ap (λ t. t ++ drop (length mid) new) (h ∙ e) ∙ append_assoc old rest (drop (length mid) new) in
    ap (take (length old)) whole ∙ take-append_seam old (rest ++ drop (length mid) new)

-- the same for what was made longer twice
pub front_before : (old mid long new rest more : List ℕ) → mid ≡ old ++ rest → long ≡ mid ++ more → take (length long) new ≡ long → take (length old) new ≡ old
front_before old mid long new rest more e f h = shorter_front old mid new rest e (shorter_front mid long new more f h)

pub both_true : (a b : Bool) → (a && b) ≡ true → (a ≡ true) × (b ≡ true)
both_true true b h = (refl, h)
both_true false b h = absurd (cc)

-- a test that holds of all holds of each
pub true_at : {A : Type 0} (f : A → Bool) (xs : List A) (i : ℕ) (x : A) → all_true (map f xs) ≡ true → i < length xs → x ≡ get_or xs i x → f x ≡ true
true_at f [] i x h l e = absurd (omega (arith, l))
true_at f (y ∷ ys) zero x h l e = ap f e ∙ (both_true (f y) (all_true (map f ys)) h).0
true_at f (y ∷ ys) (suc i) x h l e = true_at f ys i x (both_true (f y) (all_true (map f ys)) h).1 (omega (arith, l)) e

-- what stands before the item with this number
abbrev pub comma : ℕ → List ℕ → List ℕ
comma i sep = if i == 0 then [] else sep

-- one more text, and what stands before it
joined-push : (sep : List ℕ) (ts : List (List ℕ)) (t : List ℕ) → joined sep (ts ++ t ∷ []) ≡ joined sep ts ++ (comma (length ts) sep ++ t)
joined-push sep [] t = append-nil t
joined-push sep (u ∷ us) t =
    ap (λ r. u ++ r) (flat_map-append (λ y. sep ++ y) us (t ∷ []) ∙ ap (λ r. flat_map (λ y. sep ++ y) us ++ r) (append-nil (sep ++ t)))
    ∙ sym (append_assoc u (flat_map (λ y. sep ++ y) us) (sep ++ t))
    ∙ ap (λ b. (u ++ flat_map (λ y. sep ++ y) us) ++ (cond b [] sep ++ t)) (sym (eqb-suc-zero (length us)))

-- the next item is put
pub put_next : {A : Type 0} (f : A → List ℕ) (sep : List ℕ) (xs : List A) (i : ℕ) (x : A) (start before mid after : List ℕ) → i < length xs →
    x ≡ get_or xs i x → before ≡ start ++ joined sep (map f (take i xs)) → mid ≡ before ++ comma i sep → after ≡ mid ++ f x →
    after ≡ start ++ joined sep (map f (take (i + 1) xs))
put_next f sep xs i x start before mid after l e b m a =
    let n : length (map f (take i xs)) ≡ i = grind (arith, common_steps) in
    let done = joined sep (map f (take i xs)) in
    let last = comma i sep in
    let push : joined sep (map f (take (i + 1) xs)) ≡ done ++ (last ++ f x) =
    ap (joined sep) (map_more f xs i x l ∙ ap (λ y. map f (take i xs) ++ f y ∷ []) (sym e)) ∙ joined-push sep (map f (take i xs)) (f x) ∙
    ap (λ k. done ++ (comma k sep ++ f x)) n in
    a ∙ ap (λ t. t ++ f x) (m ∙ ap (λ t. t ++ last) b) ∙ append_assoc (start ++ done) last (f x) ∙ append_assoc start done (last ++ f x) ∙
    ap (λ t. start ++ t) (sym push)

-- what a refused call keeps, where more was put before it
pub err_front : {T E : Type 0} (result : Result T E) (old mid new rest : List ℕ) → mid ≡ old ++ rest →
    OnErr result (take (length mid) new ≡ mid) → OnErr result (take (length old) new ≡ old)
err_front (Ok x) old mid new rest e h = tt
err_front (Err x) old mid new rest e h = shorter_front old mid new rest e h
