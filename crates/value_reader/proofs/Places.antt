-- Parts of parts.
use Rattle.std.proofs.Common.{◌++◌, append_assoc, get_or, add-one, ◌≡◌, ◌∙◌, sym, ap, refl, ℕ, zero, suc, ◌+◌, ◌-◌, ◌<◌, ◌≤◌, ◌^◌, ◌*◌, min, List, []}
use Rattle.std.proofs.Common.{◌∷◌, length, take, drop, Option, Some, None, arith, ◌⊎◌, inl, inr, length-drop, add-zero, false, nat_lt, lit<}
use Rattle.std.proofs.Math.Nat.{pow-le-pow_right, pow-succ'}
use Rattle.std.specs.Option.{option_map}
use Rattle.std.proofs.Math.Seq.{drop-cons}
use Rattle.layout_values.specs.Contexts.{Items}
use Rattle.std.proofs.lemmas.List.{take_min, length-take, length-map, take-map, drop-map}
use Rattle.snapshot_file.specs.Memory.{Run, item_at, items_at, sub, number, bytes_of}
use Rattle.image_view.specs.Places.{Place, part_of}

drop_past : {A : Type 0} (xs : List A) (n : ℕ) → length xs ≤ n → drop n xs ≡ []
drop_past [] zero h = refl
drop_past [] (suc n) h = refl
drop_past (x ∷ xs) zero h = absurd (omega arith)
drop_past (x ∷ xs) (suc n) h = drop_past xs n (omega arith)

drop_min : {A : Type 0} (xs : List A) (off : ℕ) → (off ≤ length xs) ⊎ (length xs ≤ off) → drop (min off (length xs)) xs ≡ drop off xs
drop_min xs off (inl h) = let e : min off (length xs) ≡ off = omega arith in rw e refl
drop_min xs off (inr h) = let e : min off (length xs) ≡ length xs = omega arith in rw e (drop_past xs (length xs) (omega arith) ∙ sym (drop_past xs off h))

le_either : (a b : ℕ) → (a ≤ b) ⊎ (b ≤ a)
le_either zero b = inl (omega arith)
le_either (suc a) zero = inr (omega arith)
le_either (suc a) (suc b) = elim (le_either a b) [ inl h ↦ inl (omega arith) | inr h ↦ inr (omega arith) ]

-- what is asked for past the end is not there
pub sub_clamped : {A : Type 0} (xs : List A) (off n : ℕ) → take (min n (length xs - min off (length xs))) (drop (min off (length xs)) xs) ≡ take n (drop off xs)
sub_clamped xs off n =
    let e : length xs - min off (length xs) ≡ length xs - off = omega arith in
    rw (drop_min xs off (le_either off (length xs)), e, ← length-drop off xs) (take_min n (drop off xs))

-- a part of places
pub sub-part : (ps : List Place) (off n : ℕ) → part_of (take n (drop off ps)) ≡ sub (part_of ps) off n
sub-part ps off n = sym (take-map (λ (p : Place). p.item) n (drop off ps)) ∙ ap (take n) (sym (drop-map (λ (p : Place). p.item) off ps))

pub part_clamped : (ps : List Place) (off n : ℕ) →
    part_of (take (min n (length ps - min off (length ps))) (drop (min off (length ps)) ps)) ≡ sub (part_of ps) off n
part_clamped ps off n = ap part_of (sub_clamped ps off n) ∙ sub-part ps off n

pub length-part : (ps : List Place) → length (part_of ps) ≡ length ps
length-part ps = length-map ps (λ (p : Place). p.item)

pub length-items : (memory : List Run) (a n : ℕ) → length (items_at memory a n) ≡ n
length-items memory a zero = refl
length-items memory a (suc n) = ap suc (length-items memory (a + 1) n)

take-items : (memory : List Run) (a n len : ℕ) → n ≤ len → take n (items_at memory a len) ≡ items_at memory a n
take-items memory a zero len h = refl
take-items memory a (suc n) zero h = absurd (omega arith)
take-items memory a (suc n) (suc len) h = ap (λ l. item_at memory a ∷ l) (take-items memory (a + 1) n len (omega arith))

-- a part of memory's items is memory's items further on
pub sub-items : (memory : List Run) (a off n len : ℕ) → off + n ≤ len → sub (items_at memory a len) off n ≡ items_at memory (a + off) n
sub-items memory a zero n len h = take-items memory a n len (omega arith) ∙ ap (λ b. items_at memory b n) (sym (add-zero a))
sub-items memory a (suc off) n zero h = absurd (omega arith)
sub-items memory a (suc off) n (suc len) h = sub-items memory (a + 1) off n len (omega arith)
    ∙ ap (λ b. items_at memory b n) (let e : a + 1 + off ≡ a + suc off = omega arith in e)

item_past : (memory : List Run) (a : ℕ) → 2 ^ 64 ≤ a → item_at memory a ≡ None
item_past memory a h = let e : nat_lt a (2 ^ 64) ≡ false = grind arith in rw e refl

-- from 2 ^ 64 on all items are missing
pub items_past : (memory : List Run) (a b n : ℕ) → 2 ^ 64 ≤ a → 2 ^ 64 ≤ b → items_at memory a n ≡ items_at memory b n
items_past memory a b zero h k = refl
items_past memory a b (suc n) h k = rw (item_past memory a h, item_past memory b k, items_past memory (a + 1) (b + 1) n (omega arith) (omega arith)) refl

-- one more byte below a number
pub byte_below : (low high width : ℕ) → low < 256 → 0 < width → high < 256 ^ (width - 1) → low + 256 * high < 256 ^ width
byte_below low high zero l w h = absurd (omega (arith, w))
byte_below low high (suc k) l w h =
    let e : suc k - 1 ≡ k = omega arith in
    let g : high < 256 ^ k = rw e at h in
    let p : 256 ^ suc k ≡ 256 * 256 ^ k = pow-succ' 256 k in
    omega (arith, l, g, p)

pub number_fits : (low high width : ℕ) → low < 256 → 0 < width → width ≤ 16 → high < 256 ^ (width - 1) → low + 256 * high < 2 ^ 128
number_fits low high width l w few h =
    let bound : 256 ^ (width - 1) ≤ 256 ^ 15 = pow-le-pow_right {n = 256} (lit< tt) {i = width - 1} {j = 15} (omega (arith, few)) in
    omega (arith, l, h, bound)

-- one more byte of a part
byte_head : (item : Option ℕ) (rest : Items) (b : ℕ) (found : List ℕ) (all : Option (List ℕ)) → Some b ≡ number (item ∷ []) →
    option_map (λ bytes. found ++ bytes) (bytes_of (item ∷ rest)) ≡ all → option_map (λ bytes. (found ++ b ∷ []) ++ bytes) (bytes_of rest) ≡ all
byte_head None rest b found all e h = absurd (cc)
byte_head (Some x) rest b found all e h = tail (bytes_of rest) h
  where
    same : b ≡ x
    same = let f : b ≡ x + 256 * 0 = cc in omega (arith, f)

    tail : (o : Option (List ℕ)) → option_map (λ bytes. found ++ bytes) (option_map (λ bytes. x ∷ bytes) o) ≡ all →
        option_map (λ bytes. (found ++ b ∷ []) ++ bytes) o ≡ all
    tail None g = g
    tail (Some bs) g = ap Some (ap (λ y. (found ++ y ∷ []) ++ bs) same ∙ append_assoc found (x ∷ []) bs) ∙ g

pub byte_step : (p : Items) (i b : ℕ) (found : List ℕ) (all : Option (List ℕ)) → i < length p → Some b ≡ number (sub p i 1) →
    option_map (λ bytes. found ++ bytes) (bytes_of (drop i p)) ≡ all →
    option_map (λ bytes. (found ++ b ∷ []) ++ bytes) (bytes_of (drop (i + 1) p)) ≡ all
byte_step p i b found all l e h =
    let x = get_or p i None in
    let step : drop i p ≡ x ∷ drop (i + 1) p = drop-cons p i None l ∙ ap (λ n. x ∷ drop n p) (sym (add-one i)) in
    byte_head x (drop (i + 1) p) b found all (e ∙ ap (λ q. number (take 1 q)) step) (ap (λ q. option_map (λ bytes. found ++ bytes) (bytes_of q)) (sym step) ∙ h)

byte_none : (item : Option ℕ) (rest : Items) → None ≡ number (item ∷ []) → bytes_of (item ∷ rest) ≡ None
byte_none None rest e = refl
byte_none (Some x) rest e = absurd (cc)

-- a part with a missing item has no bytes
pub byte_missing : (p : Items) (i : ℕ) (found : List ℕ) (all : Option (List ℕ)) → i < length p → None ≡ number (sub p i 1) →
    option_map (λ bytes. found ++ bytes) (bytes_of (drop i p)) ≡ all → None ≡ all
byte_missing p i found all l e h =
    let x = get_or p i None in
    let step : drop i p ≡ x ∷ drop (i + 1) p = drop-cons p i None l ∙ ap (λ n. x ∷ drop n p) (sym (add-one i)) in
    sym (ap (option_map (λ bytes. found ++ bytes)) (ap bytes_of step ∙ byte_none x (drop (i + 1) p) (e ∙ ap (λ q. number (take 1 q)) step))) ∙ h

pub length-sub : (p : Items) (off n : ℕ) → length (sub p off n) ≤ n
length-sub p off n = let e : length (take n (drop off p)) ≡ min n (length (drop off p)) = length-take n (drop off p) in omega (arith, e)
