-- Chunks that follow one another, and what they give together.
use Rattle.std.proofs.Common.{◌≡◌, ◌∙◌, sym, ap, refl, ℕ, zero, suc, ◌+◌, ◌-◌, ◌<◌, ◌≤◌, min, cond, List, [], ◌∷◌, ◌++◌, length, map, take, drop}
use Rattle.std.proofs.Common.{replicate, get_or, Option, Some, None, arith, ⊎_elim, append_assoc, add-one, subst}
use Rattle.std.specs.List.{range_with_len, flat_map}
use Rattle.std.proofs.lemmas.Bool.{cases_lt}
use Rattle.std.proofs.lemmas.List.{get_or_append_left, get_or-append_right}
use Rattle.std.proofs.lemmas.List.FromFn.{get_or-map-range_with_len, length-map-range_with_len}
use Rattle.snapshot_file.specs.Memory.{Run}
use Rattle.image_view.specs.declared.chunk.Chunk.{Chunk}
use Rattle.image_view.specs.Places.{Place, item_of, is_number, chunk_place, chunk_places, part_of, items_from, Rise}
use Rattle.image_view.proofs.Chunks.{has, behind}
use Rattle.layout_values.specs.Contexts.{Items}

-- each chunk begins where the one before ends
abbrev pub Adjoin : ℕ → ℕ → List Chunk → Type 0
Adjoin from to [] = from ≡ to
Adjoin from to (c ∷ cs) = (c.off ≡ from) × Adjoin (c.off + c.len) to cs

-- what a chunk gives, and what chunks give one after the other
abbrev pub chunk_items : List Run → Chunk → Items
chunk_items mem c = items_from mem c.src 0 c.len

abbrev pub joined : List Run → List Chunk → Items
joined mem = flat_map (chunk_items mem)

pub rise_of : (from to : ℕ) (cs : List Chunk) → Adjoin from to cs → Rise from cs
rise_of from to [] h = tt
rise_of from to (c ∷ cs) h = (omega arith, rise_of (c.off + c.len) to cs h.1)

pub one_more : (from to : ℕ) (cs : List Chunk) (c : Chunk) → Adjoin from to cs → c.off ≡ to → Adjoin from (to + c.len) (cs ++ c ∷ [])
one_more from to [] c h e = (omega arith, omega arith)
one_more from to (d ∷ cs) c h e = (h.0, one_more (d.off + d.len) to cs c h.1 e)

-- so many items, filled up with missing ones
abbrev pub pad : ℕ → Items → Items
pad zero items = []
pad (suc n) [] = None ∷ pad n []
pad (suc n) (x ∷ items) = x ∷ pad n items

pad_none : (n k : ℕ) → n ≤ k → take n (replicate k None) ≡ pad n []
pad_none zero k h = refl
pad_none (suc n) zero h = absurd (omega arith)
pad_none (suc n) (suc k) h = ap (λ items. None ∷ items) (pad_none n k (omega arith))

pub pad_is : (n k : ℕ) (items : Items) → n ≤ k → take n (items ++ replicate k None) ≡ pad n items
pad_is zero k items h = refl
pad_is (suc n) k [] h = pad_none (suc n) k h
pad_is (suc n) k (x ∷ items) h = ap (λ rest. x ∷ rest) (pad_is n k items (omega arith))

-- only the first items count
pad_take : (n : ℕ) (items : Items) → pad n (take n items) ≡ pad n items
pad_take zero items = refl
pad_take (suc n) [] = refl
pad_take (suc n) (x ∷ items) = ap (λ rest. x ∷ rest) (pad_take n items)

pub pad_same : (n : ℕ) (items others : Items) → take n items ≡ take n others → pad n items ≡ pad n others
pad_same n items others e = sym (pad_take n items) ∙ ap (pad n) e ∙ pad_take n others

pub pad_full : (n : ℕ) (items : Items) → length items ≡ n → pad n items ≡ items
pad_full zero [] e = refl
pad_full zero (x ∷ items) e = absurd (omega arith)
pad_full (suc n) [] e = absurd (omega arith)
pad_full (suc n) (x ∷ items) e = ap (λ rest. x ∷ rest) (pad_full n items (omega arith))

pad_next : (n i : ℕ) (items : Items) → pad (suc n) (drop i items) ≡ get_or items i None ∷ pad n (drop (i + 1) items)
pad_next n zero [] = refl
pad_next n zero (x ∷ items) = refl
pad_next n (suc i) [] = ap (λ k. None ∷ pad n (drop {A = Option ℕ} k [])) (sym (add-one (suc i)))
pad_next n (suc i) (x ∷ items) =
    let next : i + 1 ≡ suc i = add-one i in
    pad_next n i items ∙ ap (λ k. get_or items i None ∷ pad n (drop k items)) next
    ∙ ap (λ k. get_or items i None ∷ pad n (drop k (x ∷ items))) (sym (add-one (suc i)))

pub length-pad : (n : ℕ) (items : Items) → length (pad n items) ≡ n
length-pad zero items = refl
length-pad (suc n) [] = ap suc (length-pad n [])
length-pad (suc n) (x ∷ items) = ap suc (length-pad n items)

-- the item of a place is the one that the chunks give there together
place_item : (mem : List Run) (from to k i : ℕ) (cs : List Chunk) → Adjoin from to cs → from ≤ i →
    (chunk_place mem cs k i).item ≡ get_or (joined mem cs) (i - from) None
place_item mem from to k i [] h l = refl
place_item mem from to k i (c ∷ cs) h l =
    let here : Place = record { item = item_of mem c.src (i - c.off); giver = Some (k, is_number c.src) } in
    let len : length (chunk_items mem c) ≡ c.len = length-map-range_with_len (item_of mem c.src) 0 c.len in
    let same : i - c.off ≡ i - from = omega (arith, h.0) in
    ⊎_elim
    (λ (m : i < c.off + c.len).
    ap (λ b. (cond b here (chunk_place mem cs (k + 1) i)).item) (has c i (omega (arith, h.0)) m)
    ∙ sym (get_or-map-range_with_len (item_of mem c.src) 0 c.len (i - from) (i - c.off) None (omega (arith, h.0)) (omega arith))
    ∙ sym (get_or_append_left (chunk_items mem c) (joined mem cs) None (i - from) (omega (arith, h.0, len))))
    (λ (m : c.off + c.len ≤ i).
    let rest : i - from - c.len ≡ i - (c.off + c.len) = omega (arith, h.0) in
    ap (λ b. (cond b here (chunk_place mem cs (k + 1) i)).item) (behind c i m)
    ∙ place_item mem (c.off + c.len) to (k + 1) i cs h.1 m
    ∙ ap (λ j. get_or (joined mem cs) j None) (sym rest)
    ∙ sym (get_or-append_right (chunk_items mem c) (joined mem cs) c.len (i - from) None len (omega (arith, h.0))))
    (cases_lt i (c.off + c.len))

places_from : (mem : List Run) (to i n : ℕ) (cs : List Chunk) → Adjoin 0 to cs →
    part_of (map (chunk_place mem cs 0) (range_with_len i n)) ≡ pad n (drop i (joined mem cs))
places_from mem to i zero cs h = refl
places_from mem to i (suc n) cs h =
    let first : (chunk_place mem cs 0 i).item ≡ get_or (joined mem cs) i None =
    place_item mem 0 to 0 i cs h (omega arith) ∙ ap (λ j. get_or (joined mem cs) j None) (let z : i - 0 ≡ i = omega arith in z) in
    ap (λ x. x ∷ part_of (map (chunk_place mem cs 0) (range_with_len (i + 1) n))) first
    ∙ ap (λ items. get_or (joined mem cs) i None ∷ items) (places_from mem to (i + 1) n cs h)
    ∙ sym (pad_next n i (joined mem cs))

-- chunks that follow one another from 0 on give their items one after the other, and then missing ones
pub joined_places : (mem : List Run) (to n : ℕ) (cs : List Chunk) → Adjoin 0 to cs → part_of (chunk_places mem cs 0 n) ≡ pad n (joined mem cs)
joined_places mem to n cs h = places_from mem to 0 n cs h

-- one more piece, of which so much is taken as there is room for
take_piece : (room n : ℕ) (piece rest : Items) → n ≡ min (length piece) room → take room (piece ++ rest) ≡ take room (take n piece ++ rest)
take_piece zero n piece rest e = refl
take_piece (suc room) n [] rest e = let none : n ≡ 0 = omega arith in rw none refl
take_piece (suc room) zero (x ∷ piece) rest e = absurd (omega arith)
take_piece (suc room) (suc n) (x ∷ piece) rest e = ap (λ items. x ∷ items) (take_piece room n piece rest (omega arith))

take_behind : (size : ℕ) (items others more : Items) → take (size - length items) others ≡ take (size - length items) more →
    take size (items ++ others) ≡ take size (items ++ more)
take_behind zero [] others more e = refl
take_behind (suc size) [] others more e = let z : suc size - 0 ≡ suc size = omega arith in subst (λ k. take k others ≡ take k more) z e
take_behind zero (x ∷ items) others more e = refl
take_behind (suc size) (x ∷ items) others more e =
    let z : suc size - suc (length items) ≡ size - length items = omega arith in
    ap (λ rest. x ∷ rest) (take_behind size items others more (subst (λ k. take k others ≡ take k more) z e))

pub piece_step : (size n : ℕ) (items piece rest : Items) → n ≡ min (length piece) (size - length items) →
    take size (items ++ (piece ++ rest)) ≡ take size ((items ++ take n piece) ++ rest)
piece_step size n items piece rest e =
    take_behind size items (piece ++ rest) (take n piece ++ rest) (take_piece (size - length items) n piece rest e)
    ∙ ap (take size) (sym (append_assoc items (take n piece) rest))

-- past the end nothing is left
pub drop_past : {A : Type 0} (xs : List A) (n : ℕ) → length xs ≤ n → drop n xs ≡ []
drop_past [] zero h = refl
drop_past [] (suc n) h = refl
drop_past (x ∷ xs) zero h = absurd (omega arith)
drop_past (x ∷ xs) (suc n) h = drop_past xs n (omega arith)
