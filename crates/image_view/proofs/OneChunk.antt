-- All bytes of a part, where they stand in one chunk.
use Rattle.std.proofs.Common.{◌≡◌, ◌∙◌, sym, ap, subst, refl, ℕ, zero, suc, ◌+◌, ◌-◌, ◌<◌, ◌≤◌, ◌^◌, Bool, true, false, cond, List, [], ◌∷◌, map, length, take, drop, get_or, Option, Some, None, arith, MatchOption, drop-cons, add-one}
use Rattle.std.specs.List.{range_with_len}
use Rattle.std.specs.Prelude.{slice_get}
use Rattle.std.specs.Option.{option_map, option_copied}
use Rattle.std.specs.Borrow.{Bor}
use Rattle.image_view.specs.declared.chunk.Source.TheVariants as source
use Rattle.std.proofs.lemmas.Option.{slice_get-get_or, slice_get_past, same_Some}
use Rattle.std.proofs.lemmas.Bool.{le-ltb}
use Rattle.snapshot_file.specs.Memory.{Run, byte_at, item_at, items_at, bytes_of}
use Rattle.image_view.specs.declared.chunk.Src.TheVariants as src
use Rattle.image_view.specs.declared.chunk.Chunk.{Chunk}
use Rattle.image_view.specs.Places.{Place, item_of, is_number, covers, chunk_place, places, part_of, Rise, Uncovered, CoveredBy, AllIn, InOneChunk}
use Rattle.image_view.proofs.Chunks.{lies, uncovered_place, covered_place, read_at, has}

-- a part of memory, by its places
pub memory_items : (mem : List Run) (a o n : ℕ) → map (λ j. item_at mem (a + j)) (range_with_len o n) ≡ items_at mem (a + o) n
memory_items mem a o zero = refl
memory_items mem a o (suc n) =
    let next : a + (o + 1) ≡ a + o + 1 = omega arith in
    ap (λ t. item_at mem (a + o) ∷ t) (memory_items mem a (o + 1) n ∙ ap (λ x. items_at mem x n) next)

-- past the last address, items are missing
pub past_memory : (mem : List Run) (a n : ℕ) → 2 ^ 64 ≤ a → 0 < n → bytes_of (items_at mem a n) ≡ None
past_memory mem a zero h l = absurd (omega arith)
past_memory mem a (suc n) h l =
    let none : item_at mem a ≡ None = ap (λ b. cond b (byte_at mem a) None) (le-ltb a (2 ^ 64) h) in
    ap (λ item. bytes_of (item ∷ items_at mem (a + 1) n)) none

-- the bytes of a slice, by its places
pub slice_items : (bytes : List ℕ) (o n : ℕ) → o + n ≤ length bytes → bytes_of (map (slice_get bytes) (range_with_len o n)) ≡ Some (take n (drop o bytes))
slice_items bytes o zero h = refl
slice_items bytes o (suc n) h =
    let x = get_or bytes o 0 in
    let step : drop o bytes ≡ x ∷ drop (o + 1) bytes = drop-cons bytes o 0 (omega arith) ∙ ap (λ k. x ∷ drop k bytes) (sym (add-one o)) in
    ap (λ item. bytes_of (item ∷ map (slice_get bytes) (range_with_len (o + 1) n))) (slice_get-get_or bytes o 0 (omega arith))
    ∙ ap (option_map (λ bs. x ∷ bs)) (slice_items bytes (o + 1) n (omega arith))
    ∙ ap (λ t. Some (take (suc n) t)) (sym step)

none_first : (o : Option ℕ) (bs : Option (List ℕ)) → bs ≡ None → (x : ℕ) → option_map (λ t. x ∷ t) bs ≡ None
none_first o bs e x = ap (option_map (λ t. x ∷ t)) e

behind_first : (item : Option ℕ) (items : List (Option ℕ)) → bytes_of items ≡ None → bytes_of (item ∷ items) ≡ None
behind_first None items e = refl
behind_first (Some x) items e = ap (option_map (λ t. x ∷ t)) e

pub slice_past : (bytes : List ℕ) (o n : ℕ) → length bytes < o + n → 0 < n → bytes_of (map (slice_get bytes) (range_with_len o n)) ≡ None
slice_past bytes o zero h l = absurd (omega arith)
slice_past bytes o (suc zero) h l = ap (λ item. bytes_of (item ∷ [])) (slice_get_past bytes o (omega arith))
slice_past bytes o (suc (suc n)) h l = behind_first (slice_get bytes o) (map (slice_get bytes) (range_with_len (o + 1) (suc n))) (slice_past bytes (o + 1) (suc n) (omega arith) (omega arith))

first_has : (c : Chunk) (cs : List Chunk) (k i : ℕ) (d : Chunk) → k ≡ 0 → covers c i ≡ true → (k < length (c ∷ cs)) × (covers (get_or (c ∷ cs) k d) i ≡ true)
first_has c cs zero i d e t = (omega arith, t)
first_has c cs (suc k) i d e t = absurd (omega arith)

above_number : (mem : List Run) (cs : List Chunk) (n m i : ℕ) (b : Bool) → (chunk_place mem cs n i).giver ≡ Some (m, b) → n ≤ m
above_number mem [] n m i b e = absurd (cc)
above_number mem (c ∷ cs) n m i b e =
    let test = covers c i in
    let here : Place = record { item = item_of mem c.src (i - c.off); giver = Some (n, is_number c.src) } in
    elim test as (λ t. (cond t here (chunk_place mem cs (n + 1) i)).giver ≡ Some (m, b) → n ≤ m) [
      | true ↦ λ f. omega (arith, ap (λ (p : ℕ × Bool). p.0) (same_Some (n, is_number c.src) (m, b) f))
      | false ↦ λ f. omega (arith, above_number mem cs (n + 1) m i b f)
    ] e

-- the chunk that gives a place has it
giver_has : (mem : List Run) (cs : List Chunk) (n k i : ℕ) (b : Bool) (d : Chunk) → (chunk_place mem cs n i).giver ≡ Some (n + k, b) → (k < length cs) × (covers (get_or cs k d) i ≡ true)
giver_has mem [] n k i b d e = absurd (cc)
giver_has mem (c ∷ cs) n zero i b d e =
    let test = covers c i in
    let here : Place = record { item = item_of mem c.src (i - c.off); giver = Some (n, is_number c.src) } in
    elim test as (λ t. test ≡ t → (cond t here (chunk_place mem cs (n + 1) i)).giver ≡ Some (n + 0, b) → (0 < length (c ∷ cs)) × (covers c i ≡ true)) [
      | true ↦ λ t f. (omega arith, t)
      | false ↦ λ t f. absurd (omega (arith, above_number mem cs (n + 1) (n + 0) i b f))
    ] refl e
giver_has mem (c ∷ cs) n (suc k) i b d e =
    let test = covers c i in
    let here : Place = record { item = item_of mem c.src (i - c.off); giver = Some (n, is_number c.src) } in
    let number : n + suc k ≡ n + 1 + k = omega arith in
    elim test as (λ t. (cond t here (chunk_place mem cs (n + 1) i)).giver ≡ Some (n + suc k, b) → (suc k < length (c ∷ cs)) × (covers (get_or cs k d) i ≡ true)) [
      | true ↦ λ f. absurd (omega (arith, ap (λ (p : ℕ × Bool). p.0) (same_Some (n, is_number c.src) (n + suc k, b) f)))
      | false ↦ λ f.
          let rest = giver_has mem cs (n + 1) k i b d (f ∙ ap (λ m. Some (m, b)) number) in
          (omega (arith, rest.0), rest.1)
    ] e

-- places of one chunk
pub in_chunk : (mem : List Run) (cs : List Chunk) (k i n : ℕ) → Rise 0 cs → k < length cs → (read_at cs k).off ≤ i → i + n ≤ (read_at cs k).off + (read_at cs k).len
    → part_of (map (chunk_place mem cs 0) (range_with_len i n)) ≡ map (item_of mem (read_at cs k).src) (range_with_len (i - (read_at cs k).off) n)
in_chunk mem cs k i zero rise l low high = refl
in_chunk mem cs k i (suc n) rise l low high =
    let c = read_at cs k in
    let here = covered_place mem cs 0 0 k i (record { off = 0; len = 0; src = src.Mem 0 }) rise l (has c i low (omega arith)) in
    let next : i + 1 - c.off ≡ i - c.off + 1 = omega arith in
    ap (λ (p : Place). p.item ∷ part_of (map (chunk_place mem cs 0) (range_with_len (i + 1) n))) here
    ∙ ap (λ t. item_of mem c.src (i - c.off) ∷ t) (in_chunk mem cs k (i + 1) n rise l (omega arith) (omega arith) ∙ ap (λ m. map (item_of mem c.src) (range_with_len m n)) next)

pub all_in : (mem : List Run) (cs : List Chunk) (k i n : ℕ) → Rise 0 cs → k < length cs → (read_at cs k).off ≤ i → i + n ≤ (read_at cs k).off + (read_at cs k).len → is_number (read_at cs k).src ≡ false
    → AllIn k (map (chunk_place mem cs 0) (range_with_len i n))
all_in mem cs k i zero rise l low high b = tt
all_in mem cs k i (suc n) rise l low high b =
    let c = read_at cs k in
    let here = covered_place mem cs 0 0 k i (record { off = 0; len = 0; src = src.Mem 0 }) rise l (has c i low (omega arith)) in
    let number : 0 + k ≡ k = omega arith in
    (ap (λ (p : Place). p.giver) here ∙ ap (λ m. Some (m, is_number c.src)) number ∙ ap (λ t. Some (k, t)) b, all_in mem cs k (i + 1) n rise l (omega arith) (omega arith) b)

all_have : (mem : List Run) (cs : List Chunk) (k i n : ℕ) → i ≤ (read_at cs k).off + (read_at cs k).len → AllIn k (map (chunk_place mem cs 0) (range_with_len i n)) → i + n ≤ (read_at cs k).off + (read_at cs k).len
all_have mem cs k i zero h a = omega arith
all_have mem cs k i (suc n) h a =
    let number : k ≡ 0 + k = omega arith in
    let mine = giver_has mem cs 0 k i false (record { off = 0; len = 0; src = src.Mem 0 }) (a.0 ∙ ap (λ m. Some (m, false)) number) in
    let inside = lies (read_at cs k) i mine.1 in
    let rest = all_have mem cs k (i + 1) n (omega (arith, inside.1)) a.1 in
    omega (arith, rest)

-- what stands in one chunk stands in the chunk of the first place
pub in_first : (mem : List Run) (cs : List Chunk) (k i n : ℕ) → Rise 0 cs → CoveredBy cs i k → 0 < n → InOneChunk (map (chunk_place mem cs 0) (range_with_len i n))
    → (is_number (read_at cs k).src ≡ false) × (i + n ≤ (read_at cs k).off + (read_at cs k).len)
in_first mem cs k i zero rise cov some one = absurd (omega arith)
in_first mem cs k i (suc n) rise cov some one =
    let d : Chunk = record { off = 0; len = 0; src = src.Mem 0 } in
    let c = read_at cs k in
    let here = covered_place mem cs 0 0 k i d rise cov.0 (cov.1 d) in
    let same = same_Some (0 + k, is_number c.src) (one.0, false) (sym (ap (λ (p : Place). p.giver) here) ∙ one.1.0) in
    let number : one.0 ≡ k = sym (ap (λ (p : ℕ × Bool). p.0) same) ∙ omega arith in
    (ap (λ (p : ℕ × Bool). p.1) same, all_have mem cs k i (suc n) (omega (arith, (lies c i (cov.1 d)).1)) (subst (λ m. AllIn m (map (chunk_place mem cs 0) (range_with_len i (suc n)))) number one.1))

-- what `memory_bytes` says of items of memory, and `slice_bytes` of a slice's, says of a chunk's
pub by_items : (r : Option (Bor (List ℕ))) (items others : List (Option ℕ)) → option_copied r ≡ bytes_of items → others ≡ items → MatchOption r (false ≡ false → bytes_of others ≡ None) (λ b. (false ≡ false) × (bytes_of others ≡ Some b.now))
by_items None items others e h = λ _. ap bytes_of h ∙ sym e
by_items (Some b) items others e h = (refl, ap bytes_of h ∙ sym e)

pub missing_items : (mem : List Run) (o n : ℕ) → 0 < n → bytes_of (map (item_of mem src.Missing) (range_with_len o n)) ≡ None
missing_items mem o zero l = absurd (omega arith)
missing_items mem o (suc n) l = refl

-- the place lies in the chunk that was found
pub found_in : (cs : List Chunk) (i k : ℕ) → CoveredBy cs i k → ((read_at cs k).off ≤ i) × (i < (read_at cs k).off + (read_at cs k).len)
found_in cs i k cov = lies (read_at cs k) i (cov.1 (record { off = 0; len = 0; src = src.Mem 0 }))

-- no chunk has the first place
pub uncovered_first : (mem : List Run) (cs : List Chunk) (i n : ℕ) → Uncovered cs i → 0 < n → bytes_of (part_of (map (chunk_place mem cs 0) (range_with_len i n))) ≡ None
uncovered_first mem cs i zero h l = absurd (omega arith)
uncovered_first mem cs i (suc n) h l = ap (λ (p : Place). bytes_of (p.item ∷ part_of (map (chunk_place mem cs 0) (range_with_len (i + 1) n)))) (uncovered_place mem cs 0 i h)

-- the chunk of the first place has all
pub one_chunk : (mem : List Run) (cs : List Chunk) (k i n : ℕ) (r : Option (Bor (List ℕ))) → Rise 0 cs → CoveredBy cs i k → i + n ≤ (read_at cs k).off + (read_at cs k).len → 0 < n
    → MatchOption r (is_number (read_at cs k).src ≡ false → bytes_of (map (item_of mem (read_at cs k).src) (range_with_len (i - (read_at cs k).off) n)) ≡ None)
    (λ b. (is_number (read_at cs k).src ≡ false) × (bytes_of (map (item_of mem (read_at cs k).src) (range_with_len (i - (read_at cs k).off) n)) ≡ Some b.now))
    → MatchOption r (InOneChunk (map (chunk_place mem cs 0) (range_with_len i n)) → bytes_of (part_of (map (chunk_place mem cs 0) (range_with_len i n))) ≡ None)
    (λ b. InOneChunk (map (chunk_place mem cs 0) (range_with_len i n)) × (bytes_of (part_of (map (chunk_place mem cs 0) (range_with_len i n))) ≡ Some b.now))
one_chunk mem cs k i n None rise cov high some h =
    let low = (lies (read_at cs k) i (cov.1 (record { off = 0; len = 0; src = src.Mem 0 }))).0 in
    λ one. ap bytes_of (in_chunk mem cs k i n rise cov.0 low high) ∙ h (in_first mem cs k i n rise cov some one).0
one_chunk mem cs k i n (Some b) rise cov high some h =
    let low = (lies (read_at cs k) i (cov.1 (record { off = 0; len = 0; src = src.Mem 0 }))).0 in
    ((k, all_in mem cs k i n rise cov.0 low high h.0), ap bytes_of (in_chunk mem cs k i n rise cov.0 low high) ∙ h.1)

-- memory is the one chunk 0
pub all_memory : (mem : List Run) (at i n : ℕ) → AllIn 0 (places mem (source.Memory at) i n)
all_memory mem at i zero = tt
all_memory mem at i (suc n) = (refl, all_memory mem at (i + 1) n)

pub memory_part : (mem : List Run) (at i n : ℕ) → part_of (places mem (source.Memory at) i n) ≡ items_at mem (at + i) n
memory_part mem at i zero = refl
memory_part mem at i (suc n) =
    let next : at + (i + 1) ≡ at + i + 1 = omega arith in
    ap (λ t. item_at mem (at + i) ∷ t) (memory_part mem at (i + 1) n ∙ ap (λ x. items_at mem x n) next)

pub one_memory : (mem : List Run) (at i n : ℕ) (r : Option (Bor (List ℕ))) → option_copied r ≡ bytes_of (items_at mem (at + i) n)
    → MatchOption r (InOneChunk (places mem (source.Memory at) i n) → bytes_of (part_of (places mem (source.Memory at) i n)) ≡ None)
    (λ b. InOneChunk (places mem (source.Memory at) i n) × (bytes_of (part_of (places mem (source.Memory at) i n)) ≡ Some b.now))
one_memory mem at i n None e = λ _. ap bytes_of (memory_part mem at i n) ∙ sym e
one_memory mem at i n (Some b) e = ((0, all_memory mem at i n), ap bytes_of (memory_part mem at i n) ∙ sym e)
