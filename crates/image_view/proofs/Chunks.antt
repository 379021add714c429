-- The chunk that has a place, where chunks rise.
use Rattle.std.proofs.Common.{◌≡◌, ◌∙◌, sym, ap, subst, refl, ℕ, zero, suc, ◌+◌, ◌-◌, ◌<◌, ◌≤◌, true, false, cond, List, [], ◌∷◌, length, get_or, Option, Some, None, nat_le, nat_lt, arith, ⊎_elim}
use Rattle.std.specs.List.Sorted.{IsNonDecreasingBy, IsPartitionPoint}
use Rattle.std.proofs.lemmas.Bool.{cases_lt}
use Rattle.std.proofs.lemmas.List.Elements.{All-head, All-tail}
use Rattle.snapshot_file.specs.Memory.{Run}
use Rattle.image_view.specs.declared.chunk.Chunk.{Chunk}
use Rattle.image_view.specs.declared.chunk.Src.TheVariants as src
use Rattle.image_view.specs.Places.{Place, item_of, is_number, covers, chunk_place, Rise, Uncovered, CoveredBy}

pub has : (c : Chunk) (i : ℕ) → c.off ≤ i → i < c.off + c.len → covers c i ≡ true
has c i h k =
    let p : nat_le c.off i ≡ true = grind arith in
    let q : nat_lt i (c.off + c.len) ≡ true = grind arith in
    rw (p, q) refl

pub before : (c : Chunk) (i : ℕ) → i < c.off → covers c i ≡ false
before c i h = let p : nat_le c.off i ≡ false = grind arith in rw p refl

pub behind : (c : Chunk) (i : ℕ) → c.off + c.len ≤ i → covers c i ≡ false
behind c i h =
    let p : nat_le c.off i ≡ true = grind arith in
    let q : nat_lt i (c.off + c.len) ≡ false = grind arith in
    rw (p, q) refl

pub lies : (c : Chunk) (i : ℕ) → covers c i ≡ true → (c.off ≤ i) × (i < c.off + c.len)
lies c i e = ⊎_elim
    (λ (l : i < c.off). let no = before c i l in absurd (cc))
    (λ (l : c.off ≤ i). ⊎_elim
    (λ (m : i < c.off + c.len). (l, m))
    (λ (m : c.off + c.len ≤ i). let no = behind c i m in absurd (cc))
    (cases_lt i (c.off + c.len)))
    (cases_lt i c.off)

begins : (from k : ℕ) (d : Chunk) (cs : List Chunk) → Rise from cs → k < length cs → from ≤ (get_or cs k d).off
begins from k d [] h l = absurd (omega arith)
begins from zero d (c ∷ cs) h l = h.0
begins from (suc k) d (c ∷ cs) h l = let rest = begins (c.off + c.len) k d cs h.1 (omega arith) in omega (arith, rest, h.0)

-- an earlier chunk ends before a later one begins
gap : (from j k : ℕ) (d : Chunk) (cs : List Chunk) → Rise from cs → j < k → k < length cs → (get_or cs j d).off + (get_or cs j d).len ≤ (get_or cs k d).off
gap from j k d [] h m l = absurd (omega arith)
gap from j zero d (c ∷ cs) h m l = absurd (omega arith)
gap from zero (suc k) d (c ∷ cs) h m l = begins (c.off + c.len) k d cs h.1 (omega arith)
gap from (suc j) (suc k) d (c ∷ cs) h m l = gap (c.off + c.len) j k d cs h.1 (omega arith) (omega arith)

pub chunks_rise : (from : ℕ) (cs : List Chunk) → Rise from cs → IsNonDecreasingBy (λ c. c.off) cs
chunks_rise from [] h i j d p q = absurd (omega arith)
chunks_rise from (c ∷ cs) h zero zero d p q = omega arith
chunks_rise from (c ∷ cs) h zero (suc j) d p q = omega (arith, begins (c.off + c.len) j d cs h.1 (omega arith))
chunks_rise from (c ∷ cs) h (suc i) zero d p q = absurd (omega arith)
chunks_rise from (c ∷ cs) h (suc i) (suc j) d p q = chunks_rise (c.off + c.len) cs h.1 i j d (omega arith) (omega arith)

-- what `covering` answers
pub none_begun : (cs : List Chunk) (i m : ℕ) → m ≡ 0 → IsPartitionPoint (λ c. c.off ≤ i) (λ c. i < c.off) cs m → Uncovered cs i
none_begun cs i m e p k d l = before (get_or cs k d) i (p.1 k d (omega (arith, e)) l)

pub last_has : (cs : List Chunk) (i m : ℕ) (c : Chunk) → (m ≡ 0 → ⊥) → m ≤ length cs → IsPartitionPoint (λ c. c.off ≤ i) (λ c. i < c.off) cs m → ((d : Chunk) → c ≡ get_or cs (m - 1) d) → i - c.off < c.len → CoveredBy cs i (m - 1)
last_has cs i m c some l p is h = (
  omega arith,
  λ d.
      let low = p.0 (m - 1) d (omega arith) (omega arith) in
      subst (λ x. covers x i ≡ true) (is d) (has c i (omega (arith, low, ap (λ (x : Chunk). x.off) (is d))) (omega (arith, h, low, ap (λ (x : Chunk). x.off) (is d)))),
)

pub last_lacks : (cs : List Chunk) (i m : ℕ) (c : Chunk) → Rise 0 cs → (m ≡ 0 → ⊥) → m ≤ length cs → IsPartitionPoint (λ c. c.off ≤ i) (λ c. i < c.off) cs m → ((d : Chunk) → c ≡ get_or cs (m - 1) d) → c.len ≤ i - c.off → Uncovered cs i
last_lacks cs i m c rise some l p is h k d u =
    let low = p.0 (m - 1) d (omega arith) (omega arith) in
    let off = ap (λ (x : Chunk). x.off) (is d) in
    let len = ap (λ (x : Chunk). x.len) (is d) in
    ⊎_elim
    (λ (a : k < m - 1). behind (get_or cs k d) i (omega (arith, gap 0 k (m - 1) d cs rise a (omega arith), low)))
    (λ (a : m - 1 ≤ k). ⊎_elim
    (λ (b : k < m). let same : m - 1 ≡ k = omega arith in subst (λ n. covers (get_or cs n d) i ≡ false) same (subst (λ x. covers x i ≡ false) (is d) (behind c i (omega (arith, h, low, off)))))
    (λ (b : m ≤ k). before (get_or cs k d) i (p.1 k d b u))
    (cases_lt k m))
    (cases_lt k (m - 1))

-- the same, of the chunk as the code reads it
abbrev pub read_at : List Chunk → ℕ → Chunk
read_at cs k = get_or cs k (record { off = 0; len = 0; src = src.Mem 0 })

pub same_item : (cs : List Chunk) (k : ℕ) (d e : Chunk) → k < length cs → get_or cs k d ≡ get_or cs k e
same_item [] k d e l = absurd (omega arith)
same_item (c ∷ cs) zero d e l = refl
same_item (c ∷ cs) (suc k) d e l = same_item cs k d e (omega arith)

pub last_lacks_at : (cs : List Chunk) (i m : ℕ) → Rise 0 cs → (m ≡ 0 → ⊥) → m ≤ length cs → IsPartitionPoint (λ c. c.off ≤ i) (λ c. i < c.off) cs m → (read_at cs (m - 1)).len ≤ i - (read_at cs (m - 1)).off → Uncovered cs i
last_lacks_at cs i m rise some l p h = last_lacks cs i m (read_at cs (m - 1)) rise some l p (λ d. same_item cs (m - 1) (record { off = 0; len = 0; src = src.Mem 0 }) d (omega arith)) h

-- what the chunks give at a place
pub uncovered_place : (mem : List Run) (cs : List Chunk) (n i : ℕ) → Uncovered cs i → chunk_place mem cs n i ≡ record { item = None; giver = None }
uncovered_place mem [] n i h = refl
uncovered_place mem (c ∷ cs) n i h =
    let first = All-head (λ x. covers x i ≡ false) c cs h in
    ap (λ b. cond b (record { item = item_of mem c.src (i - c.off); giver = Some (n, is_number c.src) }) (chunk_place mem cs (n + 1) i)) first
    ∙ uncovered_place mem cs (n + 1) i (All-tail (λ x. covers x i ≡ false) c cs h)

pub covered_place : (mem : List Run) (cs : List Chunk) (from n k i : ℕ) (d : Chunk) → Rise from cs → k < length cs → covers (get_or cs k d) i ≡ true
    → chunk_place mem cs n i ≡ record { item = item_of mem (get_or cs k d).src (i - (get_or cs k d).off); giver = Some (n + k, is_number (get_or cs k d).src) }
covered_place mem [] from n k i d h l e = absurd (omega arith)
covered_place mem (c ∷ cs) from n zero i d h l e =
    let place : ℕ → Place = λ m. record { item = item_of mem c.src (i - c.off); giver = Some (m, is_number c.src) } in
    let number : n ≡ n + 0 = omega arith in
    ap (λ b. cond b (place n) (chunk_place mem cs (n + 1) i)) e ∙ ap place number
covered_place mem (c ∷ cs) from n (suc k) i d h l e =
    let x = get_or cs k d in
    let above = begins (c.off + c.len) k d cs h.1 (omega arith) in
    let lie = lies x i e in
    let place : ℕ → Place = λ m. record { item = item_of mem x.src (i - x.off); giver = Some (m, is_number x.src) } in
    let number : n + 1 + k ≡ n + suc k = omega arith in
    ap (λ b. cond b (record { item = item_of mem c.src (i - c.off); giver = Some (n, is_number c.src) }) (chunk_place mem cs (n + 1) i)) (behind c i (omega (arith, above, lie)))
    ∙ covered_place mem cs (c.off + c.len) (n + 1) k i d h.1 (omega arith) e ∙ ap place number

pub covered_item : (mem : List Run) (cs : List Chunk) (k i : ℕ) (r : Option ℕ) → Rise 0 cs → CoveredBy cs i k → r ≡ item_of mem (read_at cs k).src (i - (read_at cs k).off) → r ≡ (chunk_place mem cs 0 i).item
covered_item mem cs k i r rise c e =
    let d : Chunk = record { off = 0; len = 0; src = src.Mem 0 } in
    e ∙ sym (ap (λ (p : Place). p.item) (covered_place mem cs 0 0 k i d rise c.0 (c.1 d)))
