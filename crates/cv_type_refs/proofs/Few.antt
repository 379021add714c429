-- Counts of lists are at most their lengths.
use Rattle.std.proofs.Common.{◌≡◌, ◌≤◌, ℕ, zero, suc, List, [], ◌∷◌, length, take, count_by, arith, nat_lt}
use Rattle.std.proofs.lemmas.List.Sums.{count_by-le-length}
use Rattle.cv_type_defs.specs.Numbering.{is_numbered, numbered_before}
use Rattle.cv_type_records.specs.declared.kinds.TypeRec.{TypeRec}

take_le : {A : Type 0} (n : ℕ) (xs : List A) → length (take n xs) ≤ length xs
take_le zero xs = omega arith
take_le (suc n) [] = omega arith
take_le (suc n) (x ∷ xs) = let r = take_le n xs in omega (arith, r)

-- no more types than records
pub few_before : (records : List TypeRec) (place : ℕ) → numbered_before records place ≤ length records
few_before records place =
    let counted = count_by-le-length (λ (r : TypeRec). is_numbered r.kind) (take place records) in
    let long = take_le place records in
    omega (arith, counted, long)

-- no more pointers than are used
pub few_below : (t : ℕ) (used : List ℕ) → count_by (λ u. nat_lt u t) used ≤ length used
few_below t used = count_by-le-length (λ u. nat_lt u t) used
