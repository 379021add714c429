-- How many numbered records are before each place.
use Rattle.std.proofs.Common.{◌≡◌, ◌≤◌, ℕ, ◌⊎◌, List, [], ◌∷◌, ◌++◌, length, slice_get, take, Some, sym, ap, ◌∙◌, inl, inr, arith, count_by}
use Rattle.std.proofs.lemmas.List.{length-take-le, take_all}
use Rattle.std.proofs.lemmas.List.Sums.{count_by-le-length}
use Rattle.cv_type_defs.specs.Numbering.{is_numbered, numbered_before}
use Rattle.cv_type_records.specs.declared.kinds.TypeRec.{TypeRec}
use Rattle.cv_links.proofs.Reaches.{got}

-- one more number is that of the next place
pub one_more : (records : List TypeRec) (numbers : List ℕ) (count : ℕ) → ((place n : ℕ) → slice_get numbers place ≡ Some n → n ≡ numbered_before records place)
    → count ≡ numbered_before records (length numbers) → (place n : ℕ) → slice_get (numbers ++ count ∷ []) place ≡ Some n → n ≡ numbered_before records place
one_more records numbers count are is place n e = by_place (got numbers count place n e)
  where
    by_place : (slice_get numbers place ≡ Some n) ⊎ ((place ≡ length numbers) × (count ≡ n)) → n ≡ numbered_before records place
    by_place (inl h) = are place n h
    by_place (inr h) = sym h.1 ∙ is ∙ ap (numbered_before records) (sym h.0)

-- no more than there are records before
pub few : (records : List TypeRec) (place : ℕ) → place ≤ length records → numbered_before records place ≤ place
few records place h =
    let counted = count_by-le-length (λ (r : TypeRec). is_numbered r.kind) (take place records) in
    let long : length (take place records) ≡ place = length-take-le place records h in
    omega (arith, counted, long)

-- past the end the number is that of all records
pub at_end : (records : List TypeRec) (place : ℕ) → length records ≤ place → numbered_before records place ≡ numbered_before records (length records)
at_end records place h =
    ap (count_by (λ (r : TypeRec). is_numbered r.kind)) (take_all place records h ∙ sym (take_all (length records) records (omega arith)))
