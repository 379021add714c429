-- Ranges of places.
use Rattle.std.proofs.Common.{◌≡◌, ℕ, zero, suc, ◌+◌, ◌≤◌, List, length, take, drop, map, sym, ap, ◌∙◌, arith, add-zero}
use Rattle.std.specs.List.{range_with_len}
use Rattle.std.proofs.lemmas.List.FromFn.{take-map-range_with_len, length-map-range_with_len}
use Rattle.std.proofs.lemmas.List.{length-map}
use Rattle.snapshot_file.specs.Memory.{Run}
use Rattle.image_view.specs.declared.chunk.Source.{Source}
use Rattle.image_view.specs.Places.{Place, place, places, part_of}

drop_range : {X : Type 0} (f : ℕ → X) (a n o l : ℕ) → o + l ≤ n → take l (drop o (map f (range_with_len a n))) ≡ map f (range_with_len (a + o) l)
drop_range f a n zero l h = take-map-range_with_len f a n l (omega arith) ∙ ap (λ b. map f (range_with_len b l)) (sym (add-zero a))
drop_range f a zero (suc o) l h = absurd (omega arith)
drop_range f a (suc n) (suc o) l h = drop_range f (a + 1) n o l (omega arith) ∙ ap (λ b. map f (range_with_len b l)) (let e : a + 1 + o ≡ a + suc o = omega arith in e)

pub part_of_places : (mem : List Run) (source : Source) (a n o l : ℕ) → o + l ≤ n → take l (drop o (places mem source a n)) ≡ places mem source (a + o) l
part_of_places mem source a n o l h = drop_range (place mem source) a n o l h

pub length_places : (mem : List Run) (source : Source) (a n : ℕ) → length (places mem source a n) ≡ n
length_places mem source a n = length-map-range_with_len (place mem source) a n

-- a part has as many items as places
pub length_part : (mem : List Run) (source : Source) (a n : ℕ) → length (part_of (places mem source a n)) ≡ n
length_part mem source a n = length-map (places mem source a n) (λ (p : Place). p.item) ∙ length_places mem source a n
