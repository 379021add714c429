-- Parts of memory, where a run is known from an address on.
use Rattle.std.proofs.Common.{◌≡◌, ◌∙◌, sym, ap, refl, ℕ, zero, suc, ◌+◌, ◌<◌, ◌≤◌, ◌^◌, Bool, true, false, cond, List, [], ◌∷◌, length, take, Option, Some, None, nat_lt, arith}
use Rattle.std.specs.Option.{option_map}
use Rattle.snapshot_file.specs.Memory.{Run, byte_at, item_at, items_at, bytes_of}
use Rattle.snapshot_file.specs.Spans.{IsRest}

rest_tail : (runs : List Run) (a x : ℕ) (rest : List ℕ) → IsRest runs a (x ∷ rest) → IsRest runs (a + 1) rest
rest_tail runs a x rest h = record {
  there = λ j l. let place : a + 1 + j ≡ a + suc j = omega arith in ap (byte_at runs) place ∙ h.there (suc j) (omega arith);
  past = let place : a + 1 + length rest ≡ a + length (x ∷ rest) = omega arith in ap (byte_at runs) place ∙ h.past;
  below = λ p. omega (arith, h.below (omega arith));
}

first_item : (runs : List Run) (a x : ℕ) (rest : List ℕ) → IsRest runs a (x ∷ rest) → item_at runs a ≡ Some x
first_item runs a x rest h =
    let t : nat_lt a (2 ^ 64) ≡ true = grind (arith, h.below (omega arith)) in
    let place : a + 0 ≡ a = omega arith in
    ap (λ b. cond b (byte_at runs a) None) t ∙ ap (byte_at runs) (sym place) ∙ h.there 0 (omega arith)

no_item : (b : Bool) (o : Option ℕ) → o ≡ None → cond b o None ≡ None
no_item true o e = e
no_item false o e = refl

-- as many bytes as the run has
pub part_there : (runs : List Run) (a n : ℕ) (rest : List ℕ) → IsRest runs a rest → n ≤ length rest → bytes_of (items_at runs a n) ≡ Some (take n rest)
part_there runs a zero rest h l = refl
part_there runs a (suc n) [] h l = absurd (omega arith)
part_there runs a (suc n) (x ∷ rest) h l =
    ap (λ item. bytes_of (item ∷ items_at runs (a + 1) n)) (first_item runs a x rest h)
    ∙ ap (option_map (λ bytes. x ∷ bytes)) (part_there runs (a + 1) n rest (rest_tail runs a x rest h) (omega arith))

-- more bytes than the run has
pub part_missing : (runs : List Run) (a n : ℕ) (rest : List ℕ) → IsRest runs a rest → length rest < n → bytes_of (items_at runs a n) ≡ None
part_missing runs a zero rest h l = absurd (omega arith)
part_missing runs a (suc n) [] h l =
    let place : a + 0 ≡ a = omega arith in
    ap (λ item. bytes_of (item ∷ items_at runs (a + 1) n)) (no_item (nat_lt a (2 ^ 64)) (byte_at runs a) (ap (byte_at runs) (sym place) ∙ h.past))
part_missing runs a (suc n) (x ∷ rest) h l =
    ap (λ item. bytes_of (item ∷ items_at runs (a + 1) n)) (first_item runs a x rest h)
    ∙ ap (option_map (λ bytes. x ∷ bytes)) (part_missing runs (a + 1) n rest (rest_tail runs a x rest h) (omega arith))
