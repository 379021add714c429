-- A word of a hexadecimal number of any size, and its test.
use Rattle.std.proofs.Common.{◌≡◌, ◌≢◌, ◌∙◌, sym, ap, ℕ, ◌<◌, ◌≤◌, ◌⊎◌, ◌&&◌, ◌||◌, ◌==◌, not, Bool, List, [], ◌∷◌, ◌++◌, length, take, drop, nat_lt, nat_le, arith, refl, codes}
use Rattle.std.specs.Prelude.{slice_index}
use Rattle.std.specs.Bool.{Decides}
use Rattle.std.specs.List.{All}
use Rattle.std.specs.Str.{bytes_eq}
use Rattle.std.proofs.lemmas.Bool.Decides.{Decides-and, Decides-or, Decides-not, Decides-at, Decides-ltb, Decides-eqb, Decides-by_and}
use Rattle.std.proofs.lemmas.Bool.{leb-true, le-leb}
use Rattle.std.proofs.lemmas.List.{take-append-drop}
use Rattle.std.proofs.lemmas.Slice.Eq.{bytes_eq-Decides}
use Rattle.readers.specs.Hex.{is_lower_digit, are_lower_digits, is_hex_word, IsLowerDigit, IsHexNumber}

le_decides : (a b : ℕ) → Decides (nat_le a b) (a ≤ b)
le_decides a b = (λ e. leb-true a b e, λ h. le-leb a b h)

digit_decides : (c : ℕ) → Decides (is_lower_digit c) (IsLowerDigit c)
digit_decides c = Decides-or _ _ (Decides-and _ _ (le_decides 48 c) (le_decides c 57)) (Decides-and _ _ (le_decides 97 c) (le_decides c 102))

digits_decide : (ds : List ℕ) → Decides (are_lower_digits ds) (All IsLowerDigit ds)
digits_decide ds = Decides-by_and is_lower_digit IsLowerDigit are_lower_digits digit_decides refl (λ _ _. refl) ds

-- the parts of the test
Parts : List ℕ → Type 0
Parts word =
    let digits = drop 2 word in
    (take 2 word ≡ codes "0x") × (((0 < length digits) × ((length digits ≡ 1) ⊎ (slice_index digits 0 ≢ 48))) × All IsLowerDigit digits)

parts_decide : (word : List ℕ) → Decides (is_hex_word word) (Parts word)
unfolding Parts
parts_decide word =
    let ds = drop 2 word in
    Decides-and _ _ (bytes_eq-Decides (take 2 word) (codes "0x"))
    (Decides-and _ _ (Decides-and _ _ (Decides-ltb 0 (length ds)) (Decides-or _ _ (Decides-eqb (length ds) 1) (Decides-not _ (Decides-eqb (slice_index ds 0) 48)))) (digits_decide ds))

-- the test holds of the words of numbers
pub number_decides : (word : List ℕ) → Decides (is_hex_word word) (IsHexNumber word)
unfolding Parts
number_decides word =
    let d = parts_decide word in (
      λ e. let p = d.0 e in record { digits = drop 2 word; text = sym (take-append-drop 2 word) ∙ ap (λ t. t ++ drop 2 word) p.0; some = p.1.0.0; first = p.1.0.1; each = p.1.1 },
      λ h. d.1 (rw h.text (refl, ((h.some, h.first), h.each))),
    )

-- so does what equals the test
pub number_decided : (word : List ℕ) (r : Bool) → r ≡ is_hex_word word → Decides r (IsHexNumber word)
number_decided word r e = Decides-at r (is_hex_word word) e (number_decides word)
