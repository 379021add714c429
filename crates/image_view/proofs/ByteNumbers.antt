-- The number of a part whose bytes are known.
use Rattle.std.proofs.Common.{◌≡◌, ◌∙◌, sym, ap, ℕ, suc, ◌+◌, ◌*◌, List, [], ◌∷◌, length, Option, Some, None, refl}
use Rattle.std.specs.Option.{option_map}
use Rattle.std.proofs.lemmas.Option.{same_Some}
use Rattle.snapshot_file.specs.Memory.{number, join, bytes_of}
use Rattle.byteorder.specs.Endian.{little_number}
use Rattle.byteorder.specs.Numbers.{little_from-cons}

-- the bytes of a part, read as a number
number_behind : (b : ℕ) (items : List (Option ℕ)) (found : Option (List ℕ)) (bytes : List ℕ) → ((rest : List ℕ) → found ≡ Some rest → number items ≡ Some (little_number (length rest) rest))
    → option_map (λ bs. b ∷ bs) found ≡ Some bytes → join (Some b) (number items) ≡ Some (little_number (length bytes) bytes)
number_behind b items None bytes h e = absurd (cc)
number_behind b items (Some rest) bytes h e =
    ap (join (Some b)) (h rest refl)
    ∙ ap (λ n. Some (b + 256 * n)) (sym (little_from-cons 0 (length rest) b rest))
    ∙ ap (λ bs. Some (little_number (length bs) bs)) (same_Some (b ∷ rest) bytes e)

pub number_of_bytes : (items : List (Option ℕ)) (bytes : List ℕ) → bytes_of items ≡ Some bytes → number items ≡ Some (little_number (length bytes) bytes)
number_of_bytes [] bytes e = ap (λ bs. Some (little_number (length bs) bs)) (same_Some [] bytes e)
number_of_bytes (None ∷ items) bytes e = absurd (cc)
number_of_bytes (Some b ∷ items) bytes e = number_behind b items (bytes_of items) bytes (λ rest. number_of_bytes items rest) e

length_behind : (b : ℕ) (items : List (Option ℕ)) (found : Option (List ℕ)) (bytes : List ℕ) → ((rest : List ℕ) → found ≡ Some rest → length rest ≡ length items)
    → option_map (λ bs. b ∷ bs) found ≡ Some bytes → length bytes ≡ suc (length items)
length_behind b items None bytes h e = absurd (cc)
length_behind b items (Some rest) bytes h e = ap length (sym (same_Some (b ∷ rest) bytes e)) ∙ ap suc (h rest refl)

-- there are as many bytes as items
pub length_of_bytes : (items : List (Option ℕ)) (bytes : List ℕ) → bytes_of items ≡ Some bytes → length bytes ≡ length items
length_of_bytes [] bytes e = ap length (sym (same_Some [] bytes e))
length_of_bytes (None ∷ items) bytes e = absurd (cc)
length_of_bytes (Some b ∷ items) bytes e = length_behind b items (bytes_of items) bytes (λ rest. length_of_bytes items rest) e
