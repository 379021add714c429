-- The signed number that a word spells in decimal.
use Rattle.std.proofs.Common.{◌≡◌, ◌≢◌, ◌∙◌, sym, ap, subst, refl, ℕ, ℤ, pos, negsuc, zero, suc, ◌+◌, ◌<◌, ◌≤◌, ◌^◌, ◌&&◌, false, cond, List, [], ◌∷◌, drop, Some, None, nat_lt, nat_le, arith, lit≤, FitsSigned, to_z, of_z}
use Rattle.std.proofs.lemmas.Bool.{lt-ltb, le-leb, leb-true}
use Rattle.std.proofs.lemmas.List.Elements.{All-head}
use Rattle.std.proofs.lemmas.Option.{cond_some}
use Rattle.std.proofs.Math.Nat.{pow-suc, pow-le-pow_right}
use Rattle.std.proofs.lemmas.Nat.{pow_pos}
use Rattle.std.proofs.lemmas.Int.{to_z-of_z}
use Rattle.std.specs.Fmt.{decimal, signed_decimal}
use Rattle.std.specs.Int.{w128, Width}
use Rattle.std.specs.Int.Signed.{mag}
use Rattle.std.specs.Option.{option_map}
use Rattle.readers.specs.Lines.{Lacks}
use Rattle.readers.proofs.HexWords.{both}
use Rattle.layout_words.specs.Spellings.{◌>>=◌, begins_with, number_of}
use Rattle.layout_words.specs.PlaceSpellings.{negative, signed_of}
use Rattle.layout_words.proofs.Decimals.{number_some, number_says}
use Rattle.layout_words.proofs.Lacking.{decimal_lacks}
use Rattle.layout_words.proofs.ItemLaws.{by_test, cond_true, cond_false, begun, map_says}
use Rattle.layout_words.proofs.FormLaws.{bind_says}

-- a number that is below 0, and its magnitude
negative_says : (most n : ℕ) (z : ℤ) → negative most n ≡ Some z → (m : ℕ) × (n ≡ suc m) × (suc m ≤ most) × (negsuc m ≡ z)
negative_says most zero z e = absurd (cc)
negative_says most (suc m) z e =
    let at = cond_some (nat_lt 0 (suc m) && nat_le (suc m) most) (negsuc m) z e in
    (m, refl, leb-true (suc m) most (both (nat_lt 0 (suc m)) (nat_le (suc m) most) at.0).1, at.1)

negative_some : (most m : ℕ) → suc m ≤ most → negative most (suc m) ≡ Some (negsuc m)
negative_some most m h =
    ap (λ t. cond (t && nat_le (suc m) most) (Some (negsuc m)) None) (lt-ltb 0 (suc m) (omega arith))
    ∙ ap (λ t. cond t (Some (negsuc m)) None) (le-leb (suc m) most h)

-- the number that is read has the text, and is within its bits
pub signed_says : (bits : ℕ) (text : List ℕ) (z : ℤ) → signed_of bits text ≡ Some z → (text ≡ signed_decimal z) × (mag z < 2 ^ bits)
unfolding signed_of
signed_says bits text z e = by_test (begins_with 45 text)
    (λ t.
    let found = bind_says (number_of (bits + 1) (drop 1 text)) (negative (2 ^ bits)) z (sym (cond_true (begins_with 45 text) (number_of (bits + 1) (drop 1 text) >>= negative (2 ^ bits)) _ t) ∙ e) in
    let known = number_says (bits + 1) (drop 1 text) found.0 found.1 in
    let under = negative_says (2 ^ bits) found.0 z found.2 in
    subst (λ y. (text ≡ signed_decimal y) × (mag y < 2 ^ bits)) under.3 (begun 45 text t ∙ ap (λ d. 45 ∷ d) (known.1 ∙ ap decimal under.1), omega (arith, under.2)))
    (λ t.
    let found = map_says pos (number_of bits text) z (sym (cond_false (begins_with 45 text) _ (option_map pos (number_of bits text)) t) ∙ e) in
    let known = number_says bits text found.0 found.1 in
    subst (λ y. (text ≡ signed_decimal y) × (mag y < 2 ^ bits)) found.2 (known.1, known.0))

no_lead : (b : ℕ) (text : List ℕ) → Lacks b text → begins_with b text ≡ false
no_lead b [] h = refl
no_lead b (c ∷ text) h = let not_b : c ≢ b = All-head (λ x. x ≢ b) c text h in grind (arith, not_b)

twice : (bits n : ℕ) → n ≤ 2 ^ bits → n < 2 ^ (bits + 1)
twice bits n h =
    let more : bits + 1 ≡ suc bits = omega arith in
    let small : n < 2 ^ suc bits = let some = pow_pos bits in omega (arith, pow-suc 2 bits, h, some) in
    subst (λ b. n < 2 ^ b) (sym more) small

-- and each number within its bits is read
pub signed_some : (bits : ℕ) (z : ℤ) → bits ≤ 63 → mag z < 2 ^ bits → signed_of bits (signed_decimal z) ≡ Some z
unfolding signed_of
signed_some bits (pos n) h l =
    cond_false (begins_with 45 (decimal n)) _ (option_map pos (number_of bits (decimal n))) (no_lead 45 (decimal n) (decimal_lacks 45 bits n (lit≤ tt) (omega arith) l))
    ∙ ap (option_map pos) (number_some bits (decimal n) n (omega arith) l refl)
signed_some bits (negsuc m) h l =
    let below = twice bits (suc m) (omega arith) in
    ap (λ o. o >>= negative (2 ^ bits)) (number_some (bits + 1) (decimal (suc m)) (suc m) (omega arith) below refl) ∙ negative_some (2 ^ bits) m (omega arith)

-- a number that is read fits more bits too
pub number_fits : (bits more : ℕ) (text : List ℕ) (n : ℕ) → bits ≤ more → Some n ≡ number_of bits text → n < 2 ^ more
number_fits bits more text n h e =
    let wide : 2 ^ bits ≤ 2 ^ more = pow-le-pow_right {n = 2} (lit≤ tt) h in
    omega (arith, (number_says bits text n (sym e)).0, wide)

-- a number that is read as one of 128 bits, and then cut to its own
pub as_wide : (bits : ℕ) (text : List ℕ) (z : ℤ) → bits ≤ 63 → Some z ≡ signed_of bits text → to_z w128 (of_z w128 z) ≡ z
as_wide bits text z h e =
    let most : 2 ^ bits ≤ 2 ^ 63 = pow-le-pow_right {n = 2} (lit≤ tt) h in
    let wide : FitsSigned w128 z = omega (arith, most, (signed_says bits text z (sym e)).1) in
    to_z-of_z w128 z wide

pub as_narrow : (w : Width) (z y : ℤ) → y ≡ z → FitsSigned w z → FitsSigned w y × (to_z w (of_z w y) ≡ z)
as_narrow w z y e fits = (subst (FitsSigned w) (sym e) fits, ap (λ x. to_z w (of_z w x)) e ∙ to_z-of_z w z fits)
