-- How many groups of seven bits a number has, and how they are laid out.
use Rattle.std.proofs.Common.{◌≡◌, ◌<◌, ◌≤◌, ℕ, zero, suc, ◌+◌, ◌-◌, ◌/◌, ◌%◌, ◌^◌, List, [], ◌∷◌, ◌++◌, length, take, drop, slice_set, Result, Ok, Err, OnOk, arith, sym, ap, ◌∙◌}
use Rattle.std.proofs.lemmas.List.{take-append-le, length-take-le}
use borrow.Rule.Slice.PartMut.{put_mid}
use Rattle.rv_io.specs.declared.memory.Memory.{Memory}
use Rattle.rv_bytes.specs.Forms.{Form}
use Rattle.rv_bytes.specs.Writers.{IsShortest, AppendsShortest, groups_bytes, IsGroupCount}
use Rattle.rv_bytes.proofs.Bits.{pow_next}

-- a number from 128 on has one group more than what is left of it
pub count_more : (n r : ℕ) → 128 ≤ n → n < 2 ^ 64 → IsGroupCount (n / 128) r → IsGroupCount n (1 + r)
count_more n r h f c = record {
  some = omega arith;
  ten = omega (arith, c.fewest 9 (omega arith) (omega (arith, f)));
  holds = omega (arith, c.holds, pow_next r, ap (λ j. 128 ^ j) one);
  fewest = λ more i j. fewest more i j;
}
  where
    one : 1 + r ≡ suc r
    one = omega arith

    fewest : (more : ℕ) → 1 ≤ more → n < 128 ^ more → 1 + r ≤ more
    fewest zero i j = absurd (omega (arith, i))
    fewest (suc zero) i j = absurd (omega (arith, j, h))
    fewest (suc (suc k)) i j = omega (arith, c.fewest (suc k) (omega arith) (omega (arith, j, pow_next (suc k))))

-- the first byte, and after it the groups that follow
pub fill_rest : (more n k : ℕ) (xs ys : List ℕ) → let zs = slice_set xs 0 (128 + n % 128) in 0 < more → more < length xs → length ys ≡ length (take (length zs - 1) (drop 1 zs))
    → take (more - 1 + 1) ys ≡ groups_bytes (more - 1) (n / 128) → take (more + 1) (put_mid 1 k zs ys) ≡ groups_bytes more n
fill_rest zero n k xs ys p l e h = absurd (omega (arith, p))
fill_rest (suc m) n k [] ys p l e h = absurd (omega (arith, l))
fill_rest (suc m) n k (x ∷ xs) ys p l e h =
    let before : suc m - 1 ≡ m = omega arith in
    let all : suc (length xs) - 1 ≡ length xs = omega arith in
    let long : length ys ≡ length xs = e ∙ ap (λ j. length (take j xs)) all ∙ length-take-le (length xs) xs (omega arith) in
    let rest : take (m + 1) ys ≡ groups_bytes m (n / 128) = ap (λ j. take (j + 1) ys) (sym before) ∙ h ∙ ap (λ j. groups_bytes j (n / 128)) before in
    let one : m + 1 ≡ suc m = omega arith in
    let two : suc m + 1 ≡ suc (suc m) = omega arith in
    rw two (ap (λ zs. (128 + n % 128) ∷ zs)
    (take-append-le (suc m) ys (drop k xs) (omega (arith, l, long)) ∙ ap (λ j. take j ys) (sym one) ∙ rest))

-- a shortest spelling is appended
pub appends : {A : Type 0} (F : Form ℕ A) (v : A) (t old new : List ℕ) (r : Result Unit Memory) → IsShortest F v t → OnOk r (new ≡ old ++ t) → OnOk r (AppendsShortest F v old new)
appends F v t old new (Ok x) s h = record { spelling = t; appended = h; shortest = s }
appends F v t old new (Err e) s h = tt
