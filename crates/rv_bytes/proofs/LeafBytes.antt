-- The bytes that are written for a numeric leaf spell its number.
use Rattle.std.proofs.Common.{◌≡◌, ◌<◌, ◌≤◌, ℕ, suc, ◌+◌, ◌-◌, ◌*◌, ◌%◌, ◌^◌, true, false, nat_lt, ℤ, pos, negsuc, ◌≤ℤ◌, ◌<ℤ◌, List, [], ◌++◌, length, take, drop, Some, inl, inr, arith, refl, sym, ap, ◌∙◌, length-append}
use Rattle.std.proofs.lemmas.Bool.{le-leb, lt-leb, cases_lt}
use Rattle.std.proofs.lemmas.Int.{ints}
use Rattle.std.proofs.lemmas.List.{take-append-le}
use Rattle.std.proofs.Math.Seq.{take-append-add}
use borrow.Rule.Slice.PartMut.{put_mid}
use Rattle.byteorder.specs.Endian.{little_number, little_bytes, twos_complement}
use Rattle.byteorder.specs.Numbers.{little_from-bytes, length-bytes_low_first}
use Rattle.byteorder.proofs.Bytes.{take-bytes_low_first}
use Rattle.std.proofs.lemmas.List.{append-nil}
use Rattle.rv_bytes.specs.Leaves.{leaf, leaf_value, leaf_form, behind_kind, numeric, word_of, leaf_bytes, numeric_bytes}
use Rattle.rv_bytes.specs.Writers.{SpellsEverywhere}
use Rattle.rv_bytes.specs.declared.numeric.Leaf.{Leaf}

-- the lowest bytes of a number
low_bytes : (w x : ℕ) → little_number w (little_bytes w x) ≡ x % 256 ^ w
low_bytes w x = ap (little_number w) (sym (append-nil (little_bytes w x))) ∙ little_from-bytes w 0 x [] ∙ ap (λ y. y % 256 ^ w) (omega arith)

-- a number's bytes are so many
long : (w x : ℕ) → length (little_bytes w x) ≡ w
long w x = length-bytes_low_first 0 w x

-- a leaf spells the number that its lowest bytes are
leaf_spelled : (l : Leaf) (z : ℤ) → l.kind < 2 ^ 16 → z ≡ leaf_value l (word_of z % 256 ^ l.width)
    → ((m : ℕ) (t : List ℕ) → (leaf_form (Some l)).spells m z t → (behind_kind l.kind).spells m z t) → SpellsEverywhere numeric z (leaf_bytes z (Some l))
leaf_spelled l z k v behind n =
    let kind = little_bytes 2 l.kind in let bits = little_bytes l.width (word_of z) in
    let is_kind : l.kind ≡ little_number 2 kind = sym (low_bytes 2 l.kind ∙ omega (arith, k)) in
    let is_bits : z ≡ leaf_value l (little_number l.width bits) = v ∙ ap (leaf_value l) (sym (low_bytes l.width (word_of z))) in (
      (
        l.kind,
        record {
          front = kind;
          back = bits;
          split = refl;
          is_front = (kind, (is_kind, (refl, long 2 l.kind)));
          is_back = behind (n + length kind) bits (little_number l.width bits, (is_bits, (bits, (refl, (refl, long l.width (word_of z))))));
        },
      ),
      refl,
    )

-- the two's complement of a number below 0
complement : (w x n : ℕ) → x + suc n ≡ 2 ^ (8 * w) → 2 ^ (8 * w - 1) ≤ x → negsuc n ≡ twos_complement w x
complement w x n e h = rw (lt-leb (suc x) (2 ^ (8 * w - 1)) (omega (arith, h))) (omega (arith, ints, e))

-- a number from 0 on, in an unsigned leaf
from_zero : (kind w n : ℕ) → kind < 2 ^ 16 → n < 256 ^ w → ((m : ℕ) (t : List ℕ) → (leaf_form (Some (leaf kind w false))).spells m (pos n) t → (behind_kind kind).spells m (pos n) t)
    → n % 256 ^ w ≡ n → SpellsEverywhere numeric (pos n) (leaf_bytes (pos n) (Some (leaf kind w false)))
from_zero kind w n k h behind e = leaf_spelled (leaf kind w false) (pos n) k (ap pos (sym e)) behind

spelled_from_zero : (n : ℕ) → n < 2 ^ 64 → SpellsEverywhere numeric (pos n) (numeric_bytes (pos n))
spelled_from_zero n h = elim (cases_lt n 0x8000) [
  | inl l ↦ λ place. kind_alone l place
  | inr g ↦ let no : nat_lt n 0x8000 ≡ false = lt-leb (suc n) 0x8000 (omega (arith, g)) in elim (cases_lt n (2 ^ 16)) [
    | inl l ↦ rw (no, le-leb (suc n) (2 ^ 16) l) (from_zero 0x8002 2 n (omega arith) l (λ m t x. x) (omega (arith, l)))
    | inr i ↦ let none : nat_lt n (2 ^ 16) ≡ false = lt-leb (suc n) (2 ^ 16) (omega (arith, i)) in elim (cases_lt n (2 ^ 32)) [
      | inl l ↦ rw (no, none, le-leb (suc n) (2 ^ 32) l) (from_zero 0x8004 4 n (omega arith) l (λ m t x. x) (omega (arith, l)))
      | inr j ↦ rw (no, none, lt-leb (suc n) (2 ^ 32) (omega (arith, j)), le-leb (suc n) (2 ^ 64) h) (from_zero 0x800a 8 n (omega arith) h (λ m t x. x) (omega (arith, h)))
    ]
  ]
]
  where
    kind_alone : n < 0x8000 → (place : ℕ) → numeric.spells place (pos n) (numeric_bytes (pos n))
    kind_alone l place =
        let yes : nat_lt n 0x8000 ≡ true = le-leb (suc n) 0x8000 l in
        let kind = little_bytes 2 n in
        let is_kind : n ≡ little_number 2 kind = sym (low_bytes 2 n ∙ omega (arith, l)) in
        let is_back : (behind_kind n).spells (place + length kind) (pos n) [] = rw yes (refl, refl) in
        rw yes ((n, record { front = kind; back = []; split = sym (append-nil kind); is_front = (kind, (is_kind, (refl, long 2 n))); is_back = is_back }), refl)

-- a number below 0, in a signed leaf
below_zero : (kind w n : ℕ) → kind < 2 ^ 16 → ((m : ℕ) (t : List ℕ) → (leaf_form (Some (leaf kind w true))).spells m (negsuc n) t → (behind_kind kind).spells m (negsuc n) t)
    → (2 ^ 64 - suc n) % 256 ^ w + suc n ≡ 2 ^ (8 * w) → 2 ^ (8 * w - 1) ≤ (2 ^ 64 - suc n) % 256 ^ w → SpellsEverywhere numeric (negsuc n) (leaf_bytes (negsuc n) (Some (leaf kind w true)))
below_zero kind w n k behind e h = leaf_spelled (leaf kind w true) (negsuc n) k (complement w ((2 ^ 64 - suc n) % 256 ^ w) n e h) behind

spelled_below_zero : (n : ℕ) → n < 2 ^ 63 → SpellsEverywhere numeric (negsuc n) (numeric_bytes (negsuc n))
spelled_below_zero n h = elim (cases_lt n (2 ^ 7)) [
  | inl l ↦ rw (le-leb (suc n) (2 ^ 7) l) (below_zero 0x8000 1 n (omega arith) (λ m t x. x) (omega (arith, l)) (omega (arith, l)))
  | inr g ↦ let no : nat_lt n (2 ^ 7) ≡ false = lt-leb (suc n) (2 ^ 7) (omega (arith, g)) in elim (cases_lt n (2 ^ 15)) [
    | inl l ↦ rw (no, le-leb (suc n) (2 ^ 15) l) (below_zero 0x8001 2 n (omega arith) (λ m t x. x) (omega (arith, l)) (omega (arith, l)))
    | inr i ↦ let none : nat_lt n (2 ^ 15) ≡ false = lt-leb (suc n) (2 ^ 15) (omega (arith, i)) in elim (cases_lt n (2 ^ 31)) [
      | inl l ↦ rw (no, none, le-leb (suc n) (2 ^ 31) l) (below_zero 0x8003 4 n (omega arith) (λ m t x. x) (omega (arith, l)) (omega (arith, l)))
      | inr j ↦ rw (no, none, lt-leb (suc n) (2 ^ 31) (omega (arith, j)), le-leb (suc n) (2 ^ 63) h) (below_zero 0x8009 8 n (omega arith) (λ m t x. x) (omega (arith, h)) (omega (arith, h)))
    ]
  ]
]

-- what is written for a number spells it
pub numeric_spelled : (z : ℤ) → negsuc (2 ^ 63 - 1) ≤ℤ z → z <ℤ pos (2 ^ 64) → SpellsEverywhere numeric z (numeric_bytes z)
numeric_spelled (pos n) low high = spelled_from_zero n (omega (arith, ints, high))
numeric_spelled (negsuc n) low high = spelled_below_zero n (omega (arith, ints, low))

-- a leaf's kind, and after it the lowest bytes of a word, over the front of some bytes
pub leaf_written : (kind word w n k : ℕ) (zs rest xs ys : List ℕ) → w ≤ 8 → n ≡ w → xs ≡ little_bytes 2 kind ++ zs → ys ≡ little_bytes 8 word ++ rest
    → take (2 + n) (put_mid 2 k xs ys) ≡ little_bytes 2 kind ++ little_bytes w word
leaf_written kind word w n k zs rest xs ys h e f g =
    rw (e, f, g) (take-append-add (little_bytes 2 kind) ((little_bytes 8 word ++ rest) ++ drop k zs) w
    ∙ ap (λ t. little_bytes 2 kind ++ t) (
    take-append-le w (little_bytes 8 word ++ rest) (drop k zs) (omega (arith, h, length-append (little_bytes 8 word) rest))
    ∙ take-append-le w (little_bytes 8 word) rest (omega (arith, h)) ∙ take-bytes_low_first 0 8 w word h))
