-- The number of places, from the last on.
use Rattle.std.proofs.Common.{◌≡◌, ◌∙◌, sym, ap, ℕ, zero, ◌<◌, ◌≤◌, ◌+◌, ◌-◌, ◌*◌, ◌^◌, suc, arith, List, Some, None, Option, refl, lit<}
use Rattle.std.proofs.Math.Nat.{pow-suc, pow-le-pow_right}
use Rattle.snapshot_file.specs.Memory.{Run, number, join}
use Rattle.image_view.specs.declared.chunk.Source.{Source}
use Rattle.image_view.specs.Places.{place, places, part_of}

-- the number of k places from one on
abbrev pub number_of : List Run → Source → ℕ → ℕ → Option ℕ
number_of mem source a k = number (part_of (places mem source a k))

one_more_byte : (n k b : ℕ) → n < 256 ^ k → b < 256 → n * 256 + b < 256 ^ suc k
one_more_byte n k b h l = rw (pow-suc 256 k) (omega arith)

-- a byte in front of a part whose number is known
front_byte : (mem : List Run) (source : Source) (a k b n : ℕ) → (place mem source a).item ≡ Some b → number_of mem source (a + 1) k ≡ Some n → number_of mem source a (suc k) ≡ Some (n * 256 + b)
front_byte mem source a k b n e f = ap (λ o. join o (number_of mem source (a + 1) k)) e ∙ ap (join (Some b)) f ∙ ap (λ m. Some m) (let s : b + 256 * n ≡ n * 256 + b = omega arith in s)

join_none : (o : Option ℕ) → join o None ≡ None
join_none None = refl
join_none (Some x) = refl

none_join : (o : Option ℕ) → join None o ≡ None
none_join None = refl
none_join (Some x) = refl

front_missing : (mem : List Run) (source : Source) (a k : ℕ) → (place mem source a).item ≡ None → number_of mem source a (suc k) ≡ None
front_missing mem source a k h = ap (λ o. join o (number_of mem source (a + 1) k)) h ∙ none_join (number_of mem source (a + 1) k)

-- a missing byte makes a longer part have no number
later_missing : (mem : List Run) (source : Source) (k a j : ℕ) → j < k → number_of mem source (a + j) (k - j) ≡ None → number_of mem source a k ≡ None
later_missing mem source zero a j h e = absurd (omega arith)
later_missing mem source (suc k) a zero h e =
    let here : a + 0 ≡ a = omega arith in
    let count : suc k - 0 ≡ suc k = omega arith in
    sym (ap (λ x. number_of mem source x (suc k)) here) ∙ sym (ap (number_of mem source (a + 0)) count) ∙ e
later_missing mem source (suc k) a (suc j) h e =
    let here : a + 1 + j ≡ a + suc j = omega arith in
    let count : k - j ≡ suc k - suc j = omega arith in
    let later = later_missing mem source k (a + 1) j (omega arith) (ap (λ x. number_of mem source x (k - j)) here ∙ ap (number_of mem source (a + suc j)) count ∙ e) in
    ap (join (place mem source a).item) later ∙ join_none (place mem source a).item

-- the place below index i is missing
pub missing_at : (mem : List Run) (source : Source) (a k i : ℕ) → 0 < i → i ≤ k → (place mem source (a + (i - 1))).item ≡ None → number_of mem source a k ≡ None
missing_at mem source a k i p q h =
    let count : k - (i - 1) ≡ suc (k - i) = omega arith in
    later_missing mem source k a (i - 1) (omega arith) (ap (number_of mem source (a + (i - 1))) count ∙ front_missing mem source (a + (i - 1)) (k - i) h)

-- the byte below index i stands below the number of those from i on
pub known_at : (mem : List Run) (source : Source) (a k i b n : ℕ) → 0 < i → i ≤ k → (place mem source (a + (i - 1))).item ≡ Some b → number_of mem source (a + i) (k - i) ≡ Some n → number_of mem source (a + (i - 1)) (k - (i - 1)) ≡ Some (n * 256 + b)
known_at mem source a k i b n p q e f =
    let count : k - (i - 1) ≡ suc (k - i) = omega arith in
    let next : a + (i - 1) + 1 ≡ a + i = omega arith in
    ap (number_of mem source (a + (i - 1))) count ∙ front_byte mem source (a + (i - 1)) (k - i) b n e (ap (λ x. number_of mem source x (k - i)) next ∙ f)

pub bound_at : (n k i b : ℕ) → 0 < i → i ≤ k → n < 256 ^ (k - i) → b < 256 → n * 256 + b < 256 ^ (k - (i - 1))
bound_at n k i b p q h l =
    let count : k - (i - 1) ≡ suc (k - i) = omega arith in
    rw count (one_more_byte n (k - i) b h l)

pub fits_at : (n k i : ℕ) → 0 < i → i ≤ k → k ≤ 16 → n < 256 ^ (k - i) → n * 256 + 255 < 2 ^ 128
fits_at n k i p q w h =
    let bound : 256 ^ (k - i) ≤ 256 ^ 15 = pow-le-pow_right {n = 256} (lit< tt) {i = k - i} {j = 15} (omega arith) in
    omega arith
