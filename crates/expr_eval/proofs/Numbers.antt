-- The little-endian number of a part of memory is that of its bytes.
use Rattle.std.proofs.Common.{◌≡◌, ◌∙◌, sym, ap, refl, ℕ, suc, ◌+◌, ◌*◌, ◌<◌, ◌≤◌, ◌^◌, ◌%◌, List, [], ◌∷◌, length, get_or, Option, Some, None, arith, lit<}
use Rattle.std.proofs.Math.Nat.{pow-suc, pow-le-pow_right}
use Rattle.std.specs.Option.{option_map}
use Rattle.snapshot_file.specs.Memory.{Run, items_at, bytes_of, join, number}
use Rattle.expr_eval.specs.Results.{little_endian, wrapped}

join_value : (b : ℕ) (o : Option (List ℕ)) → join (Some b) (option_map little_endian o) ≡ option_map little_endian (option_map (λ bytes. b ∷ bytes) o)
join_value b (Some bytes) = refl
join_value b None = refl

none_join : (o : Option ℕ) → join None o ≡ None
none_join (Some n) = refl
none_join None = refl

-- the number of a part, where its bytes are known
pub number_is : (items : List (Option ℕ)) → number items ≡ option_map little_endian (bytes_of items)
number_is [] = refl
number_is (None ∷ items) = none_join (number items)
number_is (Some b ∷ items) = ap (join (Some b)) (number_is items) ∙ join_value b (bytes_of items)

-- the number that was read is that of the bytes
pub read_is : (memory : List Run) (a n m : ℕ) (bytes : List ℕ) → Some bytes ≡ bytes_of (items_at memory a n) → m ≡ little_endian bytes % 2 ^ 64 → Some m ≡ option_map (wrapped 8) (number (items_at memory a n))
read_is memory a n m bytes e h =
    ap Some h ∙ ap (λ o. option_map (wrapped 8) (option_map little_endian o)) e ∙ ap (option_map (wrapped 8)) (sym (number_is (items_at memory a n)))

pub read_misses : (memory : List Run) (a n : ℕ) → None ≡ bytes_of (items_at memory a n) → None ≡ option_map (wrapped 8) (number (items_at memory a n))
read_misses memory a n e =
    ap (λ o. option_map (wrapped 8) (option_map little_endian o)) e ∙ ap (option_map (wrapped 8)) (sym (number_is (items_at memory a n)))

byte_above : (n k b : ℕ) → n < 256 ^ k → b < 256 → b + 256 * n < 256 ^ suc k
byte_above n k b h l = rw (pow-suc 256 k) (omega arith)

value_bound : (bytes : List ℕ) → ((k : ℕ) → get_or bytes k 0 < 256) → little_endian bytes < 256 ^ length bytes
value_bound [] h = lit< tt
value_bound (b ∷ bytes) h = byte_above (little_endian bytes) (length bytes) b (value_bound bytes (λ k. h (suc k))) (h 0)

-- at most 8 bytes have a number below 2 ^ 64
pub whole_number : (bytes : List ℕ) → ((k : ℕ) → get_or bytes k 0 < 256) → length bytes ≤ 8 → little_endian bytes % 2 ^ 64 ≡ little_endian bytes
whole_number bytes h few =
    let wide : 256 ^ length bytes ≤ 256 ^ 8 = pow-le-pow_right {n = 256} (lit< tt) {i = length bytes} {j = 8} few in
    let bound = value_bound bytes h in
    let within : little_endian bytes < 2 ^ 64 = omega arith in
    omega arith
