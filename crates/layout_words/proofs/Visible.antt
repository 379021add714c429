-- Texts of which each byte is ASCII, and none is below some byte.
use Rattle.std.proofs.Common.{◌≡◌, ◌≢◌, refl, ℕ, ℤ, pos, negsuc, zero, suc, ◌<◌, ◌≤◌, ◌^◌, ◌&&◌, Bool, true, nat_le, List, [], ◌∷◌, ◌++◌, codes, arith, lit≤, lit<, false}
use Rattle.std.proofs.lemmas.Bool.{leb-true}
use Rattle.std.proofs.lemmas.List.Elements.{All-nil, All-cons, All-append, All-weaker, All-head, All-tail}
use Rattle.std.specs.Char.{digit_value}
use Rattle.std.specs.Fmt.{decimal, signed_decimal, digits}
use Rattle.std.specs.Int.Signed.{mag}
use Rattle.std.specs.List.{All}
use Rattle.std.specs.Str.Parse.{AllDigits}
use Rattle.hex.specs.Hex.{IsBytes, encode_lower, is_hex_digit}
use Rattle.hex.proofs.HexLemmas.{decode_of-ok, decode_of-encode_lower}
use Rattle.readers.specs.Hex.{hex_text}
use Rattle.readers.specs.Lines.{Lacks}
use Rattle.readers.proofs.HexWords.{both}
use Rattle.readers.proofs.HexWords as hex_words
use Rattle.layout_words.proofs.Decimals as decimals

-- no byte is below this one, and each is ASCII
abbrev pub IsFrom : ℕ → List ℕ → Type 0
IsFrom least bytes = All (λ b. (least ≤ b) × (b < 128)) bytes

pub from_nil : (least : ℕ) → IsFrom least []
from_nil least = All-nil (λ b. (least ≤ b) × (b < 128))

pub from_cons : (least b : ℕ) (bytes : List ℕ) → (least ≤ b) × (b < 128) → IsFrom least bytes → IsFrom least (b ∷ bytes)
from_cons least b bytes h k = All-cons (λ x. (least ≤ x) × (x < 128)) b bytes h k

pub from_append : (least : ℕ) (xs ys : List ℕ) → IsFrom least xs → IsFrom least ys → IsFrom least (xs ++ ys)
from_append least xs ys h k = All-append (λ b. (least ≤ b) × (b < 128)) xs ys h k

-- the same as a test, for literals
abbrev pub is_from : ℕ → List ℕ → Bool
is_from least [] = true
is_from least (b ∷ bytes) = (nat_le least b && nat_le b 127) && is_from least bytes

pub from_test : (least : ℕ) (bytes : List ℕ) → is_from least bytes ≡ true → IsFrom least bytes
from_test least [] e = from_nil least
from_test least (b ∷ bytes) e =
    let parts = both (nat_le least b && nat_le b 127) (is_from least bytes) e in
    let ends = both (nat_le least b) (nat_le b 127) parts.0 in
    let small = leb-true b 127 ends.1 in
    from_cons least b bytes (leb-true least b ends.0, omega (arith, small)) (from_test least bytes parts.1)

-- a byte below all others is not there
pub from_lacks : (least c : ℕ) (bytes : List ℕ) → c < least → IsFrom least bytes → Lacks c bytes
from_lacks least c bytes h k = All-weaker (λ b. (least ≤ b) × (b < 128)) (λ b. b ≢ c) (λ b l e. omega (arith, h, l.0, e)) bytes k

pub from_weaker : (least less : ℕ) (bytes : List ℕ) → less ≤ least → IsFrom least bytes → IsFrom less bytes
from_weaker least less bytes h k = All-weaker (λ b. (least ≤ b) × (b < 128)) (λ b. (less ≤ b) × (b < 128)) (λ b l. (omega (arith, h, l.0), l.1)) bytes k

from_digit : (c : ℕ) → digit_value c < 16 → (48 ≤ c) × (c < 128)
from_digit c h = (grind (arith, h), grind (arith, h))

from_digits : (base : ℕ) (ds : List ℕ) → base ≤ 16 → AllDigits base ds → IsFrom 48 ds
from_digits base [] h d = from_nil 48
from_digits base (x ∷ ds) h d = from_cons 48 x ds (from_digit x (omega (arith, d.0, h))) (from_digits base ds h d.1)

pub from_decimal : (bits n : ℕ) → bits ≤ 128 → n < 2 ^ bits → IsFrom 48 (decimal n)
from_decimal bits n h l = from_digits 10 (decimal n) (lit≤ tt) (decimals.numeral bits n h l).0.1

pub from_hex : (n : ℕ) → n < 2 ^ 64 → IsFrom 48 (hex_text n)
from_hex n l = from_append 48 (codes "0x") (digits 16 false n) (from_test 48 (codes "0x") refl) (from_digits 16 (digits 16 false n) (lit≤ tt) (hex_words.numeral n l).0.1)

-- a sign is below the digits
pub from_signed : (z : ℤ) → mag z < 2 ^ 63 → IsFrom 45 (signed_decimal z)
from_signed (pos n) l = from_weaker 48 45 (decimal n) (lit≤ tt) (from_decimal 63 n (lit≤ tt) l)
from_signed (negsuc m) l =
    let below : suc m < 2 ^ 64 = let wide : 2 ^ 63 < 2 ^ 64 = lit< tt in omega (arith, l, wide) in
    from_cons 45 45 (decimal (suc m)) (lit≤ tt, lit< tt) (from_weaker 48 45 (decimal (suc m)) (lit≤ tt) (from_decimal 64 (suc m) (lit≤ tt) below))

-- lists of bytes, as either crate says it

pub as_bytes : (bytes : List ℕ) → All (λ b. b < 256) bytes → IsBytes bytes
as_bytes [] h i = lit< tt
as_bytes (b ∷ bytes) h zero = All-head (λ x. x < 256) b bytes h
as_bytes (b ∷ bytes) h (suc i) = as_bytes bytes (All-tail (λ x. x < 256) b bytes h) i

pub of_bytes : (bytes : List ℕ) → IsBytes bytes → All (λ b. b < 256) bytes
of_bytes [] h = All-nil (λ b. b < 256)
of_bytes (b ∷ bytes) h = All-cons (λ x. x < 256) b bytes (h zero) (of_bytes bytes (λ i. h (suc i)))

hex_digit_from : (c : ℕ) → is_hex_digit c ≡ true → (48 ≤ c) × (c < 128)
hex_digit_from c h = (grind (arith, h), grind (arith, h))

pub from_pairs : (bytes : List ℕ) → All (λ b. b < 256) bytes → IsFrom 48 (encode_lower bytes)
from_pairs bytes h =
    let read = decode_of-ok (encode_lower bytes) bytes (decode_of-encode_lower bytes (as_bytes bytes h)) in
    All-weaker (λ b. is_hex_digit b ≡ true) (λ b. (48 ≤ b) × (b < 128)) hex_digit_from (encode_lower bytes) read.1
