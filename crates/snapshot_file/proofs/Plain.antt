-- Words of plain bytes: ASCII, without a space and without an LF.
use Rattle.std.proofs.Common.{◌≡◌, ◌≤◌, lit≤, refl, ◌≢◌, ap, ℕ, zero, suc, ◌<◌, ◌^◌, Bool, true, false, List, [], ◌∷◌, ◌++◌, arith, lit<, Ok, nat_lt, ◌&&◌}
use Rattle.std.proofs.lemmas.Bool.{and_parts, ltb-true}
use Rattle.std.specs.List.{AllPass}
use Rattle.std.specs.Str.{IsAscii, is_utf8}
use Rattle.std.specs.Char.{digit_value}
use Rattle.std.specs.Fmt.{digits}
use Rattle.std.specs.Str.Parse.{AllDigits}
use Rattle.std.proofs.lemmas.Str.{IsUtf8-from_ascii, is_utf8-from_IsUtf8, IsAscii-append}
use Rattle.std.proofs.lemmas.List.Elements.{All-nil, All-cons, All-head, All-tail, All-append}
use Rattle.hex.specs.Hex.{decode_of, is_hex_digit}
use Rattle.hex.proofs.HexLemmas.{decode_of-ok}
use Rattle.snapshot_file.specs.declared.registers.Reg.{Reg}
use Rattle.snapshot_file.specs.declared.registers.Reg.TheVariants as regs
use Rattle.snapshot_file.specs.Registers.{name_of}
use Rattle.readers.specs.Lines.{Lacks}
use Rattle.readers.specs.Hex.{hex_text}
use Rattle.readers.proofs.HexWords.{wide_numeral}

-- the byte is ASCII, and neither a space nor an LF
abbrev pub IsPlain : ℕ → Type 0
IsPlain b = (b < 128) × (b ≢ 32) × (b ≢ 10)

abbrev pub ArePlain : List ℕ → Type 0
ArePlain [] = Unit {0}
ArePlain (b ∷ bytes) = IsPlain b × ArePlain bytes

-- the same as a test, for literals
abbrev is_plain : ℕ → Bool
is_plain b = nat_lt b 128 && (nat_lt 32 b)

abbrev pub are_plain : List ℕ → Bool
are_plain [] = true
are_plain (b ∷ bytes) = is_plain b && are_plain bytes

plain_byte : (b : ℕ) → is_plain b ≡ true → IsPlain b
plain_byte b e =
    let parts = and_parts (nat_lt b 128) (nat_lt 32 b) e in
    let above = ltb-true 32 b parts.1 in
    (ltb-true b 128 parts.0, λ q. omega (arith, above), λ q. omega (arith, above))

pub plain_by_test : (bytes : List ℕ) → are_plain bytes ≡ true → ArePlain bytes
plain_by_test [] e = tt
plain_by_test (b ∷ bytes) e =
    let parts = and_parts (is_plain b) (are_plain bytes) e in
    (plain_byte b parts.0, plain_by_test bytes parts.1)

pub plain_ascii : (bytes : List ℕ) → ArePlain bytes → IsAscii bytes
plain_ascii [] h i = lit< tt
plain_ascii (b ∷ bytes) h zero = h.0.0
plain_ascii (b ∷ bytes) h (suc i) = plain_ascii bytes h.1 i

pub plain_lacks_space : (bytes : List ℕ) → ArePlain bytes → Lacks 32 bytes
plain_lacks_space [] h = All-nil (λ b. b ≢ 32)
plain_lacks_space (b ∷ bytes) h = All-cons (λ x. x ≢ 32) b bytes h.0.1 (plain_lacks_space bytes h.1)

pub plain_lacks_lf : (bytes : List ℕ) → ArePlain bytes → Lacks 10 bytes
plain_lacks_lf [] h = All-nil (λ b. b ≢ 10)
plain_lacks_lf (b ∷ bytes) h = All-cons (λ x. x ≢ 10) b bytes h.0.2 (plain_lacks_lf bytes h.1)

plain_digit : (c : ℕ) → digit_value c < 16 → IsPlain c
plain_digit c h = (grind arith, λ e. let same = ap digit_value e in omega arith, λ e. let same = ap digit_value e in omega arith)

plain_digits : (ds : List ℕ) → AllDigits 16 ds → ArePlain ds
plain_digits [] h = tt
plain_digits (c ∷ ds) h = (plain_digit c h.0, plain_digits ds h.1)

-- a spelled number is plain
pub plain_wide : (n : ℕ) → n < 2 ^ 128 → ArePlain (hex_text n)
plain_wide n l = ((lit< tt, λ e. omega arith, λ e. omega arith), ((lit< tt, λ e. omega arith, λ e. omega arith), plain_digits (digits 16 false n) (wide_numeral n l).0.1))

pub plain_hex : (n : ℕ) → n < 2 ^ 64 → ArePlain (hex_text n)
plain_hex n l = let wide : 2 ^ 64 ≤ 2 ^ 128 = lit≤ tt in plain_wide n (omega arith)

plain_pair : (c : ℕ) → is_hex_digit c ≡ true → IsPlain c
plain_pair c h = (grind arith, λ e. let same = ap is_hex_digit e in cc, λ e. let same = ap is_hex_digit e in cc)

plain_pairs : (ds : List ℕ) → AllPass is_hex_digit ds → ArePlain ds
plain_pairs [] h = tt
plain_pairs (c ∷ ds) h = (plain_pair c (All-head (λ x. is_hex_digit x ≡ true) c ds h), plain_pairs ds (All-tail (λ x. is_hex_digit x ≡ true) c ds h))

-- pairs of digits are plain
pub plain_decoded : (ds bytes : List ℕ) → decode_of ds ≡ Ok bytes → ArePlain ds
plain_decoded ds bytes h = plain_pairs ds (decode_of-ok ds bytes h).1

pub utf8_of : (bytes : List ℕ) → IsAscii bytes → is_utf8 bytes ≡ true
utf8_of bytes h = is_utf8-from_IsUtf8 bytes (IsUtf8-from_ascii bytes h)

ascii_behind : (word : List ℕ) → IsAscii word → IsAscii (32 ∷ word)
ascii_behind word k zero = lit< tt
ascii_behind word k (suc i) = k i

-- a space and a plain word after a line that is ASCII
pub ascii_more : (front word : List ℕ) → IsAscii front → IsAscii word → IsAscii (front ++ 32 ∷ word)
ascii_more front word h k = IsAscii-append front (32 ∷ word) h (ascii_behind word k)

lacks_append : (c : ℕ) (xs ys : List ℕ) → Lacks c xs → Lacks c ys → Lacks c (xs ++ ys)
lacks_append c xs ys h k = All-append (λ b. b ≢ c) xs ys h k

-- a space and a plain word after a line without an LF
pub lf_more : (front word : List ℕ) → Lacks 10 front → Lacks 10 word → Lacks 10 (front ++ 32 ∷ word)
lf_more front word h k = lacks_append 10 front (32 ∷ word) h (All-cons (λ b. b ≢ 10) 32 word (λ e. omega arith) k)

name_test : (reg : Reg) → are_plain (name_of reg) ≡ true
name_test regs.Rax = refl
name_test regs.Rdx = refl
name_test regs.Rcx = refl
name_test regs.Rbx = refl
name_test regs.Rsi = refl
name_test regs.Rdi = refl
name_test regs.Rbp = refl
name_test regs.Rsp = refl
name_test regs.R8 = refl
name_test regs.R9 = refl
name_test regs.R10 = refl
name_test regs.R11 = refl
name_test regs.R12 = refl
name_test regs.R13 = refl
name_test regs.R14 = refl
name_test regs.R15 = refl
name_test regs.Xmm0 = refl
name_test regs.Xmm1 = refl
name_test regs.Xmm2 = refl
name_test regs.Xmm3 = refl
name_test regs.Xmm4 = refl
name_test regs.Xmm5 = refl
name_test regs.Xmm6 = refl
name_test regs.Xmm7 = refl
name_test regs.Xmm8 = refl
name_test regs.Xmm9 = refl
name_test regs.Xmm10 = refl
name_test regs.Xmm11 = refl
name_test regs.Xmm12 = refl
name_test regs.Xmm13 = refl
name_test regs.Xmm14 = refl
name_test regs.Xmm15 = refl

-- a register's name is plain
pub plain_name : (reg : Reg) → ArePlain (name_of reg)
plain_name reg = plain_by_test (name_of reg) (name_test reg)
