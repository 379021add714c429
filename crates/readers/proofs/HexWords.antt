-- The number that a hexadecimal word spells.
use Rattle.std.proofs.Common.{◌≡◌, ◌≢◌, ◌∙◌, sym, ap, subst, refl, ℕ, ◌<◌, ◌≤◌, ◌^◌, ◌&&◌, Bool, true, false, cond, List, [], ◌∷◌, drop, Option, Some, None, nat_lt, arith, lit≤}
use Rattle.std.proofs.lemmas.Bool.{lt-ltb, ltb-true, ltb-false}
use Rattle.std.proofs.lemmas.Slice.Eq.{bytes_eq-Decides}
use Rattle.std.proofs.lemmas.Fmt.{digits_is_IsNumeral}
use Rattle.std.proofs.lemmas.Option.{cond_some}
use Rattle.std.specs.Fmt.{digits}
use Rattle.std.specs.Char.{digit_value}
use Rattle.std.specs.Str.{bytes_eq}
use Rattle.std.specs.Str.Parse.{digits_value, IsNumeral, AllDigits}
use Rattle.std.proofs.lemmas.List.Elements.{All-nil, All-cons}
use Rattle.readers.specs.Lines.{Lacks}
use Rattle.readers.specs.Hex.{hex_text, hex_of, SpellsHex, wide_hex_of, SpellsWideHex, narrow}

small : (n : ℕ) → n < 2 ^ 64 → n < 16 ^ 64
small n h = let wide : 2 ^ 64 ≤ 16 ^ 64 = lit≤ tt in omega arith

-- the digits of a number below 2 ^ 64
pub numeral : (n : ℕ) → n < 2 ^ 64 → IsNumeral 16 (digits 16 false n) × (digits_value 16 (digits 16 false n) ≡ n)
numeral n h = digits_is_IsNumeral 16 false (lit≤ tt) (lit≤ tt) n (small n h)

pub both : (a b : Bool) → a && b ≡ true → (a ≡ true) × (b ≡ true)
both true b e = (refl, e)
both false b e = (e, absurd (cc))

pub hex_some : (word : List ℕ) (n : ℕ) → n < 2 ^ 64 → word ≡ hex_text n → hex_of word ≡ Some n
unfolding hex_of
hex_some word n h e =
    let value = (numeral n h).1 in
    let same = (bytes_eq-Decides (hex_text n) (hex_text n)).1 refl in
    rw (e, value, lt-ltb n (2 ^ 64) h, same) refl

pub hex_none : (word : List ℕ) → ((n : ℕ) → n < 2 ^ 64 → word ≡ hex_text n → ⊥) → hex_of word ≡ None
unfolding hex_of
hex_none word none =
    let n = digits_value 16 (drop 2 word) in
    let test = nat_lt n (2 ^ 64) && bytes_eq word (hex_text n) in
    elim test as (λ b. test ≡ b → cond b (Some n) None ≡ None) [
      | true ↦ λ e. let p = both (nat_lt n (2 ^ 64)) (bytes_eq word (hex_text n)) e in
          absurd (none n (ltb-true n (2 ^ 64) p.0) ((bytes_eq-Decides word (hex_text n)).0 p.1))
      | false ↦ λ e. refl
    ] refl

-- the relation gives the function
pub exact_of : (word : List ℕ) (r : Option ℕ) → SpellsHex word r → r ≡ hex_of word
exact_of word None h = sym (hex_none word h)
exact_of word (Some n) h = sym (hex_some word n h.0 h.1)

-- the word of a number is its spelling
pub spelling_of : (word : List ℕ) (n : ℕ) → hex_of word ≡ Some n → (n < 2 ^ 64) × (word ≡ hex_text n)
unfolding hex_of
spelling_of word n e =
    let m = digits_value 16 (drop 2 word) in
    let test = nat_lt m (2 ^ 64) && bytes_eq word (hex_text m) in
    let at = cond_some test m n e in
    let parts = both (nat_lt m (2 ^ 64)) (bytes_eq word (hex_text m)) at.0 in
    (subst (λ k. k < 2 ^ 64) at.1 (ltb-true m (2 ^ 64) parts.0), (bytes_eq-Decides word (hex_text m)).0 parts.1 ∙ ap hex_text at.1)

digits_lack : (c : ℕ) (ds : List ℕ) → 16 ≤ digit_value c → AllDigits 16 ds → Lacks c ds
digits_lack c [] h d = All-nil (λ b. b ≢ c)
digits_lack c (x ∷ ds) h d = All-cons (λ b. b ≢ c) x ds (λ e. let same = ap digit_value e in omega (arith, d.0)) (digits_lack c ds h d.1)

hex_lacks : (c n : ℕ) → n < 2 ^ 64 → 16 ≤ digit_value c → c ≢ 120 → Lacks c (hex_text n)
hex_lacks c n l h x =
    let rest = digits_lack c (digits 16 false n) h (numeral n l).0.1 in
    All-cons (λ b. b ≢ c) 48 (120 ∷ digits 16 false n) (λ e. let same = ap digit_value e in omega arith) (All-cons (λ b. b ≢ c) 120 (digits 16 false n) (λ e. x (sym e)) rest)

-- a hexadecimal word has no space
pub hex_lacks_space : (n : ℕ) → n < 2 ^ 64 → Lacks 32 (hex_text n)
hex_lacks_space n l = hex_lacks 32 n l (lit≤ tt) (λ e. omega arith)

-- nor an LF
pub hex_lacks_lf : (n : ℕ) → n < 2 ^ 64 → Lacks 10 (hex_text n)
hex_lacks_lf n l = hex_lacks 10 n l (lit≤ tt) (λ e. omega arith)

-- the digits of a number below 2 ^ 128
pub wide_numeral : (n : ℕ) → n < 2 ^ 128 → IsNumeral 16 (digits 16 false n) × (digits_value 16 (digits 16 false n) ≡ n)
wide_numeral n h = let wide : 2 ^ 128 ≤ 16 ^ 64 = lit≤ tt in digits_is_IsNumeral 16 false (lit≤ tt) (lit≤ tt) n (omega arith)

-- two numbers with one spelling are the same
pub one_number : (m n : ℕ) → m < 2 ^ 128 → n < 2 ^ 128 → hex_text m ≡ hex_text n → m ≡ n
one_number m n h k e = sym (wide_numeral m h).1 ∙ ap (λ w. digits_value 16 (drop 2 w)) e ∙ (wide_numeral n k).1

pub wide_some : (word : List ℕ) (n : ℕ) → n < 2 ^ 128 → word ≡ hex_text n → wide_hex_of word ≡ Some n
unfolding wide_hex_of
wide_some word n h e =
    let value = (wide_numeral n h).1 in
    let same = (bytes_eq-Decides (hex_text n) (hex_text n)).1 refl in
    rw (e, value, lt-ltb n (2 ^ 128) h, same) refl

-- the word of a number below 2 ^ 128 is its spelling
pub wide_spelling_of : (word : List ℕ) (n : ℕ) → wide_hex_of word ≡ Some n → (n < 2 ^ 128) × (word ≡ hex_text n)
unfolding wide_hex_of
wide_spelling_of word n e =
    let m = digits_value 16 (drop 2 word) in
    let test = nat_lt m (2 ^ 128) && bytes_eq word (hex_text m) in
    let at = cond_some test m n e in
    let parts = both (nat_lt m (2 ^ 128)) (bytes_eq word (hex_text m)) at.0 in
    (subst (λ k. k < 2 ^ 128) at.1 (ltb-true m (2 ^ 128) parts.0), (bytes_eq-Decides word (hex_text m)).0 parts.1 ∙ ap hex_text at.1)

wide_none : (word : List ℕ) → SpellsWideHex word None → (o : Option ℕ) → wide_hex_of word ≡ o → None ≡ o
wide_none word h None e = refl
wide_none word h (Some n) e = let known = wide_spelling_of word n e in absurd (h n known.0 known.1)

-- the relation gives the function
pub wide_exact_of : (word : List ℕ) (r : Option ℕ) → SpellsWideHex word r → r ≡ wide_hex_of word
wide_exact_of word None h = wide_none word h (wide_hex_of word) refl
wide_exact_of word (Some n) h = sym (wide_some word n h.0 h.1)

narrow_case : (word : List ℕ) (n : ℕ) → (n < 2 ^ 128) × (word ≡ hex_text n) → (b : Bool) → nat_lt n (2 ^ 64) ≡ b → SpellsHex word (cond b (Some n) None)
narrow_case word n h true e = (ltb-true n (2 ^ 64) e, h.1)
narrow_case word n h false e = λ m l q.
    let small : m < 2 ^ 128 = let wide : 2 ^ 64 ≤ 2 ^ 128 = lit≤ tt in omega arith in
    let same = one_number m n small h.0 (sym q ∙ h.1) in
    omega (arith, ltb-false n (2 ^ 64) e)

-- a number of at most 64 bits
pub narrow_spells : (word : List ℕ) (r : Option ℕ) → SpellsWideHex word r → SpellsHex word (narrow r)
narrow_spells word None h = λ n l e. h n (let wide : 2 ^ 64 ≤ 2 ^ 128 = lit≤ tt in omega arith) e
narrow_spells word (Some n) h = narrow_case word n h (nat_lt n (2 ^ 64)) refl
