-- The bytes whose escapes a text has.
use Rattle.std.proofs.Common.{◌≡◌, ◌≢◌, ◌∙◌, sym, ap, refl, ℕ, ◌<◌, ◌≤◌, Bool, true, false, cond, not, List, [], ◌∷◌, ◌++◌, length, length-append, codes, append-nil, Some, None, take, drop, ◌-◌, ◌⊎◌, inl, inr, slice_index_or, ◌==◌, arith}
use Rattle.std.proofs.Math.Seq.{take-length}
use Rattle.std.proofs.lemmas.Slice.Eq.{bytes_eq-Decides}
use Rattle.std.specs.List.{flat_map}
use Rattle.std.specs.Str.{bytes_eq}
use Rattle.layout_words.specs.Spellings.{unescaped, byte_of, raw_of, raw_text, escape}

pub unescaped_none : unescaped [] ≡ []
unfolding unescaped
unescaped_none = refl

pub unescaped_last : (c : ℕ) → unescaped (c ∷ []) ≡ c ∷ []
unfolding unescaped
unescaped_last c = refl

no : (c : ℕ) → c ≢ 92 → (c == 92) ≡ false
no c h = grind arith

-- a byte that is no `\` is itself
pub unescaped_plain : (c : ℕ) (text : List ℕ) → c ≢ 92 → unescaped (c ∷ text) ≡ c ∷ unescaped text
unfolding unescaped
unescaped_plain c [] h = refl
unescaped_plain c (d ∷ []) h = ap (λ b. cond b (d ∷ []) (c ∷ d ∷ [])) (no c h)
unescaped_plain c (d ∷ e ∷ []) h = ap (λ b. cond b (d ∷ e ∷ []) (c ∷ unescaped (d ∷ e ∷ []))) (no c h)
unescaped_plain c (d ∷ high ∷ low ∷ text) h =
    ap (λ b. cond (not b) (c ∷ unescaped (d ∷ high ∷ low ∷ text)) (cond (d == 120) (byte_of high low ∷ unescaped text) (d ∷ unescaped (high ∷ low ∷ text)))) (no c h)

-- two digits behind `\x`
pub unescaped_digits : (high low : ℕ) (text : List ℕ) → unescaped (92 ∷ 120 ∷ high ∷ low ∷ text) ≡ byte_of high low ∷ unescaped text
unfolding unescaped
unescaped_digits high low text = refl

pub unescaped_behind : (d : ℕ) (text : List ℕ) → d ≢ 120 → unescaped (92 ∷ d ∷ text) ≡ d ∷ unescaped text
unfolding unescaped
unescaped_behind d [] h = refl
unescaped_behind d (e ∷ []) h = refl
unescaped_behind d (high ∷ low ∷ text) h = let no_x : (d == 120) ≡ false = grind arith in ap (λ b. cond b (byte_of high low ∷ unescaped text) (d ∷ unescaped (high ∷ low ∷ text))) no_x

-- where fewer than two bytes are behind it
unescaped_short : (d : ℕ) (text : List ℕ) → length text ≤ 1 → unescaped (92 ∷ d ∷ text) ≡ d ∷ unescaped text
unfolding unescaped
unescaped_short d [] h = refl
unescaped_short d (e ∷ []) h = refl
unescaped_short d (high ∷ low ∷ text) h = absurd (omega arith)

all_of : (t : List ℕ) (n : ℕ) → n ≡ length t → take n t ≡ t
all_of t n e = ap (λ k. take k t) e ∙ take-length t

-- a byte with nothing behind it
pub unescaped_lone : (c : ℕ) (more : List ℕ) → length more ≡ 0 → unescaped (c ∷ more) ≡ c ∷ unescaped more
unfolding unescaped
unescaped_lone c [] h = refl
unescaped_lone c (d ∷ more) h = absurd (omega arith)

-- the same, by places
pub digits_behind : (more : List ℕ) → slice_index_or more 0 0 ≡ 120 → 2 < length more
    → unescaped (92 ∷ more) ≡ byte_of (slice_index_or more 1 0) (slice_index_or more 2 0) ∷ unescaped (take (length more - 3) (drop 3 more))
digits_behind [] x h = absurd (omega arith)
digits_behind (a ∷ []) x h = absurd (omega arith)
digits_behind (a ∷ b ∷ []) x h = absurd (omega arith)
digits_behind (a ∷ high ∷ low ∷ text) x h =
    ap (λ d. unescaped (92 ∷ d ∷ high ∷ low ∷ text)) x ∙ unescaped_digits high low text
    ∙ ap (λ t. byte_of high low ∷ unescaped t) (sym (all_of text (length (a ∷ high ∷ low ∷ text) - 3) (omega arith)))

pub byte_behind : (more : List ℕ) → ((slice_index_or more 0 0 ≡ 120 → ⊥) ⊎ (length more ≤ 2)) → 0 < length more
    → unescaped (92 ∷ more) ≡ slice_index_or more 0 0 ∷ unescaped (take (length more - 1) (drop 1 more))
byte_behind [] x h = absurd (omega arith)
byte_behind (d ∷ text) (inl x) h = unescaped_behind d text x ∙ ap (λ t. d ∷ unescaped t) (sym (all_of text (length (d ∷ text) - 1) (omega arith)))
byte_behind (d ∷ text) (inr x) h = unescaped_short d text (omega arith) ∙ ap (λ t. d ∷ unescaped t) (sym (all_of text (length (d ∷ text) - 1) (omega arith)))

-- all is read where nothing is left
pub all_unescaped : (done rest all : List ℕ) → length rest ≡ 0 → done ++ unescaped rest ≡ all → done ≡ all
unfolding unescaped
all_unescaped done [] all h e = sym (append-nil done) ∙ e
all_unescaped done (c ∷ rest) all h e = absurd (omega arith)

same_bytes : (text bytes : List ℕ) → bytes_eq text (raw_text bytes) ≡ true → text ≡ raw_text bytes
same_bytes text bytes e = (bytes_eq-Decides text (raw_text bytes)).0 e

-- a raw text has its quotes
raw_long : (bytes : List ℕ) → 2 ≤ length (raw_text bytes)
raw_long bytes = omega (arith, length-append (flat_map escape bytes) (codes "\""))

decided : {A : Type 0} (b : Bool) (x y : A) (P : A → Type 0) → (b ≡ true → P x) → (b ≡ false → P y) → P (cond b x y)
decided true x y P h k = h refl
decided false x y P h k = k refl

-- too short for its quotes
pub raw_short : (text : List ℕ) → length text < 2 → raw_of text ≡ None
unfolding raw_of
raw_short text h =
    let bytes = unescaped (take (length text - 2) (drop 1 text)) in
    decided (bytes_eq text (raw_text bytes)) (Some bytes) None (λ o. o ≡ None)
    (λ e. absurd (omega (arith, h, raw_long bytes, ap length (same_bytes text bytes e)))) (λ e. refl)

inside : (text bytes : List ℕ) → bytes ≡ unescaped (take (length text - 1 - 1) (drop 1 text)) → bytes ≡ unescaped (take (length text - 2) (drop 1 text))
inside text bytes e = let n : length text - 1 - 1 ≡ length text - 2 = omega arith in e ∙ ap (λ k. unescaped (take k (drop 1 text))) n

-- by whether the text is that of the bytes inside the quotes
pub raw_read : (text bytes : List ℕ) → bytes ≡ unescaped (take (length text - 1 - 1) (drop 1 text)) → bytes_eq text (raw_text bytes) ≡ true → raw_of text ≡ Some bytes
unfolding raw_of
raw_read text bytes e t =
    let is = inside text bytes e in
    let test = ap (λ b. bytes_eq text (raw_text b)) (sym is) ∙ t in
    ap (λ b. cond b (Some (unescaped (take (length text - 2) (drop 1 text)))) None) test ∙ ap Some (sym is)

pub raw_other : (text bytes : List ℕ) → bytes ≡ unescaped (take (length text - 1 - 1) (drop 1 text)) → bytes_eq text (raw_text bytes) ≡ false → raw_of text ≡ None
unfolding raw_of
raw_other text bytes e t =
    let test = ap (λ b. bytes_eq text (raw_text b)) (sym (inside text bytes e)) ∙ t in
    ap (λ b. cond b (Some (unescaped (take (length text - 2) (drop 1 text)))) None) test
