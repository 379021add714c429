-- Texts that begin with a line, and the first two lines.
use Rattle.std.proofs.Common.{◌≡◌, ◌≢◌, ◌∙◌, sym, ap, subst, refl, ℕ, ◌<◌, ◌≤◌, ◌^◌, List, [], ◌∷◌, ◌++◌, append_assoc, codes, ◌==◌, ◌&&◌, not, Bool, true, false, lit≤, arith}
use Rattle.std.proofs.lemmas.List.{append_cancel_left}
use Rattle.std.proofs.lemmas.List.Elements.{All-nil, All-cons, All-append, All-head, All-tail}
use Rattle.std.proofs.lemmas.Bool.{not-true}
use Rattle.std.proofs.lemmas.Fmt.{decimal_is_IsNumeral}
use Rattle.std.specs.Fmt.{decimal}
use Rattle.std.specs.Char.{digit_value}
use Rattle.std.specs.Str.Parse.{digits_value, AllDigits}
use Rattle.readers.specs.Lines.{Lacks, CutAt, with_end}
use Rattle.readers.proofs.Cutting.{one_cut}
use Rattle.layout_lines.specs.Sets.{version_text, target_text, head_text}

-- a text that begins with a line and its end is cut there
pub begins_line : (line more : List ℕ) → Lacks 10 line → CutAt 10 (with_end line ++ more) line more
begins_line line more h = record { text = append_assoc line (10 ∷ []) more; first = h }

pub same_line : (a b s t : List ℕ) → Lacks 10 a → Lacks 10 b → with_end a ++ s ≡ with_end b ++ t → (a ≡ b) × (s ≡ t)
same_line a b s t h k e = one_cut 10 (with_end a ++ s) a b s t (begins_line a s h) (record { text = e ∙ append_assoc b (10 ∷ []) t; first = k })

pub no_line : (a s : List ℕ) → [] ≡ with_end a ++ s → ⊥
no_line [] s e = cc
no_line (c ∷ a) s e = cc

digits_lack : (ds : List ℕ) → AllDigits 10 ds → Lacks 10 ds
digits_lack [] d = All-nil (λ b. b ≢ 10)
digits_lack (x ∷ ds) d = All-cons (λ b. b ≢ 10) x ds (λ e. let same = ap digit_value e in omega (arith, d.0)) (digits_lack ds d.1)

small : (n : ℕ) → n < 256 → n < 2 ^ 64
small n h = let e : 256 ≤ 2 ^ 64 = lit≤ tt in omega arith

pub decimal_lacks : (n : ℕ) → n < 2 ^ 64 → Lacks 10 (decimal n)
decimal_lacks n h = digits_lack (decimal n) (decimal_is_IsNumeral n h).0.1

pub one_decimal : (m n : ℕ) → m < 2 ^ 64 → n < 2 ^ 64 → decimal m ≡ decimal n → m ≡ n
one_decimal m n h k e = sym (decimal_is_IsNumeral m h).1 ∙ ap (digits_value 10) e ∙ (decimal_is_IsNumeral n k).1

lacks_end : List ℕ → Bool
lacks_end [] = true
lacks_end (c ∷ text) = not (c == 10) && lacks_end text

both_true : (a b : Bool) → (a && b) ≡ true → (a ≡ true) × (b ≡ true)
both_true true b h = (refl, h)
both_true false b h = absurd (cc)

no_such : (c : ℕ) → not (c == 10) ≡ true → c ≢ 10
no_such c h e = let f : (10 == 10) ≡ false = subst (λ k. (k == 10) ≡ false) e (not-true (c == 10) h) in cc

lacks_by_test : (text : List ℕ) → lacks_end text ≡ true → Lacks 10 text
unfolding lacks_end
lacks_by_test [] h = All-nil (λ b. b ≢ 10)
lacks_by_test (c ∷ text) h = let p = both_true (not (c == 10)) (lacks_end text) h in All-cons (λ b. b ≢ 10) c text (no_such c p.0) (lacks_by_test text p.1)

pub version_lacks : Lacks 10 version_text
unfolding lacks_end
version_lacks = lacks_by_test version_text refl

pub target_lacks : (ptr : ℕ) → ptr < 256 → Lacks 10 (target_text ptr)
unfolding lacks_end
target_lacks ptr h = All-append (λ b. b ≢ 10) (codes "target ") (decimal ptr) (lacks_by_test (codes "target ") refl) (decimal_lacks ptr (small ptr h))

pub head_cut : (ptr : ℕ) (rest : List ℕ) → head_text ptr ++ rest ≡ with_end version_text ++ (with_end (target_text ptr) ++ rest)
head_cut ptr rest = append_assoc (with_end version_text) (with_end (target_text ptr)) rest

pub same_head : (a b : ℕ) (s t : List ℕ) → a < 256 → b < 256 → head_text a ++ s ≡ head_text b ++ t → (a ≡ b) × (s ≡ t)
same_head a b s t h k e =
    let behind : with_end (target_text a) ++ s ≡ with_end (target_text b) ++ t = append_cancel_left (with_end version_text) (with_end (target_text a) ++ s) (with_end (target_text b) ++ t) (sym (head_cut a s) ∙ e ∙ head_cut b t) in
    let cut = same_line (target_text a) (target_text b) s t (target_lacks a h) (target_lacks b k) behind in
    (one_decimal a b (small a h) (small b k) (append_cancel_left (codes "target ") (decimal a) (decimal b) cut.0), cut.1)

-- a text with an LF in it
pub lf_in : (a b : List ℕ) → Lacks 10 (a ++ 10 ∷ b) → ⊥
lf_in [] b h = All-head (λ y. y ≢ 10) 10 b h refl
lf_in (c ∷ a) b h = lf_in a b (All-tail (λ y. y ≢ 10) c (a ++ 10 ∷ b) h)
