-- Texts with something behind them.
use Rattle.std.proofs.Common.{◌≡◌, ◌-◌, ℕ, Bool, true, false, List, ◌++◌, drop, take, length, bytes_eq, refl, sym, ap, ◌∙◌, arith, length-append}
use Rattle.std.proofs.Math.Seq.{drop-append_seam}
use Rattle.std.proofs.lemmas.Bool.Decides.{Decides-like, same_from_decides}
use Rattle.std.proofs.lemmas.List.{append_cancel_right, take-append-drop}
use Rattle.std.proofs.lemmas.Slice.Eq.{bytes_eq-Decides}

-- a text without its back, which it has
pub whole_is : (text back rest : List ℕ) → bytes_eq (drop (length text - length back) text) back ≡ true → rest ≡ take (length text - length back) text → text ≡ rest ++ back
whole_is text back rest same is =
    let n = length text - length back in
    sym (ap (λ l. l ++ back) is ∙ ap (λ l. take n text ++ l) (sym ((bytes_eq-Decides (drop n text) back).0 same)) ∙ take-append-drop n text)

-- two texts with the same back are the same where their fronts are
pub fronts : (text rest front back : List ℕ) → text ≡ rest ++ back → bytes_eq rest front ≡ bytes_eq text (front ++ back)
fronts text rest front back is =
    same_from_decides (bytes_eq rest front) (bytes_eq text (front ++ back)) (bytes_eq-Decides rest front)
    (Decides-like (bytes_eq text (front ++ back)) (λ (e : text ≡ front ++ back). append_cancel_right rest front back (sym is ∙ e))
    (λ (e : rest ≡ front). is ∙ ap (λ l. l ++ back) e) (bytes_eq-Decides text (front ++ back)))

no_true : (b : Bool) → (b ≡ true → ⊥) → b ≡ false
no_true true h = absurd (h refl)
no_true false h = refl

-- a text without such a back is no such text
pub no_back : (text front back : List ℕ) → bytes_eq (drop (length text - length back) text) back ≡ false → bytes_eq text (front ++ back) ≡ false
no_back text front back other = no_true (bytes_eq text (front ++ back)) (λ e. absurd (wrong ((bytes_eq-Decides text (front ++ back)).0 e)))
  where
    wrong : text ≡ front ++ back → ⊥
    wrong is =
        let n : length text - length back ≡ length front = omega (arith, ap length is, length-append front back) in
        let there : drop (length text - length back) text ≡ back = ap (λ k. drop k text) n ∙ ap (drop (length front)) is ∙ drop-append_seam front back in
        let yes_it_is : bytes_eq (drop (length text - length back) text) back ≡ true = (bytes_eq-Decides (drop (length text - length back) text) back).1 there in
        cc
