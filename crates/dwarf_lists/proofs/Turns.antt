-- One turn of a loop that reads a row, and keeps what its values say one after the other, each by what those before it leave.
use Rattle.std.proofs.Common.{◌≡◌, ℕ, true, false, List, [], ◌∷◌, ◌++◌, refl, sym, ap, ◌∙◌, append_assoc, append-nil}
use Rattle.rv_bytes.specs.Forms.{Steps}
use Rattle.rv_bytes.specs.Readers.{Res, got, bad, Reader, with_value, read_row}
use Rattle.rv_bytes.proofs.Rows.{HasBytes, AllExact}
use Rattle.rv_bytes.proofs.Turns.{row_over, row_next, row_bad}

-- what values say: nothing where there are none, and else what the first says, and then what the others say by what it leaves
pub record Sayings (A B C : Type 0) : Type 0 where
  pub one : B → A → List C
  pub after : B → A → B
  pub all : B → List A → List C
  pub none : (b : B) → all b [] ≡ []
  pub more : (b : B) (v : A) (vs : List A) → all b (v ∷ vs) ≡ one b v ++ all (after b v) vs

-- what was said, before what is still to be said, is the whole
abbrev pub SaidSoFar : {S A B C M : Type 0} → Steps S A M → (S → Reader M A) → M → Sayings A B C → Res M (List C) → List C → B → S → ℕ → List ℕ → Type 0
SaidSoFar P read here G whole acc b s n t = with_value (λ vs. acc ++ G.all b vs) (read_row P.over read P.next here s n t) ≡ whole

-- a value is read, and says more
pub goes_on : {S A B C M : Type 0} (P : Steps S A M) (read : S → Reader M A) (here : M) (G : Sayings A B C) → HasBytes P → AllExact P read → (whole : Res M (List C)) (acc : List C) (b : B) (s : S) (n : ℕ) (t : List ℕ) (v : A) (m : ℕ) (k : List ℕ)
    → SaidSoFar P read here G whole acc b s n t → P.over s ≡ false → read s n t ≡ got v m k → SaidSoFar P read here G whole (acc ++ G.one b v) (G.after b v) (P.next s v) m k
goes_on {S} {A} {B} {C} {M} P read here G h e whole acc b s n t v m k so o r =
    moved (read_row P.over read P.next here (P.next s v) m k) ∙ ap (with_value (λ vs. acc ++ G.all b vs)) (sym (row_next P read here h e s n t v m k o r)) ∙ so
  where
    moved : (x : Res M (List A)) → with_value (λ vs. (acc ++ G.one b v) ++ G.all (G.after b v) vs) x ≡ with_value (λ vs. acc ++ G.all b vs) (with_value (λ vs. v ∷ vs) x)
    moved (got vs j l) = ap (λ z. got z j l) (append_assoc acc (G.one b v) (G.all (G.after b v) vs) ∙ ap (λ z. acc ++ z) (sym (G.more b v vs)))
    moved (bad q j) = refl

-- the row is over
pub done : {S A B C M : Type 0} (P : Steps S A M) (read : S → Reader M A) (here : M) (G : Sayings A B C) (whole : Res M (List C)) (acc : List C) (b : B) (s : S) (n : ℕ) (t : List ℕ)
    → SaidSoFar P read here G whole acc b s n t → P.over s ≡ true → whole ≡ got acc n t
done P read here G whole acc b s n t so o =
    sym so ∙ ap (with_value (λ vs. acc ++ G.all b vs)) (row_over P read here s n t o) ∙ ap (λ z. got z n t) (ap (λ z. acc ++ z) (G.none b) ∙ append-nil acc)

-- the next value is invalid
pub failed : {S A B C M : Type 0} (P : Steps S A M) (read : S → Reader M A) (here : M) (G : Sayings A B C) (whole : Res M (List C)) (acc : List C) (b : B) (s : S) (n : ℕ) (t : List ℕ) (r : ℕ) (m : M)
    → SaidSoFar P read here G whole acc b s n t → P.over s ≡ false → read s n t ≡ bad r m → whole ≡ bad r m
failed P read here G whole acc b s n t r m so o e = sym so ∙ ap (with_value (λ vs. acc ++ G.all b vs)) (row_bad P read here s n t r m o e)
