-- A text is cut at its first separator.
use Rattle.std.proofs.Common.{◌≡◌, ◌≢◌, ◌∙◌, ap, refl, ℕ, Bool, true, false, cond, List, [], ◌∷◌, ◌++◌, Option, Some, None, ◌==◌, arith}
use Rattle.std.proofs.lemmas.List.Elements.{All-head, All-tail}
use Rattle.readers.specs.Lines.{Lacks, CutAt}
use Rattle.layout_words.specs.PlaceSpellings.{cut_at}

other : (c b : ℕ) → b ≢ c → (b == c) ≡ false
other c b h = grind arith

same : (c : ℕ) → (c == c) ≡ true
same c = grind arith

-- a cut further on
abbrev further : ℕ → List ℕ × Option (List ℕ) → List ℕ × Option (List ℕ)
further b p = (b ∷ p.0, p.1)

-- a text with a separator behind its front
pub cut_front : (c : ℕ) (front back : List ℕ) → Lacks c front → cut_at c (front ++ c ∷ back) ≡ (front, Some back)
cut_front c [] back h = ap (λ t. cond t ([], Some back) (further c (cut_at c back))) (same c)
cut_front c (b ∷ front) back h =
    ap (λ t. cond t ([], Some (front ++ c ∷ back)) (further b (cut_at c (front ++ c ∷ back)))) (other c b (All-head (λ x. x ≢ c) b front h))
    ∙ ap (further b) (cut_front c front back (All-tail (λ x. x ≢ c) b front h))

-- a text without a separator
pub cut_whole : (c : ℕ) (text : List ℕ) → Lacks c text → cut_at c text ≡ (text, None)
cut_whole c [] h = refl
cut_whole c (b ∷ text) h =
    ap (λ t. cond t ([], Some text) (further b (cut_at c text))) (other c b (All-head (λ x. x ≢ c) b text h))
    ∙ ap (further b) (cut_whole c text (All-tail (λ x. x ≢ c) b text h))

pub cut_is : (c : ℕ) (text front back : List ℕ) → CutAt c text front back → cut_at c text ≡ (front, Some back)
cut_is c text front back h = ap (cut_at c) h.text ∙ cut_front c front back h.first

-- a separator and what follows it
abbrev pub after : ℕ → Option (List ℕ) → List ℕ
after c None = []
after c (Some text) = c ∷ text

joins_cons : (c b : ℕ) (text : List ℕ) → text ≡ (cut_at c text).0 ++ after c (cut_at c text).1 → (t : Bool) → (b == c) ≡ t
    → b ∷ text ≡ (cond t ([], Some text) (further b (cut_at c text))).0 ++ after c (cond t ([], Some text) (further b (cut_at c text))).1
joins_cons c b text h true e = let is : b ≡ c = grind (arith, e) in ap (λ x. x ∷ text) is
joins_cons c b text h false e = ap (λ l. b ∷ l) h

-- the front and what is behind the separator are the text
pub cut_joins : (c : ℕ) (text : List ℕ) → text ≡ (cut_at c text).0 ++ after c (cut_at c text).1
cut_joins c [] = refl
cut_joins c (b ∷ text) = joins_cons c b text (cut_joins c text) (b == c) refl
