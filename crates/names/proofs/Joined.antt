-- Joined texts of items that each have one text, and the parts of what readers put together.
use Rattle.std.proofs.Common.{◌≡◌, ℕ, List, [], ◌∷◌, ◌++◌, map, refl, sym, ap, subst, ◌∙◌, append_assoc, append-nil}
use Rattle.std.specs.List.{AllByRecursion, flat_map}
use Rattle.names.specs.Joined.{IsJoined, joined}
use Rattle.names.specs.Reading.{Reader, give, bind, literal}
use Rattle.names.proofs.Readers.{literal_text, literal_spells}

pub joined_cons : (sep a b : List ℕ) (rest : List (List ℕ)) → joined sep (a ∷ b ∷ rest) ≡ a ++ (sep ++ joined sep (b ∷ rest))
joined_cons sep a b rest = ap (λ l. a ++ l) (append_assoc sep b (flat_map (λ y. sep ++ y) rest))

pub joined_one : (sep a : List ℕ) → joined sep (a ∷ []) ≡ a
joined_one sep a = append-nil a

-- items that each have one text are joined to the joined texts
pub joined_text : {A : Type 0} (S : A → List ℕ → Type 0) (P : A → Type 0) (text : A → List ℕ) (sep : List ℕ) →
    ((x : A) (t : List ℕ) → S x t → P x × (t ≡ text x))
    → (xs : List A) (t : List ℕ) → IsJoined S sep xs t → AllByRecursion P xs × (t ≡ joined sep (map text xs))
joined_text S P text sep each [] t h = (tt, h)
joined_text S P text sep each (x ∷ []) t h = let e = each x t h in ((e.0, tt), e.1 ∙ sym (joined_one sep (text x)))
joined_text S P text sep each (x ∷ y ∷ rest) t (a, (b, (h, (g, e)))) =
    let first = each x a h in
    let more = joined_text S P text sep each (y ∷ rest) b g in
    ((first.0, more.0), e ∙ ap (λ l. l ++ (sep ++ b)) first.1 ∙ ap (λ l. text x ++ (sep ++ l)) more.1 ∙ sym (joined_cons sep (text x) (text y) (map text rest)))

pub text_joined : {A : Type 0} (S : A → List ℕ → Type 0) (P : A → Type 0) (text : A → List ℕ) (sep : List ℕ) → ((x : A) → P x → S x (text x))
    → (xs : List A) → AllByRecursion P xs → IsJoined S sep xs (joined sep (map text xs))
text_joined S P text sep each [] h = refl
text_joined S P text sep each (x ∷ []) h = subst (S x) (sym (joined_one sep (text x))) (each x h.0)
text_joined S P text sep each (x ∷ y ∷ rest) h = (
  text x,
  (
    joined sep (map text (y ∷ rest)),
    (each x h.0, (text_joined S P text sep each (y ∷ rest) h.1, joined_cons sep (text x) (text y) (map text rest))),
  ),
)

-- the parts of a text after a literal
pub of_literal : {A : Type 0} (bs : List ℕ) (R : Reader A) (v : A) (t : List ℕ) → (bind (literal bs) (λ _. R)).Spells v t →
    (q : List ℕ) × (R.Spells v q × (t ≡ bs ++ q))
of_literal bs R v t (u, (p, (q, (h, (g, e))))) = (q, (g, e ∙ ap (λ l. l ++ q) (literal_text bs u p h)))

pub to_literal : {A : Type 0} (bs : List ℕ) (R : Reader A) (v : A) (q : List ℕ) → R.Spells v q → (bind (literal bs) (λ _. R)).Spells v (bs ++ q)
to_literal bs R v q h = (tt, (bs, (q, (literal_spells bs, (h, refl)))))

pub of_end : {A : Type 0} (bs : List ℕ) (v w : A) (t : List ℕ) → (bind (literal bs) (λ _. give v)).Spells w t → (w ≡ v) × (t ≡ bs)
of_end bs v w t h = let g = of_literal bs (give v) w t h in (g.1.0.0, g.1.1 ∙ ap (λ l. bs ++ l) g.1.0.1 ∙ append-nil bs)

pub to_end : {A : Type 0} (bs : List ℕ) (v : A) → (bind (literal bs) (λ _. give v)).Spells v bs
to_end bs v = subst (λ l. (bind (literal bs) (λ _. give v)).Spells v l) (append-nil bs) (to_literal bs (give v) v [] (refl, refl))

pub of_map : {A B : Type 0} (R : Reader A) (f : A → B) (w : B) (t : List ℕ) → (bind R (λ x. give (f x))).Spells w t → (x : A) × (R.Spells x t × (w ≡ f x))
of_map R f w t (x, (p, (q, (h, (g, e))))) = (x, (subst (R.Spells x) (sym (e ∙ ap (λ l. p ++ l) g.1 ∙ append-nil p)) h, g.0))

pub to_map : {A B : Type 0} (R : Reader A) (f : A → B) (x : A) (t : List ℕ) → R.Spells x t → (bind R (λ x. give (f x))).Spells (f x) t
to_map R f x t h = (x, (t, ([], (h, ((refl, refl), sym (append-nil t))))))

-- a value and then a closing literal
pub of_closed : {A B : Type 0} (R : Reader A) (bs : List ℕ) (f : A → B) (w : B) (t : List ℕ) →
    (bind R (λ x. bind (literal bs) (λ _. give (f x)))).Spells w t → (x : A) × ((p : List ℕ) × (R.Spells x p × ((w ≡ f x) × (t ≡ p ++ bs))))
of_closed R bs f w t (x, (p, (q, (h, (g, e))))) = let last = of_end bs (f x) w q g in (x, (p, (h, (last.0, e ∙ ap (λ l. p ++ l) last.1))))

pub to_closed : {A B : Type 0} (R : Reader A) (bs : List ℕ) (f : A → B) (x : A) (p : List ℕ) → R.Spells x p →
    (bind R (λ x. bind (literal bs) (λ _. give (f x)))).Spells (f x) (p ++ bs)
to_closed R bs f x p h = (x, (p, (bs, (h, (to_end bs (f x), refl)))))
