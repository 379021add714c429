-- The first faults of lists of items.
use Rattle.std.proofs.Common.{◌≡◌, ◌<◌, ◌≤◌, ℕ, ◌+◌, List, [], ◌∷◌, ◌++◌, drop, length, flat_map, get_or, Option, Some, None, Result, refl, sym, ap, subst, ◌∙◌}
use Rattle.std.specs.Option.{option_or}
use Rattle.std.proofs.lemmas.List.{at_drop_more, drop_all}
use Rattle.dwarf_entries.specs.Items.{Item, Spot, fault_of, first_fault}
use Rattle.layout_set.specs.declared.refusal.ReadErr.{ReadErr}
use Rattle.dwarf_items.specs.Answers.{Answers, IsFault}

or_or : {A : Type 0} (x y z : Option A) → option_or x (option_or y z) ≡ option_or (option_or x y) z
or_or None y z = refl
or_or (Some a) y z = refl

or_none : {A : Type 0} (x : Option A) → option_or x None ≡ x
or_none None = refl
or_none (Some a) = refl

-- the first fault of two lists is that of the first one, or else that of the second
pub append_fault : (a b : List Item) → first_fault (a ++ b) ≡ option_or (first_fault a) (first_fault b)
append_fault [] b = refl
append_fault (i ∷ a) b = ap (option_or (fault_of i)) (append_fault a b) ∙ or_or (fault_of i) (first_fault a) (first_fault b)

pub sound_first : (a b : List Item) → first_fault a ≡ None → first_fault (a ++ b) ≡ first_fault b
sound_first a b h = append_fault a b ∙ ap (λ (o : Option (ℕ × Spot)). option_or o (first_fault b)) h

-- the first fault of a list is that of a longer one that begins with it
pub fault_first : (a b : List Item) (e : ReadErr) → IsFault (first_fault a) e → IsFault (first_fault (a ++ b)) e
fault_first a b (ReadErr.Refused r) h = append_fault a b ∙ ap (λ (o : Option (ℕ × Spot)). option_or o (first_fault b)) h
fault_first a b ReadErr.Memory h = tt

pub fault_second : (a b : List Item) (e : ReadErr) → first_fault a ≡ None → IsFault (first_fault b) e → IsFault (first_fault (a ++ b)) e
fault_second a b e h f = subst (λ (o : Option (ℕ × Spot)). IsFault o e) (sym (sound_first a b h)) f

-- a list whose front breaks a rule, and one whose front breaks none
pub err_first : (l a b : List Item) (e : ReadErr) → l ≡ a ++ b → IsFault (first_fault a) e → IsFault (first_fault l) e
err_first l a b e is h = subst (λ (x : List Item). IsFault (first_fault x) e) (sym is) (fault_first a b e h)

pub ok_first : (l a b : List Item) (r : Result (Unit {0}) ReadErr) → l ≡ a ++ b → first_fault a ≡ None → Answers (first_fault b) r → Answers (first_fault l) r
ok_first l a b r is h g = subst (λ (x : Option (ℕ × Spot)). Answers x r) (sym (ap first_fault is ∙ sound_first a b h)) g

-- one item is what it is alone
pub one_item : (i : Item) → first_fault (i ∷ []) ≡ fault_of i
one_item i = or_none (fault_of i)

module _ {X : Type 0} (g : X → List Item) where
  -- the items of a list, one by one
  pub one_more : (xs : List X) (x : X) (rest : List X) → xs ≡ x ∷ rest → first_fault (g x) ≡ None → first_fault (flat_map g xs) ≡ first_fault (flat_map g rest)
  one_more xs x rest e h = ap (λ (l : List X). first_fault (flat_map g l)) e ∙ sound_first (g x) (flat_map g rest) h

  pub one_stops : (xs : List X) (x : X) (rest : List X) (e : ReadErr) → xs ≡ x ∷ rest → IsFault (first_fault (g x)) e → IsFault (first_fault (flat_map g xs)) e
  one_stops xs x rest e is h = subst (λ (l : List X). IsFault (first_fault (flat_map g l)) e) (sym is) (fault_first (g x) (flat_map g rest) e h)

  pub all_done : (xs : List X) (i : ℕ) → length xs ≤ i → first_fault (flat_map g (drop i xs)) ≡ None
  all_done xs i h = ap (λ (l : List X). first_fault (flat_map g l)) (drop_all i xs h)

  -- the same at an index
  pub at_more : (xs : List X) (i : ℕ) (d : X) → i < length xs → first_fault (g (get_or xs i d)) ≡ None → first_fault (flat_map g (drop i xs)) ≡ first_fault (flat_map g (drop (i + 1) xs))
  at_more xs i d h none = at_drop_more (λ l. first_fault (flat_map g l)) xs i d h ∙ sound_first (g (get_or xs i d)) (flat_map g (drop (i + 1) xs)) none

  pub at_stops : (xs : List X) (i : ℕ) (d : X) (e : ReadErr) → i < length xs → IsFault (first_fault (g (get_or xs i d))) e → IsFault (first_fault (flat_map g (drop i xs))) e
  at_stops xs i d e h f =
      subst (λ (o : Option (ℕ × Spot)). IsFault o e) (sym (at_drop_more (λ l. first_fault (flat_map g l)) xs i d h))
      (fault_first (g (get_or xs i d)) (flat_map g (drop (i + 1) xs)) e f)
