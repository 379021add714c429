-- Where no item of a list breaks a rule, none of its parts does.
use Rattle.std.proofs.Common.{◌≡◌, ℕ, List, [], ◌∷◌, ◌++◌, slice_get, flat_map, map, Option, Some, None, option_and_then, zero, suc, refl, sym, ap, ◌∙◌}
use Rattle.std.specs.Option.{option_or}
use Rattle.dwarf_entries.specs.Items.{Item, Spot, fault_of, first_fault}

pub none_first : {A : Type 0} (a b : Option A) → option_or a b ≡ None → a ≡ None
none_first None b h = refl
none_first (Some x) b h = absurd (cc)

pub none_second : {A : Type 0} (a b : Option A) → option_or a b ≡ None → b ≡ None
none_second None b h = h
none_second (Some x) b h = absurd (cc)

pub none_both : {A : Type 0} (a b : Option A) → a ≡ None → b ≡ None → option_or a b ≡ None
none_both a b h g = ap (λ x. option_or x b) h ∙ g

-- the first of two lists
pub front : (a b : List Item) → first_fault (a ++ b) ≡ None → first_fault a ≡ None
front [] b h = refl
front (i ∷ a) b h =
    none_both (fault_of i) (first_fault a) (none_first (fault_of i) (first_fault (a ++ b)) h) (front a b (none_second (fault_of i) (first_fault (a ++ b)) h))

-- the second of two lists
pub back : (a b : List Item) → first_fault (a ++ b) ≡ None → first_fault b ≡ None
back [] b h = h
back (i ∷ a) b h = back a b (none_second (fault_of i) (first_fault (a ++ b)) h)

-- each of the lists that are joined
pub of_each : {A : Type 0} (f : A → List Item) (l : List A) → first_fault (flat_map f l) ≡ None → (n : ℕ) (x : A) → slice_get l n ≡ Some x → first_fault (f x) ≡ None
of_each f [] h n x g = absurd (cc)
of_each f (y ∷ l) h zero x g =
    let same : y ≡ x = cc in
    ap (λ z. first_fault (f z)) (sym same) ∙ front (f y) (flat_map f l) h
of_each f (y ∷ l) h (suc n) x g = of_each f l (back (f y) (flat_map f l) h) n x g

rule_none : (o : Option ℕ) (s : Spot) → option_and_then {U = ℕ × Spot} (λ r. Some (r, s)) o ≡ None → o ≡ None
rule_none None s h = refl
rule_none (Some r) s h = absurd (cc)

-- an item
pub of_item : (i : Item) (l : List Item) → first_fault (i ∷ l) ≡ None → i.rule ≡ None
of_item i l h = rule_none i.rule i.spot (none_first (fault_of i) (first_fault l) h)

pub after_item : (i : Item) (l : List Item) → first_fault (i ∷ l) ≡ None → first_fault l ≡ None
after_item i l h = none_second (fault_of i) (first_fault l) h

-- an item for each of a list
pub of_mapped : {A : Type 0} (f : A → Item) (l : List A) → first_fault (map f l) ≡ None → (n : ℕ) (x : A) → slice_get l n ≡ Some x → (f x).rule ≡ None
of_mapped f [] h n x g = absurd (cc)
of_mapped f (y ∷ l) h zero x g =
    let same : y ≡ x = cc in
    ap (λ z. (f z).rule) (sym same) ∙ of_item (f y) (map f l) h
of_mapped f (y ∷ l) h (suc n) x g = of_mapped f l (after_item (f y) (map f l) h) n x g
