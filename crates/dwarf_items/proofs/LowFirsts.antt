-- The first attributes of each kind, as they are collected.
use Rattle.std.proofs.Common.{◌≡◌, ◌<◌, ℕ, ◌==◌, nat_eq, nat_lt, ◌&&◌, ◌||◌, not, Bool, true, false, cond, List, [], ◌∷◌, ◌++◌, drop, length, map, filter, flat_map, slice_get, Some, None, refl, sym, ap, ◌∙◌, arith, append_assoc, append-nil, eqb-true}
use Rattle.std.specs.List.{list_any}
use Rattle.std.proofs.lemmas.List.{map_push}
use Rattle.dwarf_entries.specs.AttributeItems.{firsts_after}
use Rattle.dwarf_entries.specs.Items.{Item}
use Rattle.dwarf_entries.specs.Shapes.{Attribute, Entry}
use Rattle.dwarf_units.specs.Attributes.{attribute_seen}
use Rattle.dwarf_units.specs.Entries.{Attribute as ReadAttribute}
use Rattle.dwarf_units.specs.declared.attributes.EntryAttribute.{EntryAttribute}
use Rattle.dwarf_dies.specs.Attributes.{attribute_kept}
use Rattle.dwarf_dies.specs.Units.{attribute_of}
use Rattle.dwarf_items.specs.Firsts.{code_limit, code_of, is_low, is_new, low_firsts}

-- the same low codes are in both lists
abbrev Agree : List ℕ → List ℕ → Type 0
Agree s t = (c : ℕ) → nat_lt c code_limit ≡ true → list_any (nat_eq c) s ≡ list_any (nat_eq c) t

abbrev low_after : List ℕ → List Attribute → List Attribute
low_after s l = filter is_low (firsts_after s l)

with_more : (s t : List ℕ) (d : ℕ) → Agree s t → Agree (d ∷ s) (d ∷ t)
with_more s t d h c low = ap (λ z. nat_eq c d || z) (h c low)

-- a code that isn't low makes no difference
without_high : (s : List ℕ) (d : ℕ) → nat_lt d code_limit ≡ false → Agree (d ∷ s) s
without_high s d high c low = by_same (nat_eq c d) refl
  where
    by_same : (x : Bool) → nat_eq c d ≡ x → (x || list_any (nat_eq c) s) ≡ list_any (nat_eq c) s
    by_same true e =
        let same : c ≡ d = eqb-true c d e in
        let clash : ◌≡◌ {A = Bool} true false = sym low ∙ ap (λ n. nat_lt n code_limit) same ∙ high in
        absurd (cc)
    by_same false e = refl

-- an attribute that was there before, one that is high, and one that is the first of its kind
seen_before : (s : List ℕ) (b : Attribute) (l : List Attribute) → list_any (nat_eq b.code) s ≡ true → low_after s (b ∷ l) ≡ low_after s l
seen_before s b l h = ap (λ x. filter is_low (cond x (firsts_after s l) (b ∷ firsts_after (b.code ∷ s) l))) h

not_seen : (s : List ℕ) (b : Attribute) (l : List Attribute) → list_any (nat_eq b.code) s ≡ false → low_after s (b ∷ l) ≡ cond (is_low b) (b ∷ low_after (b.code ∷ s) l) (low_after (b.code ∷ s) l)
not_seen s b l h = ap (λ x. filter is_low (cond x (firsts_after s l) (b ∷ firsts_after (b.code ∷ s) l))) h

-- the low attributes of a list are the same after lists that agree
abbrev Rest : List Attribute → Type 0
Rest l = (u v : List ℕ) → Agree u v → low_after u l ≡ low_after v l

agree : (l : List Attribute) (s t : List ℕ) → Agree s t → low_after s l ≡ low_after t l
agree [] s t h = refl
agree (b ∷ l) s t h = by_low (λ u v g. agree l u v g) (is_low b) refl
  where
    high : Rest l → (u : List ℕ) (x : Bool) → list_any (nat_eq b.code) u ≡ x → is_low b ≡ false → low_after u (b ∷ l) ≡ low_after u l
    high rest u true e low = seen_before u b l e
    high rest u false e low =
        not_seen u b l e ∙ ap (λ x. cond x (b ∷ low_after (b.code ∷ u) l) (low_after (b.code ∷ u) l)) low ∙ rest (b.code ∷ u) u (without_high u b.code low)

    both : Rest l → (x : Bool) → list_any (nat_eq b.code) s ≡ x → list_any (nat_eq b.code) t ≡ x → low_after s (b ∷ l) ≡ low_after t (b ∷ l)
    both rest true e g = seen_before s b l e ∙ rest s t h ∙ sym (seen_before t b l g)
    both rest false e g =
        not_seen s b l e ∙ ap (λ z. cond (is_low b) (b ∷ z) z) (rest (b.code ∷ s) (b.code ∷ t) (with_more s t b.code h)) ∙ sym (not_seen t b l g)

    by_low : Rest l → (x : Bool) → is_low b ≡ x → low_after s (b ∷ l) ≡ low_after t (b ∷ l)
    by_low rest true low = both rest (list_any (nat_eq b.code) s) refl (sym (h b.code low))
    by_low rest false low = high rest s (list_any (nat_eq b.code) s) refl low ∙ rest s t h ∙ sym (high rest t (list_any (nat_eq b.code) t) refl low)

-- a code at the end is one in the front
any_last : (c d : ℕ) (s : List ℕ) → list_any (nat_eq c) (s ++ d ∷ []) ≡ (nat_eq c d || list_any (nat_eq c) s)
any_last c d [] = refl
any_last c d (x ∷ s) = ap (λ z. nat_eq c x || z) (any_last c d s) ∙ swap_or (nat_eq c x) (nat_eq c d) (list_any (nat_eq c) s)
  where
    swap_or : (x y z : Bool) → (x || (y || z)) ≡ (y || (x || z))
    swap_or true true z = refl
    swap_or true false z = refl
    swap_or false true z = refl
    swap_or false false z = refl

any_code : (c : ℕ) (l : List EntryAttribute) → list_any (λ a. c == a.attr) l ≡ list_any (nat_eq c) (map code_of l)
any_code c [] = refl
any_code c (a ∷ l) = ap (λ z. nat_eq c a.attr || z) (any_code c l)

-- those collected so far, with those that are still to be read
abbrev pub collected : List EntryAttribute → List ReadAttribute → List Attribute
collected got rest = map attribute_kept got ++ low_after (map code_of got) (map attribute_of rest)

pub at_start : (e : Entry) (rest : List ReadAttribute) → map attribute_of rest ≡ e.attributes → collected [] rest ≡ low_firsts e
at_start e rest h = ap (low_after []) h

pub at_end : (got : List EntryAttribute) (rest : List ReadAttribute) → slice_get rest 0 ≡ None → collected got rest ≡ map attribute_kept got
at_end got [] h = append-nil (map attribute_kept got)
at_end got (r ∷ rest) h = absurd (cc)

pub passed : (got : List EntryAttribute) (a : EntryAttribute) (rest : List ReadAttribute) → slice_get rest 0 ≡ Some (attribute_seen a) → is_new got a.attr ≡ false → collected got (drop 1 rest) ≡ collected got rest
passed got a [] h e = absurd (cc)
passed got a (r ∷ rest) h e =
    let same : r ≡ attribute_seen a = cc in
    ap (λ l. map attribute_kept got ++ l) (sym (ap (λ x. low_after (map code_of got) (attribute_of x ∷ map attribute_of rest)) same ∙ by_low (nat_lt a.attr code_limit) refl))
  where
    s : List ℕ
    s = map code_of got

    l : List Attribute
    l = map attribute_of rest

    by_seen : (x : Bool) → list_any (nat_eq a.attr) s ≡ x → (not x) ≡ false → low_after s (attribute_kept a ∷ l) ≡ low_after s l
    by_seen true f g = seen_before s (attribute_kept a) l f
    by_seen false f g = absurd (cc)

    high : (x : Bool) → list_any (nat_eq a.attr) s ≡ x → nat_lt a.attr code_limit ≡ false → low_after s (attribute_kept a ∷ l) ≡ low_after s l
    high true f low = seen_before s (attribute_kept a) l f
    high false f low =
        not_seen s (attribute_kept a) l f ∙ ap (λ x. cond x (attribute_kept a ∷ low_after (a.attr ∷ s) l) (low_after (a.attr ∷ s) l)) low
        ∙ agree l (a.attr ∷ s) s (without_high s a.attr low)

    by_low : (x : Bool) → nat_lt a.attr code_limit ≡ x → low_after s (attribute_kept a ∷ l) ≡ low_after s l
    by_low true low =
        by_seen (list_any (nat_eq a.attr) s) refl
        (ap not (sym (any_code a.attr got)) ∙ ap (λ x. x && not (list_any (λ b. a.attr == b.attr) got)) (sym low) ∙ e)
    by_low false low = high (list_any (nat_eq a.attr) s) refl low

pub taken : (got : List EntryAttribute) (a : EntryAttribute) (rest : List ReadAttribute) → slice_get rest 0 ≡ Some (attribute_seen a) → is_new got a.attr ≡ true → collected (got ++ a ∷ []) (drop 1 rest) ≡ collected got rest
taken got a [] h e = absurd (cc)
taken got a (r ∷ rest) h e = by_low (nat_lt a.attr code_limit) refl (list_any (λ b. a.attr == b.attr) got) refl e
  where
    s : List ℕ
    s = map code_of got

    l : List Attribute
    l = map attribute_of rest

    kept : List Attribute
    kept = map attribute_kept got

    same : r ≡ attribute_seen a
    same = cc

    in_front : Agree (map code_of (got ++ a ∷ [])) (a.attr ∷ s)
    in_front c low = ap (list_any (nat_eq c)) (map_push code_of got a) ∙ any_last c a.attr s

    by_low : (x : Bool) → nat_lt a.attr code_limit ≡ x → (y : Bool) → list_any (λ b. a.attr == b.attr) got ≡ y → (x && not y) ≡ true → collected (got ++ a ∷ []) rest ≡ collected got (r ∷ rest)
    by_low false low y f g = absurd (cc)
    by_low true low true f g = absurd (cc)
    by_low true low false f g =
        ap (λ x. x ++ low_after (map code_of (got ++ a ∷ [])) l) (map_push attribute_kept got a)
        ∙ append_assoc kept (attribute_kept a ∷ []) (low_after (map code_of (got ++ a ∷ [])) l)
        ∙ ap (λ x. kept ++ attribute_kept a ∷ x) (agree l (map code_of (got ++ a ∷ [])) (a.attr ∷ s) in_front)
        ∙ ap (λ x. kept ++ x)
        (sym
        (ap (λ x. low_after s (attribute_of x ∷ l)) same ∙ not_seen s (attribute_kept a) l (sym (any_code a.attr got) ∙ f)
        ∙ ap (λ x. cond x (attribute_kept a ∷ low_after (a.attr ∷ s) l) (low_after (a.attr ∷ s) l)) low))

-- fewer are left
pub fewer : (a : EntryAttribute) (rest : List ReadAttribute) → slice_get rest 0 ≡ Some (attribute_seen a) → length (drop 1 rest) < length rest
fewer a [] h = absurd (cc)
fewer a (r ∷ rest) h = omega arith

-- the low ones are enough where nothing is said of the others
pub low_enough : (f : Attribute → List Item) → ((a : Attribute) → is_low a ≡ false → f a ≡ []) → (l : List Attribute) → flat_map f (filter is_low l) ≡ flat_map f l
low_enough f none [] = refl
low_enough f none (a ∷ l) = by_low (low_enough f none l) (is_low a) refl
  where
    by_low : flat_map f (filter is_low l) ≡ flat_map f l → (x : Bool) → is_low a ≡ x → flat_map f (cond x (a ∷ filter is_low l) (filter is_low l)) ≡ f a ++ flat_map f l
    by_low rest true e = ap (λ x. f a ++ x) rest
    by_low rest false e = rest ∙ sym (ap (λ x. x ++ flat_map f l) (none a e))
