-- The types of statics are types of the set.
use Rattle.std.proofs.Common.{◌≡◌, ◌<◌, ◌≤◌, ◌+◌, ◌==◌, ◌&&◌, ℕ, zero, suc, List, [], ◌∷◌, length, map, filter, find, slice_get, slice_index_or, cond, if◌then◌else◌, nat_lt, Bool, true, false, Option, Some, None, option_and_then, unwrap_or, refl, ap, ◌∙◌, arith, ltb-true}
use Rattle.std.specs.List.{HoldsAt, count_by}
use Rattle.std.proofs.lemmas.List.Recursion.{is_count_by}
use Rattle.std.proofs.lemmas.List.Sums.{length-filter}
use Rattle.layout_set.specs.declared.set.Static.{Static}
use Rattle.layout_set.specs.declared.set.TypeRef.{TypeRef}
use Rattle.layout_set.specs.Law1.{HasTypeWithin, IsWithin}
use Rattle.dwarf_entries.specs.Codes.{at_type}
use Rattle.dwarf_entries.specs.Dies.{Die, Info, die_at, linked, target_of, what}
use Rattle.dwarf_entries.specs.Lookups.{value_of}
use Rattle.dwarf_entries.specs.Origins.{bearer_of}
use Rattle.dwarf_entries.specs.PassedOver.{is_passed}
use Rattle.dwarf_entries.specs.Said.{set_of, type_dies}
use Rattle.dwarf_entries.specs.Statics.{is_static, static_of}
use Rattle.dwarf_entries.specs.Tags.{passes}
use Rattle.dwarf_entries.specs.TypeLinks.{End, end_within, is_type_of_set, or_unit, place_in_set, type_at, type_end, type_in, type_of}
use Rattle.dwarf_entries.specs.Types.{type_def}
use Rattle.dwarf_entries.specs.declared.tag.Tag.{Tag}
use Rattle.entry_tree.proofs.Finds.{length_of_map}

-- the entry is one of these
abbrev IsIn : List Die → Die → Type 0
IsIn l d = (k : ℕ) × (slice_get l k ≡ Some d)

further : (x d : Die) (l : List Die) → IsIn l d → IsIn (x ∷ l) d
further x d l h = (suc h.0, h.1)

found_in : (test : Die → Bool) (l : List Die) (d : Die) → find test l ≡ Some d → IsIn l d
found_in test [] d h = absurd (cc)
found_in test (x ∷ l) d h = by_test (test x) (found_in test l d) h
  where
    by_test : (b : Bool) → (find test l ≡ Some d → IsIn l d) → cond b (Some x) (find test l) ≡ Some d → IsIn (x ∷ l) d
    by_test true rest g = (0, g)
    by_test false rest g = further x d l (rest g)

linked_in : (info : Info) (code : ℕ) (d e : Die) → linked info code d ≡ Some e → IsIn info.dies e
linked_in info code d e h = by_target (option_and_then (target_of d.start) (value_of code d.entry)) h
  where
    by_target : (o : Option ℕ) → option_and_then (die_at info) o ≡ Some e → IsIn info.dies e
    by_target None g = absurd (cc)
    by_target (Some offset) g = found_in (λ x. x.entry.offset == offset) info.dies e g

-- an end that is reached is one of the entries
abbrev ReachedIn : Info → End → Type 0
ReachedIn info (End.reached d) = IsIn info.dies d
ReachedIn info End.nowhere = Unit {0}
ReachedIn info End.endless = Unit {0}

by_tests : (info : Info) (p t : Bool) (more here : End) → ReachedIn info more → ReachedIn info here → ReachedIn info (if p then End.nowhere else if t then more else here)
by_tests info true t more here h g = tt
by_tests info false true more here h g = h
by_tests info false false more here h g = g

abbrev InOrNone : Info → Option Die → Type 0
InOrNone info None = Unit {0}
InOrNone info (Some d) = IsIn info.dies d

link_in : (info : Info) (d : Die) → InOrNone info (linked info at_type d)
link_in info d = by_link (linked info at_type d) refl
  where
    by_link : (o : Option Die) → linked info at_type d ≡ o → InOrNone info o
    by_link None e = tt
    by_link (Some x) e = linked_in info at_type d x e

end_in : (info : Info) (most : ℕ) (o : Option Die) → InOrNone info o → ReachedIn info (end_within most info o)
end_in info most None h = tt
end_in info zero (Some d) h = by_tests info (is_passed info d) (passes _ (what d)) End.endless (End.reached d) tt h
end_in info (suc most) (Some d) h =
    by_tests info (is_passed info d) (passes _ (what d)) (end_within most info (linked info at_type d)) (End.reached d) (end_in info most (linked info at_type d) (link_in info d)) h

-- how many pass a test, item by item
abbrev counted : (Die → Bool) → List Die → ℕ
counted test [] = 0
counted test (x ∷ xs) = cond (test x) (1 + counted test xs) (counted test xs)

counted_is : (test : Die → Bool) (xs : List Die) → counted test xs ≡ count_by test xs
counted_is test xs = is_count_by (counted test) test refl (λ x ys. refl) xs

one_le : (p q : Bool) (a b : ℕ) → a ≤ b → cond (p && q) (1 + a) a ≤ cond p (1 + b) b
one_le true true a b h = omega (arith, h)
one_le true false a b h = omega (arith, h)
one_le false q a b h = h

both_le : (p q : Die → Bool) (l : List Die) → counted (λ x. p x && q x) l ≤ counted p l
both_le p q [] = omega arith
both_le p q (x ∷ l) = one_le (p x) (q x) (counted (λ y. p y && q y) l) (counted p l) (both_le p q l)

one_lt : (p q : Bool) (a b : ℕ) → a < b → cond (p && q) (1 + a) a < cond p (1 + b) b
one_lt true true a b h = omega (arith, h)
one_lt true false a b h = omega (arith, h)
one_lt false q a b h = h

-- fewer pass both tests where one passes the first alone
both_lt : (p q : Die → Bool) (l : List Die) (k : ℕ) (d : Die) → slice_get l k ≡ Some d → p d ≡ true → q d ≡ false → counted (λ x. p x && q x) l < counted p l
both_lt p q [] k d h t f = absurd (cc)
both_lt p q (x ∷ l) zero d h t f =
    let same : x ≡ d = cc in
    let le = both_le p q l in
    let here : counted (λ y. p y && q y) (x ∷ l) ≡ counted (λ y. p y && q y) l =
    ap (λ b. cond (b && q x) (1 + counted (λ y. p y && q y) l) (counted (λ y. p y && q y) l)) (ap p same ∙ t)
    ∙ ap (λ b. cond b (1 + counted (λ y. p y && q y) l) (counted (λ y. p y && q y) l)) (ap q same ∙ f) in
    let there : counted p (x ∷ l) ≡ 1 + counted p l = ap (λ b. cond b (1 + counted p l) (counted p l)) (ap p same ∙ t) in
    omega (arith, le, here, there)
both_lt p q (x ∷ l) (suc k) d h t f = one_lt (p x) (q x) (counted (λ y. p y && q y) l) (counted p l) (both_lt p q l k d h t f)

not_below : (n : ℕ) → nat_lt n n ≡ false
not_below n = by_test (nat_lt n n) refl
  where
    by_test : (t : Bool) → nat_lt n n ≡ t → nat_lt n n ≡ false
    by_test true g = absurd (let l = ltb-true n n g in omega (arith, l))
    by_test false g = g

abbrev count_of_types : Info → ℕ
count_of_types info = length (map (type_def info) (type_dies info))

-- a type of the set has a place among those
place_below : (info : Info) (d : Die) → IsIn info.dies d → is_type_of_set info d ≡ true → place_in_set info d < count_of_types info
place_below info d h t =
    let lt = both_lt (is_type_of_set info) (λ o. nat_lt o.entry.offset d.entry.offset) info.dies h.0 d h.1 t (not_below d.entry.offset) in
    let count = counted_is (λ o. is_type_of_set info o && nat_lt o.entry.offset d.entry.offset) info.dies in
    let all = counted_is (is_type_of_set info) info.dies in
    omega (arith, lt, count, all, length-filter (is_type_of_set info) info.dies, length_of_map (type_def info) (type_dies info))

-- the type that an entry is, if it is one, is within
at_within : (info : Info) (d : Die) → IsIn info.dies d → IsWithin (count_of_types info) (or_unit (type_at info d (what d)))
at_within info d h = by_tag (what d)
  where
    by_set : (b : Bool) → is_type_of_set info d ≡ b → IsWithin (count_of_types info) (or_unit (if b then Some (TypeRef.User (place_in_set info d)) else None))
    by_set true e = place_below info d h e
    by_set false e = tt

    by_tag : (o : Option Tag) → IsWithin (count_of_types info) (or_unit (type_at info d o))
    by_tag None = tt
    by_tag (Some Tag.BaseType) = tt
    by_tag (Some Tag.ArrayType) = by_set (is_type_of_set info d) refl
    by_tag (Some Tag.CompileUnit) = by_set (is_type_of_set info d) refl
    by_tag (Some Tag.Namespace) = by_set (is_type_of_set info d) refl
    by_tag (Some Tag.StructureType) = by_set (is_type_of_set info d) refl
    by_tag (Some Tag.UnionType) = by_set (is_type_of_set info d) refl
    by_tag (Some Tag.Member) = by_set (is_type_of_set info d) refl
    by_tag (Some Tag.TemplateTypeParameter) = by_set (is_type_of_set info d) refl
    by_tag (Some Tag.VariantPart) = by_set (is_type_of_set info d) refl
    by_tag (Some Tag.Variant) = by_set (is_type_of_set info d) refl
    by_tag (Some Tag.PointerType) = by_set (is_type_of_set info d) refl
    by_tag (Some Tag.SubrangeType) = by_set (is_type_of_set info d) refl
    by_tag (Some Tag.EnumerationType) = by_set (is_type_of_set info d) refl
    by_tag (Some Tag.Enumerator) = by_set (is_type_of_set info d) refl
    by_tag (Some Tag.SubroutineType) = by_set (is_type_of_set info d) refl
    by_tag (Some Tag.Typedef) = by_set (is_type_of_set info d) refl
    by_tag (Some Tag.Subprogram) = by_set (is_type_of_set info d) refl
    by_tag (Some Tag.LexicalBlock) = by_set (is_type_of_set info d) refl
    by_tag (Some Tag.Variable) = by_set (is_type_of_set info d) refl
    by_tag (Some Tag.FormalParameter) = by_set (is_type_of_set info d) refl

-- the type of any entry is within
pub type_within : (info : Info) (d : Die) → IsWithin (count_of_types info) (or_unit (type_of info d))
type_within info d = by_end (type_end info d) (end_in info 64 (linked info at_type d) (link_in info d))
  where
    by_end : (e : End) → ReachedIn info e → IsWithin (count_of_types info) (or_unit (type_in info e))
    by_end (End.reached x) h = at_within info x h
    by_end End.nowhere h = tt
    by_end End.endless h = tt

statics_in : (info : Info) (l : List Die) (i : ℕ) (s : Static) → i < length (map (static_of info) l) → HasTypeWithin (count_of_types info) (slice_index_or (map (static_of info) l) i s)
statics_in info [] i s h = absurd (omega (arith, h))
statics_in info (d ∷ l) zero s h = type_within info (unwrap_or (bearer_of at_type info d) d)
statics_in info (d ∷ l) (suc i) s h = statics_in info l i s (omega (arith, h))

-- the types of all statics are types of the set
pub statics_within : (info : Info) (i : ℕ) → i < length (set_of info).statics → HoldsAt (HasTypeWithin (length (set_of info).types)) (set_of info).statics i
statics_within info i h = λ s. statics_in info (filter (is_static info) info.dies) i s h
