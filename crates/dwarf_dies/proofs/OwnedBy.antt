-- The children of an entry, by their numbers.
use Rattle.std.proofs.Common.{◌≡◌, ◌<◌, ◌≤◌, ◌==◌, ℕ, zero, suc, ◌+◌, List, [], ◌∷◌, length, map, slice_get, filter, cond, if◌then◌else◌, nat_eq, Bool, true, false, Option, Some, None, option_and_then, ◌⊎◌, inl, inr, refl, sym, ap, subst, ◌∙◌, arith}
use Rattle.std.specs.Option.{option_eq}
use Rattle.std.proofs.lemmas.Bool.{cases_lt, eq-eqb, ne_eqb}
use Rattle.entry_tree.specs.Entries.{Entry as Node, has_parent}
use Rattle.entry_tree.specs.Links.{places_from}
use Rattle.dwarf_entries.specs.Dies.{Die, Info, ancestors_in, children_of, is_owned_by, parent_of}
use Rattle.dwarf_entries.specs.Shapes.{Entry}
use Rattle.dwarf_dies.specs.Laws.{AreLinked}
use Rattle.dwarf_dies.specs.Views.{die_of, number_of_die}

by_test : (b : Bool) (k : ℕ) (d : Die) (ds : List Die) → d.entry.number ≡ k → map number_of_die (cond b (d ∷ ds) ds) ≡ (if b then k ∷ map number_of_die ds else map number_of_die ds)
by_test true k d ds is = ap (λ n. n ∷ map number_of_die ds) is
by_test false k d ds is = refl

-- the numbers of those that pass a test
pub places_are : (test : Die → Bool) (other : Node → Bool) (k : ℕ) (ds : List Die) (t : List Node) → length t ≡ length ds
    → ((i : ℕ) (d : Die) (x : Node) → slice_get ds i ≡ Some d → slice_get t i ≡ Some x → test d ≡ other x) → ((i : ℕ) (d : Die) → slice_get ds i ≡ Some d → d.entry.number ≡ k + i)
    → map number_of_die (filter test ds) ≡ places_from other k t
places_are test other k [] [] long same numbers = refl
places_are test other k [] (x ∷ t) long same numbers = absurd (omega (arith, long))
places_are test other k (d ∷ ds) [] long same numbers = absurd (omega (arith, long))
places_are test other k (d ∷ ds) (x ∷ t) long same numbers =
    by_test (test d) k d (filter test ds) (let z : d.entry.number ≡ k = omega (arith, numbers 0 d refl) in z)
    ∙ ap (λ l. if test d then k ∷ l else l) (places_are test other (k + 1) ds t (omega (arith, long)) (λ i e y g h. same (suc i) e y g h) (λ i e g. omega (arith, numbers (suc i) e g)))
    ∙ ap (λ b. if b then k ∷ places_from other (k + 1) t else places_from other (k + 1) t) (same 0 d x refl refl)

-- none where no entry passes
pub no_places : (test : Node → Bool) (k : ℕ) (t : List Node) → ((i : ℕ) (x : Node) → slice_get t i ≡ Some x → test x ≡ false) → places_from test k t ≡ []
no_places test k [] none = refl
no_places test k (x ∷ t) none =
    ap (λ b. if b then k ∷ places_from test (k + 1) t else places_from test (k + 1) t) (none 0 x refl) ∙ no_places test (k + 1) t (λ i y g. none (suc i) y g)

-- an entry is the one with the number n where its offset is that one's
same_entry : (info : Info) → AreLinked info → (n k : ℕ) (d p : Die) → die_of info n ≡ Some d → die_of info k ≡ Some p → (p.entry.offset == d.entry.offset) ≡ (k == n)
same_entry info laws n k d p h g = elim (cases_lt k n) [
  | inl l ↦ let r = laws.rising k n p d l g h in ne_eqb p.entry.offset d.entry.offset (λ e. absurd (omega (arith, r, e))) ∙ sym (ne_eqb k n (λ e. absurd (omega (arith, l, e))))
  | inr l ↦ elim (cases_lt n k) [
    | inl m ↦ let r = laws.rising n k d p m h g in ne_eqb p.entry.offset d.entry.offset (λ e. absurd (omega (arith, r, e))) ∙ sym (ne_eqb k n (λ e. absurd (omega (arith, m, e))))
    | inr m ↦
        let is : k ≡ n = omega (arith, l, m) in
        let q : Some p ≡ Some d = sym g ∙ ap (die_of info) is ∙ h in
        let same : p ≡ d = cc in
        eq-eqb p.entry.offset d.entry.offset (ap (λ (x : Die). x.entry.offset) same) ∙ sym (eq-eqb k n is)
  ]
]

-- an entry is owned by the one whose number is that of its parent
pub owned_is : (info : Info) → AreLinked info → (n : ℕ) (d : Die) → die_of info n ≡ Some d → (i : ℕ) (c : Die) → die_of info i ≡ Some c → is_owned_by d.entry.offset c.owners ≡ option_eq nat_eq c.entry.up (Some n)
owned_is info laws n d h i c g = by_owners c.owners c.entry.up (laws.parents i c g)
  where
    other_number : (k : ℕ) → die_of info k ≡ None → false ≡ (k == n)
    other_number k e = sym (ne_eqb k n (λ q. let z : ◌≡◌ {A = Option Die} None (Some d) = sym e ∙ ap (die_of info) q ∙ h in absurd (cc)))

    by_owners : (owners : List Entry) (u : Option ℕ) → slice_get (ancestors_in c owners) 0 ≡ option_and_then (die_of info) u → is_owned_by d.entry.offset owners ≡ option_eq nat_eq u (Some n)
    by_owners [] None q = refl
    by_owners [] (Some k) q = other_number k (sym q)
    by_owners (e ∷ owners) None q = absurd (cc)
    by_owners (e ∷ owners) (Some k) q = same_entry info laws n k d (record { start = c.start; bases = c.bases; owners = owners; entry = e }) h (sym q)

-- its children are those that are linked to it
pub children_are : (info : Info) → AreLinked info → (t : List Node) → length t ≡ length info.dies → ((i : ℕ) (c : Die) (x : Node) → die_of info i ≡ Some c → slice_get t i ≡ Some x → x.up ≡ c.entry.up)
    → (n : ℕ) (d : Die) → die_of info n ≡ Some d → map number_of_die (children_of info d) ≡ places_from (has_parent (Some n)) 0 t
children_are info laws t long ups n d h =
    places_are (λ c. is_owned_by d.entry.offset c.owners) (has_parent (Some n)) 0 info.dies t long
    (λ i c x g f. owned_is info laws n d h i c g ∙ ap (λ u. option_eq nat_eq u (Some n)) (sym (ups i c x g f)))
    (λ i c g. omega (arith, laws.numbers i c g))
