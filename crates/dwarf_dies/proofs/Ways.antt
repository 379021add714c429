-- Who owns an entry follows from the numbers of the parents.
use Rattle.std.proofs.Common.{◌≡◌, ◌<◌, ◌≤◌, ℕ, zero, suc, ◌+◌, ◌-◌, ◌==◌, if◌then◌else◌, Bool, true, false, List, [], ◌∷◌, ◌++◌, length, map, take, slice_get, flat_map, Option, Some, None, ◌⊎◌, inl, inr, refl, sym, ap, subst, ◌∙◌, arith, length-append, length-take}
use Rattle.std.specs.Option.{option_map}
use Rattle.std.proofs.lemmas.Bool.{eqb-true, eqb-false}
use Rattle.entry_tree.specs.Entries.{Entry as Node, up_of, OnWay, here, above, MayPush}
use Rattle.entry_tree.specs.Invariant.{AreInPrefixOrder}
use Rattle.entry_tree.proofs.Finds.{within}
use Rattle.entry_tree.proofs.Ways.{way_take}
use Rattle.dwarf_units.specs.Entries.{Entry as ReadEntry}
use Rattle.dwarf_units.specs.Units.{nodes_in}
use Rattle.dwarf_entries.specs.Dies.{Die, bases_of, dies_after, owning, way_from}
use Rattle.dwarf_entries.specs.Shapes.{Entry, DwarfUnit}
use Rattle.dwarf_dies.specs.Units.{entry_of, numbered_from}
use Rattle.dwarf_dies.proofs.Numbers.{numbered}

-- the entries on the way from the one with this number, if there is one, to its root; no number is below the first one
abbrev pub IsWay : List Entry → ℕ → Option ℕ → List Entry → Type 0
IsWay es first None [] = Unit {0}
IsWay es first None (e ∷ way) = ⊥
IsWay es first (Some k) [] = ⊥
IsWay es first (Some k) (e ∷ way) = ((slice_get es k ≡ Some e) × (first ≤ k)) × IsWay es first e.up way

-- there is one at most
pub one_way : (es : List Entry) (first : ℕ) (u : Option ℕ) (a b : List Entry) → IsWay es first u a → IsWay es first u b → a ≡ b
one_way es first None [] [] h g = refl
one_way es first None [] (e ∷ b) h g = absurd g
one_way es first None (e ∷ a) b h g = absurd h
one_way es first (Some k) [] b h g = absurd h
one_way es first (Some k) (e ∷ a) [] h g = absurd g
one_way es first (Some k) (e ∷ a) (f ∷ b) h g =
    let q : Some e ≡ Some f = sym h.0.0 ∙ g.0.0 in
    let same : e ≡ f = cc in
    ap (λ (x : Entry). x ∷ a) same ∙ ap (λ l. f ∷ l) (one_way es first f.up a b (subst (λ (x : Entry). IsWay es first x.up a) same h.1) g.1)

-- an entry has its number, and the parent that was read
pub record HasNumber (t : List Node) (k : ℕ) (e : Entry) : Type 0 where
  pub number : e.number ≡ k
  pub up : up_of t k ≡ e.up

-- each of these entries has
abbrev pub AreNumbered : List Node → List Entry → Type 0
AreNumbered t es = (k : ℕ) (e : Entry) → slice_get es k ≡ Some e → HasNumber t k e

pub are_numbered : (es : List ReadEntry) → AreNumbered (nodes_in es) (numbered_from 0 es)
are_numbered es k e h = by_read (slice_get es k) refl (sym (numbered es k) ∙ h)
  where
    up_there : (xs : List ReadEntry) (i : ℕ) (x : ReadEntry) → slice_get xs i ≡ Some x → up_of (nodes_in xs) i ≡ x.node.up
    up_there [] i x g = absurd (cc)
    up_there (y ∷ xs) zero x g = let same : y ≡ x = cc in ap (λ (z : ReadEntry). z.node.up) same
    up_there (y ∷ xs) (suc i) x g = up_there xs i x g

    by_read : (o : Option ReadEntry) → slice_get es k ≡ o → option_map (entry_of k) o ≡ Some e → HasNumber (nodes_in es) k e
    by_read None g f = absurd (cc)
    by_read (Some x) g f =
        let same : entry_of k x ≡ e = cc in
        record { number = sym (ap (λ (y : Entry). y.number) same); up = up_there es k x g ∙ ap (λ (y : Entry). y.up) same }

by_test : (es : List Entry) (first i k : ℕ) (e : Entry) (way : List Entry) → IsWay es first (Some i) (e ∷ way) → e.number ≡ i → IsWay es first (Some k) (way_from k way) → IsWay es first (Some k) (way_from k (e ∷ way))
by_test es first i k e way h number more = by_bool (e.number == k) refl
  where
    by_bool : (b : Bool) → (e.number == k) ≡ b → IsWay es first (Some k) (if b then e ∷ way else way_from k way)
    by_bool true q = let same : i ≡ k = sym number ∙ eqb-true e.number k q in subst (λ j. IsWay es first (Some j) (e ∷ way)) same h
    by_bool false q = more

by_number : (es : List Entry) (first i : ℕ) (e : Entry) (way : List Entry) → IsWay es first (Some i) (e ∷ way) → e.number ≡ i → IsWay es first (Some i) (way_from i (e ∷ way))
by_number es first i e way h number = by_bool (e.number == i) refl
  where
    by_bool : (b : Bool) → (e.number == i) ≡ b → IsWay es first (Some i) (if b then e ∷ way else way_from i way)
    by_bool true q = h
    by_bool false q = absurd (eqb-false e.number i q number)

-- the part of a way that begins above
pub way_down : (t : List Node) (es : List Entry) → AreNumbered t es → (first i k : ℕ) → OnWay t i k → (way : List Entry) → IsWay es first (Some i) way → IsWay es first (Some k) (way_from k way)
way_down t es num first i k w [] h = absurd h
way_down t es num first i k here (e ∷ way) h = by_number es first i e way h ((num i e h.0.0).number)
way_down t es num first i k (above j up v) (e ∷ way) h = by_test es first i k e way h ((num i e h.0.0).number) (way_down t es num first j k v way (subst (λ u. IsWay es first u way) (sym (num i e h.0.0).up ∙ up) h.1))

-- what the entries before one say of the way up from it: the last one's way, or it has no parent
abbrev pub IsBefore : List Entry → ℕ → ℕ → List Entry → List Entry → Type 0
IsBefore es first p way entries = ((q : ℕ) × ((suc q ≡ p) × IsWay es first (Some q) way)) ⊎ ((e : Entry) → slice_get entries 0 ≡ Some e → e.up ≡ None)

-- an entry of a unit, with its number and those that own it
pub record IsOwned (es : List Entry) (first n : ℕ) (d : Die) : Type 0 where
  pub entry : slice_get es n ≡ Some d.entry
  pub owners : IsWay es first d.entry.up d.owners

owners_are : (t : List Node) (es : List Entry) → AreNumbered t es → AreInPrefixOrder t → (first p : ℕ) (e : Entry) → slice_get es p ≡ Some e → p < length t → (way entries : List Entry) → IsBefore es first p way (e ∷ entries)
    → IsWay es first e.up (owning e.up way)
owners_are t es num order first p e at l way entries before = by_up e.up refl before
  where
    none_of : (u : Option ℕ) → u ≡ None → IsWay es first u (owning u way)
    none_of None q = tt
    none_of (Some k) q = absurd (cc)

    by_up : (u : Option ℕ) → e.up ≡ u → IsBefore es first p way (e ∷ entries) → IsWay es first u (owning u way)
    by_up None q b = tt
    by_up (Some k) q (inr f) = absurd (let z : Some k ≡ None = sym q ∙ f e refl in cc)
    by_up (Some k) q (inl w) =
        let may = subst (λ u. MayPush (take p t) u) ((num p e at).up ∙ q) (order p l) in
        let last : length (take p t) - 1 ≡ w.0 = omega (arith, length-take p t, w.1.0) in
        way_down t es num first w.0 k (subst (λ i. OnWay t i k) last (way_take t p (length (take p t) - 1) k may.1)) way w.1.1

first_at : (es : List Entry) (p : ℕ) (e : Entry) (entries : List Entry) → ((i : ℕ) (f : Entry) → slice_get (e ∷ entries) i ≡ Some f → slice_get es (p + i) ≡ Some f) → slice_get es p ≡ Some e
first_at es p e entries there = ap (slice_get es) (let z : p ≡ p + 0 = omega arith in z) ∙ there 0 e refl

-- the entries of a unit are owned by those on their ways up
pub unit_owned : (t : List Node) (es : List Entry) → AreNumbered t es → AreInPrefixOrder t → length es ≡ length t → (unit : DwarfUnit) (first p : ℕ) → first ≤ p → (way entries : List Entry)
    → ((i : ℕ) (e : Entry) → slice_get entries i ≡ Some e → slice_get es (p + i) ≡ Some e) → IsBefore es first p way entries
    → (i : ℕ) (d : Die) → slice_get (dies_after unit way entries) i ≡ Some d → IsOwned es first (p + i) d
unit_owned t es num order long unit first p low way [] there before i d h = absurd (cc)
unit_owned t es num order long unit first p low way (e ∷ entries) there before zero d h =
    let made : Die = record { start = unit.start; bases = bases_of (slice_get unit.entries 0); owners = owning e.up way; entry = e } in
    let same : made ≡ d = cc in
    let at = first_at es p e entries there in
    subst (λ (x : Die). IsOwned es first (p + 0) x) same
    (record { entry = ap (slice_get es) (let z : p + 0 ≡ p = omega arith in z) ∙ at; owners = owners_are t es num order first p e at (let z = within es p e at in omega (arith, z, long)) way entries before })
unit_owned t es num order long unit first p low way (e ∷ entries) there before (suc i) d h =
    let at = first_at es p e entries there in
    let owned = owners_are t es num order first p e at (let z = within es p e at in omega (arith, z, long)) way entries before in
    subst (λ n. IsOwned es first n d) (let z : p + 1 + i ≡ p + suc i = omega arith in z)
    (unit_owned t es num order long unit first (p + 1) (omega (arith, low)) (e ∷ owning e.up way) entries (λ j f q. ap (slice_get es) (let z : p + 1 + j ≡ p + suc j = omega arith in z) ∙ there (suc j) f q)
    (inl (p, (omega arith, ((at, low), owned)))) i d h)
