-- A set that entries say breaks a law of soundness at a type alone.
use Rattle.std.proofs.Common.{◌≡◌, ◌<◌, ◌≤◌, ◌==◌, ◌^◌, ◌-◌, ℕ, min, length, Bool, true, false, inl, inr, refl, sym, subst, arith}
use Rattle.std.proofs.lemmas.Bool.{cases_lt, ne_eqb}
use Rattle.layout_set.specs.FirstBreach.{Fails, IsFirstBreach, Law, either, law_of, named}
use Rattle.layout_set.specs.Law1.{Law1}
use Rattle.layout_set.specs.Law2.{Law2}
use Rattle.layout_set.specs.Law3.{Law3}
use Rattle.layout_set.specs.Law4.{Law4}
use Rattle.layout_set.specs.Law5.{Law5}
use Rattle.layout_set.specs.Law6.{Law6}
use Rattle.layout_set.specs.Laws.{sound_laws}
use Rattle.layout_set.specs.declared.breach.Item.{Item}
use Rattle.layout_set.specs.declared.breach.Item.TheVariants.{Whole, Def, Static, Func}
use Rattle.layout_set.specs.declared.set.Set.{Set}
use Rattle.dwarf_entries.specs.Dies.{Info}
use Rattle.dwarf_entries.specs.Said.{set_of, type_dies}
use Rattle.dwarf_entries.specs.Types.{type_def}
use Rattle.entry_tree.proofs.Finds.{length_of_map}
use Rattle.dwarf_info.proofs.Within.{statics_within}

by_number : (b : Bool) (here there : Law) (x : Item) → here x → there x → either b here there x
by_number true here there x h g = h
by_number false here there x h g = g

-- the laws hold of an item where each does
all_of : (set : Set) (n : ℕ) (x : Item) → Law1 set x → Law2 set x → Law3 set x → Law4 set x → Law5 set x → Law6 set x → law_of (sound_laws set) n x
unfolding sound_laws
all_of set n x a b c d e f =
    by_number (1 == n) (Law1 set) _ x a (by_number (2 == n) (Law2 set) _ x b (by_number (3 == n) (Law3 set) _ x c
    (by_number (4 == n) (Law4 set) _ x d (by_number (5 == n) (Law5 set) _ x e (by_number (6 == n) (Law6 set) (λ _. Unit {0}) x f tt)))))

-- the first item that breaks a law is a type
pub record IsOfType (set : Set) (law : ℕ) (at : Item) : Type 0 where
  pub place : ℕ
  pub is : at ≡ named (Def place)
  pub inside : place < length set.types

pub at_type : (info : Info) (law : ℕ) (at : Item) → IsFirstBreach (set_of info) (sound_laws (set_of info)) law at → IsOfType (set_of info) law at
at_type info law at h = by_item h.fails.0 h.fails.1.0 h.fails.1.1
  where
    by_item : (x : Item) → Fails (set_of info) (law_of (sound_laws (set_of info)) law) x → at ≡ named x → IsOfType (set_of info) law at
    by_item Whole f e = absurd (f.broken (all_of (set_of info) law Whole tt tt refl tt tt tt))
    by_item (Def i) f e = record { place = i; is = e; inside = f.is }
    by_item (Static i) f e = absurd (f.broken (all_of (set_of info) law (Static i) (statics_within info i f.is) tt tt tt tt tt))
    by_item (Func i) f e = absurd (let l = f.is in omega (arith, l))

-- a law with another number says nothing
beyond : (set : Set) (n : ℕ) → 7 ≤ n → (x : Item) → law_of (sound_laws set) n x
unfolding sound_laws
beyond set n h x =
    apart 1 (Law1 set) _ (λ e. absurd (omega (arith, e, h))) (apart 2 (Law2 set) _ (λ e. absurd (omega (arith, e, h))) (apart 3 (Law3 set) _ (λ e. absurd (omega (arith, e, h)))
    (apart 4 (Law4 set) _ (λ e. absurd (omega (arith, e, h))) (apart 5 (Law5 set) _ (λ e. absurd (omega (arith, e, h))) (apart 6 (Law6 set) (λ _. Unit {0}) (λ e. absurd (omega (arith, e, h))) tt)))))
  where
    apart : (k : ℕ) (here there : Law) → (k ≡ n → ⊥) → there x → either (k == n) here there x
    apart k here there e g = subst (λ b. either b here there x) (sym (ne_eqb k n e)) g

-- so a law that fails is one of the six
pub is_sound_law : (set : Set) (law : ℕ) (at : Item) → IsFirstBreach set (sound_laws set) law at → law ≤ 6
is_sound_law set law at h = elim (cases_lt 6 law) [
  | inl l ↦ absurd (h.fails.1.0.broken (beyond set law l h.fails.0))
  | inr l ↦ l
]

-- a type that is named has an entry
pub named_inside : (info : Info) (law place : ℕ) → IsFirstBreach (set_of info) (sound_laws (set_of info)) law (Def place) → place < length (type_dies info)
named_inside info law place h =
    let t = at_type info law (Def place) h in
    let same : place ≡ min t.place (2 ^ 32 - 1) = def_place place (min t.place (2 ^ 32 - 1)) t.is in
    let long = t.inside in
    omega (arith, same, long, length_of_map (type_def info) (type_dies info))
  where
    def_place : (i j : ℕ) → ◌≡◌ {A = Item} (Def i) (Def j) → i ≡ j
    def_place i j e = cc
