-- The children of an entry are those that are linked to it.
use Rattle.std.proofs.Common.{◌≡◌, ◌<◌, ℕ, ◌==◌, List, length, slice_get, nat_eq, false, Option, Some, None, option_and_then, refl, sym, ap, ◌∙◌, arith}
use Rattle.std.specs.Option.{option_eq}
use Rattle.std.proofs.lemmas.Bool.{ne_eqb}
use Rattle.entry_tree.specs.Entries.{Entry as Node, has_parent, up_of}
use Rattle.entry_tree.specs.Links.{children_of as linked_children}
use Rattle.entry_tree.proofs.Finds.{some_at, within}
use Rattle.entry_tree.proofs.Ways.{earlier}
use Rattle.dwarf_units.specs.declared.units.Units.{Units}
use Rattle.dwarf_entries.specs.Dies.{Die, Info}
use Rattle.dwarf_entries.specs.Shapes.{Entry}
use Rattle.dwarf_dies.specs.Children.{numbers_of_children}
use Rattle.dwarf_dies.specs.Views.{die_of}
use Rattle.dwarf_dies.proofs.OwnedBy.{children_are, no_places}
use Rattle.dwarf_dies.proofs.Kept.{Sees, counted}
use Rattle.dwarf_dies.proofs.Laws.{linked, read_of}

up_is : (abbrevs : List ℕ) (info : Info) (kept : Units) → Sees abbrevs info kept → (i : ℕ) (c : Die) (x : Node) → die_of info i ≡ Some c → slice_get kept.tree i ≡ Some x → x.up ≡ c.entry.up
up_is abbrevs info kept s i c x h g =
    let r = read_of abbrevs info kept s i c h in
    let q : Some x ≡ Some r.read.node = sym g ∙ r.node in
    let same : x ≡ r.read.node = cc in
    ap (λ (y : Node). y.up) same ∙ ap (λ (e : Entry). e.up) r.is

pub children_is : (abbrevs : List ℕ) (info : Info) (kept : Units) → Sees abbrevs info kept → (n : ℕ) → linked_children kept.tree n ≡ numbers_of_children info (die_of info n)
children_is abbrevs info kept s n = by_die (die_of info n) refl
  where
    up_there : (t : List Node) (i : ℕ) (x : Node) → slice_get t i ≡ Some x → up_of t i ≡ x.up
    up_there t i x g = ap (option_and_then (λ (y : Node). y.up)) g

    outside : die_of info n ≡ None → n < length kept.tree → ⊥
    outside h l =
        let d = some_at info.dies n (omega (arith, l, counted abbrevs info kept s)) in
        let q : ◌≡◌ {A = Option Die} None (Some d.0) = sym h ∙ d.1 in
        absurd (cc)

    no_child : die_of info n ≡ None → (i : ℕ) (x : Node) (u : Option ℕ) → slice_get kept.tree i ≡ Some x → x.up ≡ u → option_eq nat_eq u (Some n) ≡ false
    no_child h i x None g q = refl
    no_child h i x (Some k) g q =
        ne_eqb k n (λ e. outside h (let b = earlier kept.tree s.order.order i k (up_there kept.tree i x g ∙ q) in let w = within kept.tree i x g in omega (arith, b, w, e)))

    by_die : (o : Option Die) → die_of info n ≡ o → linked_children kept.tree n ≡ numbers_of_children info o
    by_die None h = no_places (has_parent (Some n)) 0 kept.tree (λ i x g. no_child h i x x.up g refl)
    by_die (Some d) h = sym (children_are info (linked abbrevs info kept s) kept.tree (counted abbrevs info kept s) (up_is abbrevs info kept s) n d h)
