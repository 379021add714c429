-- How entries follow from their numbers.
use Rattle.std.proofs.Common.{◌≡◌, ◌<◌, ◌≤◌, ℕ, ◌+◌, List, length, map, slice_get, flat_map, Option, Some, None, option_and_then, refl, sym, ap, subst, ◌∙◌, arith}
use Rattle.std.specs.Option.{option_map}
use Rattle.entry_tree.specs.Entries.{Entry as Node, up_of}
use Rattle.entry_tree.specs.Invariant.{AreInPrefixOrder}
use Rattle.entry_tree.proofs.Finds.{get_map}
use Rattle.entry_tree.proofs.Ways.{earlier}
use Rattle.dwarf_units.specs.Entries.{Entry as ReadEntry}
use Rattle.dwarf_units.specs.Kept.{entries_in}
use Rattle.dwarf_units.specs.Units.{at_start, nodes_in}
use Rattle.dwarf_units.specs.declared.units.Units.{Units}
use Rattle.dwarf_entries.specs.Dies.{Die, Info, dies_of}
use Rattle.dwarf_entries.specs.Shapes.{Entry}
use Rattle.dwarf_dies.specs.Laws.{AreLinked}
use Rattle.dwarf_dies.specs.Units.{entry_of, numbered_from, units_from}
use Rattle.dwarf_dies.specs.Views.{die_of}
use Rattle.dwarf_dies.proofs.Kept.{Sees, counted, numbered_long}
use Rattle.dwarf_dies.proofs.Numbers.{numbered}
use Rattle.dwarf_dies.proofs.Sections.{HasParent, AreUnitsFrom, all_parents, read_back}
use Rattle.dwarf_dies.proofs.Splits.{are_units}
use Rattle.dwarf_dies.proofs.Ways.{are_numbered}

-- an entry as it was read, and the node that is kept of it
pub record IsRead (kept : Units) (es : List ReadEntry) (n : ℕ) (d : Die) : Type 0 where
  pub read : ReadEntry
  pub at : slice_get es n ≡ Some read
  pub is : entry_of n read ≡ d.entry
  pub node : slice_get kept.tree n ≡ Some read.node

pub parents_of : (abbrevs : List ℕ) (info : Info) (kept : Units) (s : Sees abbrevs info kept) → (n : ℕ) (d : Die) → die_of info n ≡ Some d → HasParent (numbered_from 0 (entries_in s.units)) info.dies n d
parents_of abbrevs info kept s n d h =
    let es = entries_in s.units in
    let zero_on : (i : ℕ) → 0 + i ≡ i = λ i. omega arith in
    let here : slice_get (flat_map dies_of (units_from 0 s.units)) n ≡ Some d = ap (λ (l : List Die). slice_get l n) (sym s.dies) ∙ h in
    subst (λ i. HasParent (numbered_from 0 es) info.dies i d) (zero_on n)
    (all_parents (nodes_in es) (numbered_from 0 es) (are_numbered es) (subst AreInPrefixOrder s.holds.tree s.order.order) (numbered_long 0 es) info.dies s.units 0 0
    (are_units abbrevs (at_start (length info.sections.info)) 0 s.units info.sections.info s.are) (λ i e g. ap (slice_get (numbered_from 0 es)) (zero_on i) ∙ g)
    (λ i e g. ap (slice_get info.dies) (zero_on i) ∙ ap (λ (l : List Die). slice_get l i) s.dies ∙ g) n d here)

pub read_of : (abbrevs : List ℕ) (info : Info) (kept : Units) (s : Sees abbrevs info kept) → (n : ℕ) (d : Die) → die_of info n ≡ Some d → IsRead kept (entries_in s.units) n d
read_of abbrevs info kept s n d h =
    let es = entries_in s.units in
    let at = (parents_of abbrevs info kept s n d h).entry in
    let r = read_back 0 es n d.entry at in
    let q : Some (entry_of n r.0) ≡ Some d.entry = sym (ap (option_map (entry_of n)) r.1) ∙ sym (numbered es n) ∙ at in
    let same : entry_of n r.0 ≡ d.entry = cc in
    record {
      read = r.0;
      at = r.1;
      is = same;
      node = ap (λ (t : List Node). slice_get t n) s.holds.tree ∙ get_map (λ (e : ReadEntry). e.node) es n r.0 r.1;
    }

pub linked : (abbrevs : List ℕ) (info : Info) (kept : Units) → Sees abbrevs info kept → AreLinked info
linked abbrevs info kept s = record {
  numbers = λ n d h. sym (ap (λ (e : Entry). e.number) (read_of abbrevs info kept s n d h).is);
  rising = λ i j d e l h g.
      let x = read_of abbrevs info kept s i d h in
      let y = read_of abbrevs info kept s j e g in
      let r = s.order.rising i j x.read.node y.read.node l x.node y.node in
      omega (arith, r, ap (λ (z : Entry). z.offset) x.is, ap (λ (z : Entry). z.offset) y.is);
  parents = λ n d h. (parents_of abbrevs info kept s n d h).parent;
  earlier = λ n k d h up.
      let r = read_of abbrevs info kept s n d h in
      earlier kept.tree s.order.order n k (ap (option_and_then (λ (x : Node). x.up)) r.node ∙ ap (λ (e : Entry). e.up) r.is ∙ up);
  roots = λ n d h none. (parents_of abbrevs info kept s n d h).root none;
  few = subst (λ n. n ≤ 8000000) (counted abbrevs info kept s) s.order.few;
}
