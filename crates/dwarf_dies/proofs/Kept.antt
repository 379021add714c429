-- The entries of a view, as they are kept.
use Rattle.std.proofs.Common.{◌≡◌, ◌==◌, ℕ, zero, suc, ◌+◌, List, [], ◌∷◌, length, map, slice_get, flat_map, find, cond, Bool, true, false, Option, Some, None, option_and_then, refl, sym, ap, subst, ◌∙◌, arith}
use Rattle.std.specs.Option.{option_map}
use Rattle.std.specs.List.{position, position_from}
use Rattle.std.proofs.lemmas.Iterator.Adapters.{position_from-zero}
use Rattle.entry_tree.specs.Entries.{Entry as Node}
use Rattle.entry_tree.specs.Invariant.{AreEntries}
use Rattle.entry_tree.specs.Links.{first_child, next_sibling, node_of, entry_of}
use Rattle.entry_tree.specs.declared.node.Node.{Node as Linked}
use Rattle.entry_tree.proofs.Finds.{length_of_map}
use Rattle.dwarf_units.specs.Entries.{Entry as ReadEntry}
use Rattle.dwarf_units.specs.Kept.{entries_in, Holds}
use Rattle.dwarf_units.specs.Units.{CompileUnit, AreUnits, nodes_in}
use Rattle.dwarf_units.specs.declared.units.Units.{Units}
use Rattle.dwarf_entries.specs.Dies.{Die, Info, die_at, dies_of}
use Rattle.dwarf_entries.specs.Shapes.{Entry, Sections}
use Rattle.dwarf_dies.specs.Units.{entry_of as numbered_entry, numbered_from, units_from}
use Rattle.dwarf_dies.specs.Views.{die_of, info_read, number_of_die, IsView}
use Rattle.dwarf_dies.proofs.Numbers.{die_by, dies_entries}
use Rattle.dwarf_dies.proofs.Views.{info_is}

-- what a view sees of what is kept
pub record Sees (abbrevs : List ℕ) (info : Info) (kept : Units) : Type 0 where
  pub units : List CompileUnit
  pub are : AreUnits abbrevs info.sections.info units
  pub holds : Holds units kept
  pub dies : info.dies ≡ flat_map dies_of (units_from 0 units)
  pub order : AreEntries kept.tree

pub sees : (abbrevs : List ℕ) (sections : Sections) (kept : Units) (count : ℕ) (info : Info) → IsView abbrevs sections.info kept count → info_read abbrevs sections ≡ info → Sees abbrevs info kept
sees abbrevs sections kept count info v is =
    let whole = sym is ∙ info_is abbrevs sections v.are_kept.units v.are_kept.are in
    record {
      units = v.are_kept.units;
      are = subst (λ (s : Sections). AreUnits abbrevs s.info v.are_kept.units) (sym (ap (λ (i : Info). i.sections) whole)) v.are_kept.are;
      holds = v.are_kept.holds;
      dies = ap (λ (i : Info). i.dies) whole;
      order = v.entries;
    }

pub entries_are : (abbrevs : List ℕ) (info : Info) (kept : Units) (s : Sees abbrevs info kept) → map (λ (d : Die). d.entry) info.dies ≡ numbered_from 0 (entries_in s.units)
entries_are abbrevs info kept s = ap (map (λ (d : Die). d.entry)) s.dies ∙ dies_entries 0 s.units

linked_by : {B : Type 0} (h : Node → B) (t : List Node) (n : ℕ) → option_map (λ (x : Linked). h (entry_of x)) (node_of t n) ≡ option_map h (slice_get t n)
linked_by h t n = by_node (slice_get t n)
  where
    by_node : (o : Option Node)
        → option_map (λ (x : Linked). h (entry_of x)) (option_map (λ (e : Node). record { offset = e.offset; unit = e.unit; code = e.code; tag = e.tag; first = first_child t n; next = next_sibling t n; up = e.up }) o) ≡ option_map h o
    by_node None = refl
    by_node (Some e) = refl

flat : {A B : Type 0} (f : A → Option B) (o : Option A) → option_and_then (λ x. x) (option_map f o) ≡ option_and_then f o
flat f None = refl
flat f (Some a) = refl

-- what is seen of an entry is what is kept of it
pub seen : (abbrevs : List ℕ) (info : Info) (kept : Units) → Sees abbrevs info kept → {B : Type 0} (g : Entry → B) (h : Node → B) → ((k : ℕ) (e : ReadEntry) → g (numbered_entry k e) ≡ h e.node)
    → (n : ℕ) (o : Option Linked) → o ≡ node_of kept.tree n → option_map (λ (x : Linked). h (entry_of x)) o ≡ option_map (λ (d : Die). g d.entry) (die_of info n)
seen abbrevs info kept s g h same n o is =
    ap (option_map (λ (x : Linked). h (entry_of x))) is ∙ linked_by h kept.tree n
    ∙ ap (λ (t : List Node). option_map h (slice_get t n)) s.holds.tree
    ∙ sym (die_by g h same (entries_in s.units) info.dies (entries_are abbrevs info kept s) n)

pub and_seen : (abbrevs : List ℕ) (info : Info) (kept : Units) → Sees abbrevs info kept → {B : Type 0} (g : Entry → Option B) (h : Node → Option B) → ((k : ℕ) (e : ReadEntry) → g (numbered_entry k e) ≡ h e.node)
    → (n : ℕ) (o : Option Linked) → o ≡ node_of kept.tree n → option_and_then (λ (x : Linked). h (entry_of x)) o ≡ option_and_then (λ (d : Die). g d.entry) (die_of info n)
and_seen abbrevs info kept s g h same n o is =
    sym (flat (λ (x : Linked). h (entry_of x)) o) ∙ ap (option_and_then (λ x. x)) (seen abbrevs info kept s g h same n o is) ∙ flat (λ (d : Die). g d.entry) (die_of info n)

pub numbered_long : (k : ℕ) (es : List ReadEntry) → length (numbered_from k es) ≡ length (nodes_in es)
numbered_long k [] = refl
numbered_long k (e ∷ es) = ap suc (numbered_long (k + 1) es)

-- there are as many
pub counted : (abbrevs : List ℕ) (info : Info) (kept : Units) → Sees abbrevs info kept → length kept.tree ≡ length info.dies
counted abbrevs info kept s =
    ap (λ (t : List Node). length t) s.holds.tree ∙ sym (numbered_long 0 (entries_in s.units))
    ∙ sym (ap (λ (l : List Entry). length l) (entries_are abbrevs info kept s)) ∙ length_of_map (λ (d : Die). d.entry) info.dies

pushed : (b : Bool) (k : ℕ) (d : Die) (o : Option Die) → d.entry.number ≡ k → cond b (Some k) (option_map number_of_die o) ≡ option_map number_of_die (cond b (Some d) o)
pushed true k d o is = ap (λ n. Some n) (sym is)
pushed false k d o is = refl

-- the first with a property, and its number
found_by : (test : ℕ → Bool) (k : ℕ) (es : List ReadEntry) (ds : List Die) → map (λ (d : Die). d.entry) ds ≡ numbered_from k es
    → position_from (λ (e : Node). test e.offset) k (nodes_in es) ≡ option_map number_of_die (find (λ (d : Die). test d.entry.offset) ds)
found_by test k [] [] is = refl
found_by test k [] (d ∷ ds) is = absurd (cc)
found_by test k (e ∷ es) [] is = absurd (cc)
found_by test k (e ∷ es) (d ∷ ds) is =
    let same : d.entry ≡ numbered_entry k e = cc in
    let more : map (λ (d : Die). d.entry) ds ≡ numbered_from (k + 1) es = cc in
    ap (cond (test e.node.offset) (Some k)) (found_by test (k + 1) es ds more)
    ∙ pushed (test e.node.offset) k d (find (λ (d : Die). test d.entry.offset) ds) (ap (λ (x : Entry). x.number) same)
    ∙ ap (λ (o : ℕ). option_map number_of_die (cond (test o) (Some d) (find (λ (d : Die). test d.entry.offset) ds))) (sym (ap (λ (x : Entry). x.offset) same))

-- where an offset is looked up
pub at_is : (abbrevs : List ℕ) (info : Info) (kept : Units) → Sees abbrevs info kept → (offset : ℕ) → position (λ (e : Node). e.offset == offset) kept.tree ≡ option_map number_of_die (die_at info offset)
at_is abbrevs info kept s offset =
    ap (position (λ (e : Node). e.offset == offset)) s.holds.tree
    ∙ position_from-zero (λ (e : Node). e.offset == offset) (nodes_in (entries_in s.units))
    ∙ found_by (λ o. o == offset) 0 (entries_in s.units) info.dies (entries_are abbrevs info kept s)
