-- What an entry leads to: the entries grow, and another may follow.
use Rattle.std.proofs.Common.{◌≡◌, ◌≢◌, ◌<◌, ◌≤◌, ℕ, ◌+◌, ◌==◌, Bool, true, false, if◌then◌else◌, List, [], ◌∷◌, ◌++◌, length, Option, Some, None, refl, sym, ap, subst, ◌∙◌, arith, length-append}
use Rattle.std.specs.Prelude.{option_and_then, is_some, ◌&&◌}
use Rattle.rv_bytes.specs.Readers.{Res, got, with_value}
use Rattle.rv_bytes.proofs.Exact.{Right}
use Rattle.rv_bytes.specs.Forms.{Splits}
use Rattle.dwarf_abbrev.specs.Declarations.{find_code}
use Rattle.dwarf_abbrev.specs.declared.decl.Abbrev.{Abbrev}
use Rattle.entry_tree.specs.Entries.{Entry as Node, up_of, MayPush, IsAboveLast}
use Rattle.entry_tree.specs.Invariant.{AreInPrefixOrder}
use Rattle.entry_tree.proofs.Parents.{under_last, under_same, under_up, above_none, above_new}
use Rattle.entry_tree.proofs.Ways.{order_push}
use Rattle.dwarf_units.specs.Entries.{Attribute, Entry, Walk, due_under, goes_on, declared_breaks, entry_of, after_code, entry, after}
use Rattle.dwarf_units.specs.Rules.{unknown_code}
use Rattle.dwarf_units.specs.Follows.{MayFollow}
use Rattle.dwarf_units.specs.EntryReaders.{read_entry}
use Rattle.dwarf_units.proofs.Entries.{entry_exact, entries_byte}
use Rattle.dwarf_units.proofs.Results.{got_back}

-- at the start of a section
pub follows_none : (at : ℕ) → MayFollow [] None at
follows_none at = record { order = λ i l. absurd (omega (arith, l)); place = tt; above = above_none at }

-- at a later place the next unit's first entry may follow
pub follows_later : (t : List Node) (u : Option ℕ) (n m : ℕ) → MayFollow t u n → n ≤ m → MayFollow t None m
follows_later t u n m h l = record { order = h.order; place = tt; above = λ last g. (let a = h.above last g in omega arith) }

-- below an entry that is none, or may have children
above_later : (t : List Node) (n m : ℕ) → IsAboveLast t n → n < m → IsAboveLast t m
above_later t n m h l last g = let a = h last g in omega arith

up_place : (t : List Node) (u : Option ℕ) → AreInPrefixOrder t → MayPush t u → MayPush t (option_and_then (up_of t) u)
up_place t None order may = tt
up_place t (Some k) order may = under_up t k order may

new_place : (t : List Node) (e : Node) (u : Option ℕ) (children : Bool) → AreInPrefixOrder t → e.up ≡ u → MayPush t u → MayPush (t ++ e ∷ []) (if children then Some (length t) else u)
new_place t e u true order up may = under_last t e
new_place t e u false order up may = under_same t e u order up may

-- an entry that was read here has its place and its parent, and its code breaks no rule
pub record IsEntry (s : Walk) (n : ℕ) (e : Entry) : Type 0 where
  pub offset : e.node.offset ≡ n
  pub up : e.node.up ≡ s.under

-- after the code 0 some entry's children were due
abbrev pub IsFound : Walk → ℕ → Option Entry → Type 0
IsFound s n None = s.under ≢ None
IsFound s n (Some e) = IsEntry s n e

-- the code 0 breaks no rule, by these two tests
abbrev IsAllowed : Bool → Bool → Type 0
IsAllowed a b = ◌≡◌ {A = Option ℕ} (if a && b then None else Some unknown_code) None

code_zero : (s : Walk) (code : ℕ) → declared_breaks s code None ≡ None → s.under ≢ None
code_zero s code h u = by_test (code == 0) (subst (λ o. IsAllowed (code == 0) (is_some o)) u h)
  where
    by_test : (b : Bool) → IsAllowed b false → ⊥
    by_test true g = cc
    by_test false g = cc

found_by : (unit : ℕ) (s : Walk) (n code : ℕ) (o : Option Abbrev) (m : ℕ) (t : List ℕ) (v : Option Entry) → declared_breaks s code o ≡ None → (after_code unit s n code o).spells m v t → IsFound s n v
found_by unit s n code None m t None b h = code_zero s code b
found_by unit s n code None m t (Some e) b h = absurd (let x : ◌≡◌ {A = Option Entry} (Some e) None = h.0 in cc)
found_by unit s n code (Some a) m t None b h = absurd (let x : None ≡ entry_of unit s n code a h.0 = h.1.0 in cc)
found_by unit s n code (Some a) m t (Some e) b h =
    let x : Some e ≡ entry_of unit s n code a h.0 = h.1.0 in
    let made : Entry = record { node = record { offset = n; unit = unit; code = code; tag = a.tag; up = s.under }; children = a.children; attributes = h.0 } in
    let same : e ≡ made = cc in
    record { offset = ap (λ (y : Entry). y.node.offset) same; up = ap (λ (y : Entry). y.node.up) same }

-- what is read is found, and ends later
pub read_found : (list : List Abbrev) (unit : ℕ) (s : Walk) (n : ℕ) (t : List ℕ) (v : Option Entry) (m : ℕ) (k : List ℕ) → s.ended ≡ false → read_entry list unit s n t ≡ got v m k → (n < m) × IsFound s n v
read_found list unit s n t v m k o h =
    let w = subst (Right (entry list unit s) n t) h ((entry_exact list unit s).right n t) in
    let one : 0 < length w.0 = entries_byte list unit s n v w.0 o w.1.0 in
    let f = w.1.0 in
    (omega (arith, one, w.1.1.1), found_by unit s n f.0 (find_code list f.0) (n + length f.1.front) f.1.back v f.1.is_front.1 f.1.is_back)

-- after it another may follow
next_follows : (t : List Node) (u : Option ℕ) (n m : ℕ) (v : Option Entry) → MayFollow t u n → n < m → IsFound (due_under t u) n v → MayFollow (after (due_under t u) v).nodes (after (due_under t u) v).under m
next_follows t u n m None h l f = record { order = h.order; place = up_place t u h.order h.place; above = above_later t n m h.above l }
next_follows t u n m (Some e) h l f = record {
  order = order_push t e.node h.order (subst (MayPush t) (sym f.up) h.place);
  place = new_place t e.node u e.children h.order f.up h.place;
  above = above_new t e.node m (omega (arith, f.offset, l));
}

-- the same of what was kept
pub entry_follows : (list : List Abbrev) (unit : ℕ) (t : List Node) (u : Option ℕ) (n : ℕ) (s : List ℕ) (z : List Node) (w : Option ℕ) (m : ℕ) (k : List ℕ) → MayFollow t u n
    → with_value (after (due_under t u)) (read_entry list unit (due_under t u) n s) ≡ got (goes_on z w) m k → MayFollow z w m
entry_follows list unit t u n s z w m k h r =
    let v = got_back (after (due_under t u)) (goes_on z w) m k (read_entry list unit (due_under t u) n s) r in
    let f = read_found list unit (due_under t u) n s v.0 m k refl v.1.0 in
    let P : Walk → Type 0 = λ y. MayFollow y.nodes y.under m in
    subst P v.1.1 (next_follows t u n m v.0 h f.0 f.1)

-- how many entries there are after it: one more for an entry
more_nodes : (t : List Node) (u : Option ℕ) (v : Option Entry) → length t ≤ length ((after (due_under t u) v).nodes)
more_nodes t u None = omega arith
more_nodes t u (Some e) = omega (arith, length-append t (e.node ∷ []))

first_nodes : (t : List Node) (n : ℕ) (v : Option Entry) → IsFound (due_under t None) n v → length t < length ((after (due_under t None) v).nodes)
first_nodes t n None f = absurd (f refl)
first_nodes t n (Some e) f = omega (arith, length-append t (e.node ∷ []))

pub entry_more : (list : List Abbrev) (unit : ℕ) (t : List Node) (u : Option ℕ) (n : ℕ) (s : List ℕ) (z : List Node) (w : Option ℕ) (m : ℕ) (k : List ℕ)
    → with_value (after (due_under t u)) (read_entry list unit (due_under t u) n s) ≡ got (goes_on z w) m k → length t ≤ length z
entry_more list unit t u n s z w m k r =
    let v = got_back (after (due_under t u)) (goes_on z w) m k (read_entry list unit (due_under t u) n s) r in
    let P : Walk → Type 0 = λ y. length t ≤ length y.nodes in
    subst P v.1.1 (more_nodes t u v.0)

pub first_more : (list : List Abbrev) (unit : ℕ) (t : List Node) (n : ℕ) (s : List ℕ) (z : List Node) (w : Option ℕ) (m : ℕ) (k : List ℕ)
    → with_value (after (due_under t None)) (read_entry list unit (due_under t None) n s) ≡ got (goes_on z w) m k → length t < length z
first_more list unit t n s z w m k r =
    let v = got_back (after (due_under t None)) (goes_on z w) m k (read_entry list unit (due_under t None) n s) r in
    let f = read_found list unit (due_under t None) n s v.0 m k refl v.1.0 in
    let P : Walk → Type 0 = λ y. length t < length y.nodes in
    subst P v.1.1 (first_nodes t n v.0 f.1)
