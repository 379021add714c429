-- Where references lead.
use Rattle.std.proofs.Common.{◌≡◌, ◌<◌, ◌≤◌, ◌==◌, ℕ, zero, suc, ◌+◌, List, [], ◌∷◌, length, map, slice_get, find, cond, flat_map, true, false, Option, Some, None, option_and_then, refl, sym, ap, ◌∙◌, arith}
use Rattle.std.specs.Option.{option_map}
use Rattle.std.proofs.lemmas.Bool.{ne_eqb}
use Rattle.dwarf_abbrev.specs.Values.{Val, val_of}
use Rattle.dwarf_abbrev.specs.declared.attr.Attr.{Attr}
use Rattle.entry_tree.specs.Entries.{Entry as Node}
use Rattle.entry_tree.specs.Links.{first_child, next_sibling, node_of}
use Rattle.entry_tree.specs.declared.node.Node.{Node as Linked}
use Rattle.entry_tree.proofs.Finds.{get_map}
use Rattle.dwarf_units.specs.Entries.{Entry as ReadEntry}
use Rattle.dwarf_units.specs.Kept.{entries_in}
use Rattle.dwarf_units.specs.Units.{CompileUnit, at_start}
use Rattle.dwarf_units.specs.declared.header.UnitHeader.{UnitHeader}
use Rattle.dwarf_units.specs.declared.units.Units.{Units}
use Rattle.dwarf_units.proofs.Again.{is_there}
use Rattle.dwarf_entries.specs.Dies.{Die, Info, die_at, dies_of, linked, target_of}
use Rattle.dwarf_entries.specs.Lookups.{value_of}
use Rattle.dwarf_entries.specs.Shapes.{Entry, Sections}
use Rattle.dwarf_dies.specs.Attributes.{value_in}
use Rattle.dwarf_dies.specs.Units.{units_from}
use Rattle.dwarf_dies.specs.Views.{die_of, info_read, number_of_die, start_of_die, IsView}
use Rattle.dwarf_dies.proofs.Kept.{Sees, seen}
use Rattle.dwarf_dies.proofs.Laws.{IsRead, read_of}
use Rattle.dwarf_dies.proofs.Sections.{IsOfUnit, of_unit}
use Rattle.dwarf_dies.proofs.Splits.{are_units}
use Rattle.dwarf_dies.proofs.Views.{info_is}

abbrev start_kept : Units → Linked → Option ℕ
start_kept kept x = option_map (λ (h : UnitHeader). h.offset) (slice_get kept.headers x.unit)

some_start : (abbrevs : List ℕ) (info : Info) (kept : Units) → Sees abbrevs info kept → (n : ℕ) (x : Linked) → Some x ≡ node_of kept.tree n → (d : Die) → die_of info n ≡ Some d → start_kept kept x ≡ Some d.start
some_start abbrevs info kept s n x is d h =
    let r = read_of abbrevs info kept s n d h in
    let w = of_unit s.units 0 0 (are_units abbrevs (at_start (length info.sections.info)) 0 s.units info.sections.info s.are) n d (ap (λ (l : List Die). slice_get l n) (sym s.dies) ∙ h) in
    let q : Some w.read ≡ Some r.read = sym w.read_at ∙ r.at in
    let same : w.read ≡ r.read = cc in
    let node : Some x ≡ Some (record { offset = r.read.node.offset; unit = r.read.node.unit; code = r.read.node.code; tag = r.read.node.tag; first = first_child kept.tree n; next = next_sibling kept.tree n; up = r.read.node.up }) =
    is ∙ ap (option_map (λ (e : Node). record { offset = e.offset; unit = e.unit; code = e.code; tag = e.tag; first = first_child kept.tree n; next = next_sibling kept.tree n; up = e.up })) r.node in
    let linked_unit : x.unit ≡ r.read.node.unit = cc in
    let number : x.unit ≡ w.number = omega (arith, linked_unit, sym (ap (λ (e : ReadEntry). e.node.unit) same), w.unit_number) in
    ap (λ (i : ℕ). option_map (λ (h : UnitHeader). h.offset) (slice_get kept.headers i)) number
    ∙ ap (λ (hs : List UnitHeader). option_map (λ (h : UnitHeader). h.offset) (slice_get hs w.number)) s.holds.headers
    ∙ ap (option_map (λ (h : UnitHeader). h.offset)) (get_map (λ (u : CompileUnit). u.header) s.units w.number w.unit w.at)
    ∙ ap (λ (o : ℕ). Some o) (sym w.start)

-- where the unit of an entry begins
pub start_is : (abbrevs : List ℕ) (info : Info) (kept : Units) → Sees abbrevs info kept → (n : ℕ) (o : Option Linked) → o ≡ node_of kept.tree n → option_and_then (start_kept kept) o ≡ option_map start_of_die (die_of info n)
start_is abbrevs info kept s n o is = by_both o (die_of info n) is refl (seen abbrevs info kept s (λ (e : Entry). 0) (λ (x : Node). 0) (λ k e. refl) n o is)
  where
    by_both : (o : Option Linked) (d : Option Die) → o ≡ node_of kept.tree n → die_of info n ≡ d → ◌≡◌ {A = Option ℕ} (option_map (λ (x : Linked). 0) o) (option_map (λ (d : Die). 0) d) → option_and_then (start_kept kept) o ≡ option_map start_of_die d
    by_both None None i h q = refl
    by_both None (Some d) i h q = absurd (cc)
    by_both (Some x) None i h q = absurd (cc)
    by_both (Some x) (Some d) i h q = some_start abbrevs info kept s n x i d h

none_there : (ds : List Die) (target : ℕ) → ((i : ℕ) (d : Die) → slice_get ds i ≡ Some d → d.entry.offset < target) → find (λ (d : Die). d.entry.offset == target) ds ≡ None
none_there [] target f = refl
none_there (d ∷ ds) target f =
    ap (λ b. cond b (Some d) (find (λ (d : Die). d.entry.offset == target) ds)) (ne_eqb d.entry.offset target (let l = f 0 d refl in λ e. absurd (omega (arith, l, e))))
    ∙ none_there ds target (λ i e g. f (suc i) e g)

-- no entry begins after the section's end
pub none_far : (abbrevs : List ℕ) (info : Info) (kept : Units) → Sees abbrevs info kept → (target : ℕ) → length info.sections.info < target → die_at info target ≡ None
none_far abbrevs info kept s target far = none_there info.dies target (λ i d h.
    let r = read_of abbrevs info kept s i d h in
    let t = is_there abbrevs info.sections.info s.units s.are i r.read r.at in
    omega (arith, t.inside, t.ends, ap (λ (e : Entry). e.offset) r.is, far))

-- the sections of a view
pub sections_are : (abbrevs : List ℕ) (sections : Sections) (kept : Units) (count : ℕ) (info : Info) → IsView abbrevs sections.info kept count → info_read abbrevs sections ≡ info → info.sections ≡ sections
sections_are abbrevs sections kept count info v is = ap (λ (i : Info). i.sections) (sym is ∙ info_is abbrevs sections v.are_kept.units v.are_kept.are)

-- without an entry, an attribute or a target there is no link
pub no_start : (info : Info) (code : ℕ) (x : Option Die) → None ≡ option_map start_of_die x → None ≡ option_map number_of_die (option_and_then (linked info code) x)
no_start info code None h = refl
no_start info code (Some d) h = absurd (cc)

-- with one the link is what begins at the target
pub link_is : (info : Info) (code start : ℕ) (v : Option Attr) (x : Option Die) → Some start ≡ option_map start_of_die x → option_map val_of v ≡ option_and_then (value_in code) x
    → option_map number_of_die (option_and_then (die_at info) (option_and_then (λ (a : Attr). target_of start (val_of a)) v)) ≡ option_map number_of_die (option_and_then (linked info code) x)
link_is info code start v None h g = absurd (cc)
link_is info code start v (Some d) h g =
    let same : start ≡ d.start = cc in
    ap (λ (o : Option ℕ). option_map number_of_die (option_and_then (die_at info) o))
    (turned v ∙ ap (option_and_then (target_of start)) g ∙ ap (λ (i : ℕ). option_and_then (target_of i) (value_of code d.entry)) same)
  where
    turned : (v : Option Attr) → option_and_then (λ (a : Attr). target_of start (val_of a)) v ≡ option_and_then (target_of start) (option_map val_of v)
    turned None = refl
    turned (Some a) = refl
