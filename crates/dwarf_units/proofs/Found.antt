-- The entry that is kept with a number, with its unit's header and table.
use Rattle.std.proofs.Common.{◌≡◌, ◌≤◌, ◌<◌, nat_le, if◌then◌else◌, option_and_then, length-take, ℕ, zero, suc, ◌+◌, ◌^◌, List, [], ◌∷◌, length, take, drop, map, slice_get, get_or, All, Option, Some, None, refl, sym, ap, subst, ◌∙◌, arith}
use Rattle.std.specs.Option.{option_map}
use Rattle.std.proofs.lemmas.Bool.{le-leb}
use Rattle.rv_bytes.specs.NumberReaders.{read_uleb}
use Rattle.rv_bytes.specs.Places.{Place}
use Rattle.rv_bytes.specs.Readers.{got}
use Rattle.dwarf_abbrev.specs.Declarations.{find_code}
use Rattle.dwarf_abbrev.specs.declared.decl.Abbrev.{Abbrev}
use Rattle.entry_tree.specs.Entries.{Entry as Node}
use Rattle.entry_tree.specs.Links.{first_child, next_sibling, node_of}
use Rattle.entry_tree.specs.declared.node.Node.{Node as Linked}
use Rattle.entry_tree.proofs.Finds.{get_map}
use Rattle.dwarf_units.specs.Attributes.{attributes_at, behind_code, bytes_to, declaration_of, past, readable, readable_at}
use Rattle.dwarf_units.specs.Entries.{Entry}
use Rattle.dwarf_units.specs.Kept.{table_at, entries_in, Holds}
use Rattle.dwarf_units.specs.Units.{CompileUnit, AreUnits}
use Rattle.dwarf_units.specs.declared.header.UnitHeader.{UnitHeader}
use Rattle.dwarf_units.specs.declared.units.Units.{Units}
use Rattle.dwarf_units.proofs.Again.{IsThere, is_there, all_readable}

-- what is found with a number
pub record IsFound (info : List ℕ) (kept : Units) (us : List CompileUnit) (number : ℕ) (n : Linked) : Type 0 where
  pub entry : Entry
  pub is : slice_get (entries_in us) number ≡ Some entry
  pub unit : n.unit ≡ entry.node.unit
  pub offset : n.offset ≡ entry.node.offset
  pub code : n.code ≡ entry.node.code
  pub there : IsThere info us entry
  pub header : slice_get kept.headers n.unit ≡ Some there.unit.header
  pub table : table_at kept.tables there.unit.header.abbrev_offset ≡ Some there.unit.table

map_back : {A B : Type 0} (f : A → B) (xs : List A) (i : ℕ) (y : B) → slice_get (map f xs) i ≡ Some y → (x : A) × ((slice_get xs i ≡ Some x) × (f x ≡ y))
map_back f [] i y h = absurd (cc)
map_back f (x ∷ xs) zero y h = let same : f x ≡ y = cc in (x, (refl, same))
map_back f (x ∷ xs) (suc i) y h = map_back f xs i y h

node_back : (t : List Node) (i : ℕ) (n : Linked) → Some n ≡ node_of t i → (x : Node) × ((slice_get t i ≡ Some x) × ((n.unit ≡ x.unit) × ((n.offset ≡ x.offset) × (n.code ≡ x.code))))
node_back t i n h = by_node (slice_get t i) refl h
  where
    by_node : (o : Option Node) → slice_get t i ≡ o → Some n ≡ option_map (λ (e : Node). record { offset = e.offset; unit = e.unit; code = e.code; tag = e.tag; first = first_child t i; next = next_sibling t i; up = e.up }) o → (x : Node) × ((slice_get t i ≡ Some x) × ((n.unit ≡ x.unit) × ((n.offset ≡ x.offset) × (n.code ≡ x.code))))
    by_node None g f = absurd (cc)
    by_node (Some x) g f = (x, (g, (cc, (cc, cc))))

get_or_is : {A : Type 0} (xs : List A) (i : ℕ) (x : A) → slice_get xs i ≡ Some x → (i < length xs) × (get_or xs i x ≡ x)
get_or_is [] i x g = absurd (cc)
get_or_is (y ∷ xs) zero x g = let same : y ≡ x = cc in (omega arith, same)
get_or_is (y ∷ xs) (suc i) x g = let w = get_or_is xs i x g in (let z = w.0 in omega (arith, z), w.1)

all_at : {A : Type 0} (P : A → Type 0) (xs : List A) → All P xs → (i : ℕ) (x : A) → slice_get xs i ≡ Some x → P x
all_at P xs h i x g = let w = get_or_is xs i x g in subst P w.1 (h i x w.0)

pub found : (abbrevs info : List ℕ) (us : List CompileUnit) (kept : Units) (number : ℕ) (n : Linked) → AreUnits abbrevs info us → Holds us kept → Some n ≡ node_of kept.tree number → IsFound info kept us number n
found abbrevs info us kept number n are holds h =
    let b = node_back kept.tree number n h in
    let m = map_back (λ (e : Entry). e.node) (entries_in us) number b.0 (ap (λ (t : List Node). slice_get t number) (sym holds.tree) ∙ b.1.0) in
    let t = is_there abbrevs info us are number m.0 m.1.0 in
    record {
      entry = m.0;
      is = m.1.0;
      unit = b.1.1.0 ∙ sym (ap (λ (x : Node). x.unit) m.1.1);
      offset = b.1.1.1.0 ∙ sym (ap (λ (x : Node). x.offset) m.1.1);
      code = b.1.1.1.1 ∙ sym (ap (λ (x : Node). x.code) m.1.1);
      there = t;
      header = ap (λ (hs : List UnitHeader). slice_get hs n.unit) holds.headers
          ∙ ap (slice_get (map (λ (u : CompileUnit). u.header) us)) (b.1.1.0 ∙ sym (ap (λ (x : Node). x.unit) m.1.1))
          ∙ get_map (λ (u : CompileUnit). u.header) us m.0.node.unit t.unit t.at;
      table = all_at (λ (u : CompileUnit). table_at kept.tables u.header.abbrev_offset ≡ Some u.table) us holds.tables m.0.node.unit t.unit t.at;
    }

-- its attributes are those that are read behind its code
attributes_are : (info : List ℕ) (kept : Units) (us : List CompileUnit) (number : ℕ) (n : Linked) (f : IsFound info kept us number n) → readable f.there.parts.declaration.specs f.there.parts.place f.there.parts.rest ≡ f.entry.attributes
attributes_are info kept us number n f = let p = f.there.parts in all_readable p.declaration.specs p.place p.rest f.entry.attributes p.end p.behind p.attributes

declaration_is : (info : List ℕ) (kept : Units) (us : List CompileUnit) (number : ℕ) (n : Linked) (f : IsFound info kept us number n) → declaration_of kept n ≡ Some f.there.parts.declaration
declaration_is info kept us number n f =
    ap (option_and_then (λ (h : UnitHeader). option_and_then (λ t. find_code t n.code) (table_at kept.tables h.abbrev_offset))) f.header
    ∙ ap (option_and_then (λ t. find_code t n.code)) f.table ∙ ap (find_code f.there.unit.table) f.code ∙ f.there.parts.found

-- the bytes up to its unit's end
abbrev unit_bytes : (info : List ℕ) (kept : Units) (us : List CompileUnit) (number : ℕ) (n : Linked) → IsFound info kept us number n → List ℕ
unit_bytes info kept us number n f = take (f.there.unit.header.offset + (f.there.unit.header.unit_length + 4)) info

bytes_are : (info : List ℕ) (kept : Units) (us : List CompileUnit) (number : ℕ) (n : Linked) (f : IsFound info kept us number n) → option_and_then (bytes_to info) (slice_get kept.headers n.unit) ≡ Some (unit_bytes info kept us number n f)
bytes_are info kept us number n f =
    let end = f.there.unit.header.offset + (f.there.unit.header.unit_length + 4) in
    ap (option_and_then (bytes_to info)) f.header ∙ ap (λ b. if b then Some (take end info) else None) (le-leb end (length info) f.there.ends)

behind_is : (info : List ℕ) (kept : Units) (us : List CompileUnit) (number : ℕ) (n : Linked) (f : IsFound info kept us number n)
    → behind_code (unit_bytes info kept us number n f) n.offset ≡ Some (record { at = f.there.parts.place; rest = f.there.parts.rest })
behind_is info kept us number n f =
    let end = f.there.unit.header.offset + (f.there.unit.header.unit_length + 4) in
    let unit = unit_bytes info kept us number n f in
    let long : length unit ≡ end = omega (arith, length-take end info, f.there.ends) in
    ap (behind_code unit) f.offset
    ∙ ap (λ b. if b then past (read_uleb f.entry.node.offset (drop f.entry.node.offset unit)) else None) (le-leb f.entry.node.offset (length unit) (let z = f.there.inside in omega (arith, z, long)))
    ∙ ap past f.there.parts.code

-- what can be read of it at its place are its attributes
pub read_again_is : (info : List ℕ) (kept : Units) (us : List CompileUnit) (number : ℕ) (n : Linked) → IsFound info kept us number n → readable_at kept info n ≡ attributes_at (entries_in us) number
read_again_is info kept us number n f =
    ap (option_and_then (λ (a : Abbrev). option_and_then (λ unit. option_map (λ (p : Place). readable a.specs p.at p.rest) (behind_code unit n.offset)) (option_and_then (bytes_to info) (slice_get kept.headers n.unit))))
    (declaration_is info kept us number n f)
    ∙ ap (option_and_then (λ unit. option_map (λ (p : Place). readable f.there.parts.declaration.specs p.at p.rest) (behind_code unit n.offset))) (bytes_are info kept us number n f)
    ∙ ap (option_map (λ (p : Place). readable f.there.parts.declaration.specs p.at p.rest)) (behind_is info kept us number n f)
    ∙ ap Some (attributes_are info kept us number n f) ∙ sym (ap (option_map (λ (e : Entry). e.attributes)) f.is)
