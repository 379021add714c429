-- An entry is read again where it is.
use Rattle.std.proofs.Common.{◌≡◌, ◌<◌, ◌≤◌, ℕ, zero, suc, ◌+◌, ◌-◌, List, [], ◌∷◌, ◌++◌, length, take, drop, map, Option, Some, None, ◌⊎◌, inl, inr, refl, sym, ap, subst, ◌∙◌, arith, append_assoc, length-append, add-zero, drop-drop}
use Rattle.std.specs.Prelude.{slice_get}
use Rattle.std.proofs.Math.Seq.{take-append_seam, drop-append_seam}
use Rattle.rv_bytes.specs.Forms.{Splits, RowSpells, row}
use Rattle.rv_bytes.specs.Readers.{Res, got, bad, and_then, with_value, as_item, unless_broken}
use Rattle.rv_bytes.specs.NumberReaders.{read_uleb}
use Rattle.rv_bytes.proofs.Nth.{Stands, nth, again}
use Rattle.dwarf_abbrev.specs.Declarations.{find_code}
use Rattle.dwarf_abbrev.specs.declared.attr.Spec.{Spec}
use Rattle.dwarf_abbrev.specs.declared.decl.Abbrev.{Abbrev}
use Rattle.entry_tree.specs.Entries.{Entry as Node}
use Rattle.dwarf_units.specs.Entries.{Attribute, Entry, Walk, due_under, code_breaks, entry_of, entries, present, tree}
use Rattle.dwarf_units.specs.EntryReaders.{read_attribute, read_attributes, read_after_code, read_entry}
use Rattle.dwarf_units.specs.Attributes.{listed, readable}
use Rattle.dwarf_units.specs.Units.{CompileUnit, SoFar, unit, units, after_unit, at_start, AreUnits}
use Rattle.dwarf_units.specs.Kept.{entries_in}
use Rattle.dwarf_units.proofs.Results.{got_back}
use Rattle.dwarf_units.proofs.Entries.{entries_all}

all_listed : (x : Spec) (specs : List Spec) (n : ℕ) (s : List ℕ) (vs : List Attribute) (m : ℕ) (k : List ℕ) → read_attributes (x ∷ specs) n s ≡ got vs m k
    → ((ws : List Attribute) (j : ℕ) (l : List ℕ) → read_attributes specs j l ≡ got ws m k → readable specs j l ≡ ws) → readable (x ∷ specs) n s ≡ vs
all_listed x specs n s vs m k h more = first (read_attribute x n s) h
  where
    first : (r : Res ℕ Attribute) → and_then r (λ a m k. with_value (λ more. a ∷ more) (read_attributes specs m k)) ≡ got vs m k → listed r (readable specs) ≡ vs
    first (got v j l) g =
        let w = got_back (λ more. v ∷ more) vs m k (read_attributes specs j l) g in
        ap (λ z. v ∷ z) (more w.0 j l w.1.0) ∙ w.1.1
    first (bad r j) g = absurd (cc)

-- what can be read of attributes that are all there are these
pub all_readable : (specs : List Spec) (n : ℕ) (s : List ℕ) (vs : List Attribute) (m : ℕ) (k : List ℕ) → read_attributes specs n s ≡ got vs m k → readable specs n s ≡ vs
all_readable [] n s vs m k h = cc
all_readable (x ∷ specs) n s vs m k h = all_listed x specs n s vs m k h (λ ws j l g. all_readable specs j l ws m k g)

-- an entry that was read has a declaration, and behind its code its attributes
pub record Parts (list : List Abbrev) (n : ℕ) (t : List ℕ) (e : Entry) : Type 0 where
  pub declaration : Abbrev
  pub found : find_code list e.node.code ≡ Some declaration
  pub place : ℕ
  pub rest : List ℕ
  pub code : read_uleb n t ≡ got e.node.code place rest
  pub end : ℕ
  pub behind : List ℕ
  pub attributes : read_attributes declaration.specs place rest ≡ got e.attributes end behind

-- its offset and its unit are those at which it was read
pub record IsRead (list : List Abbrev) (unit n : ℕ) (t : List ℕ) (e : Entry) : Type 0 where
  pub parts : Parts list n t e
  pub offset : e.node.offset ≡ n
  pub unit_number : e.node.unit ≡ unit

pub entry_parts : (list : List Abbrev) (unit : ℕ) (s : Walk) (n : ℕ) (t : List ℕ) (e : Entry) (j : ℕ) (l : List ℕ) → read_entry list unit s n t ≡ got (Some e) j l → IsRead list unit n t e
entry_parts list unit s n t e j l h = by_code (read_uleb n t) refl h
  where
    by_declaration : (code m : ℕ) (k : List ℕ) → read_uleb n t ≡ got code m k → (o : Option Abbrev) → find_code list code ≡ o → read_after_code unit s n code o m k ≡ got (Some e) j l → IsRead list unit n t e
    by_declaration code m k r None f g = absurd (cc)
    by_declaration code m k r (Some a) f g =
        let w = got_back (entry_of unit s n code a) (Some e) j l (read_attributes a.specs m k) g in
        let made : Entry = record { node = record { offset = n; unit = unit; code = code; tag = a.tag; up = s.under }; children = a.children; attributes = w.0 } in
        let made_is : Some made ≡ Some e = w.1.1 in
        let same : made ≡ e = cc in
        let is_code : code ≡ e.node.code = ap (λ (y : Entry). y.node.code) same in
        record {
          parts = record {
            declaration = a;
            found = ap (find_code list) (sym is_code) ∙ f;
            place = m;
            rest = k;
            code = r ∙ ap (λ c. got c m k) is_code;
            end = j;
            behind = l;
            attributes = w.1.0 ∙ ap (λ vs. got vs j l) (ap (λ (y : Entry). y.attributes) same);
          };
          offset = sym (ap (λ (y : Entry). y.node.offset) same);
          unit_number = sym (ap (λ (y : Entry). y.node.unit) same);
        }

    by_rule : (code m : ℕ) (k : List ℕ) (o : Option ℕ) → read_uleb n t ≡ got code m k
        → and_then (unless_broken o n (got code m k)) (λ code m k. read_after_code unit s n code (find_code list code) m k) ≡ got (Some e) j l → IsRead list unit n t e
    by_rule code m k None r g = by_declaration code m k r (find_code list code) refl g
    by_rule code m k (Some q) r g = absurd (cc)

    by_code : (x : Res ℕ ℕ) → read_uleb n t ≡ x → and_then (as_item (code_breaks list s) n x) (λ code m k. read_after_code unit s n code (find_code list code) m k) ≡ got (Some e) j l → IsRead list unit n t e
    by_code (got code m k) r g = by_rule code m k (code_breaks list s code) r g
    by_code (bad q m) r g = absurd (cc)

-- an entry among those that are present is among all
present_at : (rows : List (Option Entry)) (i : ℕ) (e : Entry) → slice_get (present rows) i ≡ Some e → (j : ℕ) × (slice_get rows j ≡ Some (Some e))
present_at [] i e h = absurd (cc)
present_at (None ∷ rows) i e h = let w = present_at rows i e h in (suc w.0, w.1)
present_at (Some d ∷ rows) zero e h = let same : d ≡ e = cc in (zero, ap (λ x. Some (Some x)) same)
present_at (Some d ∷ rows) (suc i) e h = let w = present_at rows i e h in (suc w.0, w.1)

-- an entry of a tree is read again among the tree's bytes, whatever follows them
pub record InTree (list : List Abbrev) (unit m : ℕ) (t k : List ℕ) (e : Entry) : Type 0 where
  pub before : ℕ
  pub inside : before ≤ length t
  pub read : IsRead list unit (m + before) (drop before (t ++ k)) e

pub in_tree : (list : List Abbrev) (unit : ℕ) (nodes : List Node) (m : ℕ) (es : List Entry) (t k : List ℕ) → (tree list unit nodes).spells m es t → (i : ℕ) (e : Entry) → slice_get es i ≡ Some e → InTree list unit m t k e
in_tree list unit nodes m es t k h i e g =
    let p = present_at h.0 i e (ap (λ xs. slice_get xs i) (sym h.1.0) ∙ g) in
    let w = nth (entries list unit) (due_under nodes None) m h.0 t h.1.1 p.0 (Some e) p.1 in
    record {
      before = length w.before;
      inside = omega (arith, ap length w.split, length-append w.before (w.own ++ w.after));
      read = entry_parts list unit w.state (m + length w.before) (drop (length w.before) (t ++ k)) e _ _ (again (entries list unit) (read_entry list unit) (entries_all list unit) m t k (Some e) w);
    }

-- the bytes of a unit are its header's, its tree's, and what follows
pub record InUnit (abbrevs : List ℕ) (s : SoFar) (n : ℕ) (u : CompileUnit) (own : List ℕ) : Type 0 where
  pub lead : List ℕ
  pub tree_bytes : List ℕ
  pub slack : List ℕ
  pub split : own ≡ lead ++ (tree_bytes ++ slack)
  pub spells : (tree u.table s.units s.nodes).spells (n + length lead) u.entries tree_bytes
  pub size : length own ≡ u.header.unit_length + 4
  pub offset : u.header.offset ≡ n

pub in_unit : (abbrevs : List ℕ) (s : SoFar) (n : ℕ) (u : CompileUnit) (own : List ℕ) → (unit abbrevs s).spells n u own → InUnit abbrevs s n u own
in_unit abbrevs s n u own h =
    let size = h.0 in
    let box = h.1 in
    let four : length box.front ≡ 4 = box.is_front.0.1.1.1 in
    let long : length box.back ≡ size = box.is_back.0 in
    let body = box.is_back.1 in
    let at = body.is_front.0 in
    let head = body.is_front.1 in
    let list = head.is_back.0 in
    let rest = head.is_back.1 in
    let none : rest.front ≡ [] = rest.is_front.0 in
    let made = rest.is_back in
    let is : u ≡ record { header = record { offset = n; unit_length = size; abbrev_offset = at }; table = list; entries = made.0 } = made.1.0 in
    let whole : own ≡ (box.front ++ head.front) ++ (rest.back ++ body.back) =
    box.split ∙ ap (λ x. box.front ++ x) (body.split ∙ ap (λ x. x ++ body.back) (head.split ∙ ap (λ x. head.front ++ x) (rest.split ∙ ap (λ x. x ++ rest.back) none)) ∙ append_assoc head.front rest.back body.back)
    ∙ sym (append_assoc box.front head.front (rest.back ++ body.back)) in
    let place : n + length box.front + length head.front + length rest.front ≡ n + length (box.front ++ head.front) = omega (arith, ap length none, length-append box.front head.front) in
    let there : (tree list s.units s.nodes).spells (n + length (box.front ++ head.front)) made.0 rest.back = subst (λ m. (tree list s.units s.nodes).spells m made.0 rest.back) place made.1.1 in
    record {
      lead = box.front ++ head.front;
      tree_bytes = rest.back;
      slack = body.back;
      split = whole;
      spells = subst (λ (v : CompileUnit). (tree v.table s.units s.nodes).spells (n + length (box.front ++ head.front)) v.entries rest.back) (sym is) there;
      size = (let z : length own ≡ size + 4 = omega (arith, ap length box.split, length-append box.front box.back, four, long) in z) ∙ ap (λ (v : CompileUnit). v.header.unit_length + 4) (sym is);
      offset = ap (λ (v : CompileUnit). v.header.offset) is;
    }

-- an entry at an index of two lists, one after the other, is in one of them
in_both : (xs ys : List Entry) (i : ℕ) (e : Entry) → slice_get (xs ++ ys) i ≡ Some e → (slice_get xs i ≡ Some e) ⊎ ((j : ℕ) × (slice_get ys j ≡ Some e))
in_both [] ys i e h = inr (i, h)
in_both (x ∷ xs) ys zero e h = inl h
in_both (x ∷ xs) ys (suc i) e h = in_both xs ys i e h

-- an entry of the section is in a unit
pub record InUnits (abbrevs : List ℕ) (s : SoFar) (n : ℕ) (us : List CompileUnit) (t : List ℕ) (e : Entry) : Type 0 where
  pub number : ℕ
  pub unit : CompileUnit
  pub at : slice_get us number ≡ Some unit
  pub state : SoFar
  pub counted : state.units ≡ s.units + number
  pub before : List ℕ
  pub own : List ℕ
  pub after : List ℕ
  pub split : t ≡ before ++ (own ++ after)
  pub inside : InUnit abbrevs state (n + length before) unit own
  pub index : ℕ
  pub is : slice_get unit.entries index ≡ Some e

-- an entry of the units after the first
in_others : (abbrevs : List ℕ) (s : SoFar) (n : ℕ) (u : CompileUnit) (us : List CompileUnit) (t : List ℕ) {e : Entry} (h : RowSpells (units abbrevs) s n (u ∷ us) t)
    → InUnits abbrevs (after_unit s u) (n + length h.1.front) us h.1.back e → InUnits abbrevs s n (u ∷ us) t e
in_others abbrevs s n u us t h q = record {
  number = suc q.number;
  unit = q.unit;
  at = q.at;
  state = q.state;
  counted = omega (arith, q.counted);
  before = h.1.front ++ q.before;
  own = q.own;
  after = q.after;
  split = h.1.split ∙ ap (λ l. h.1.front ++ l) q.split ∙ sym (append_assoc h.1.front q.before (q.own ++ q.after));
  inside = subst (λ m. InUnit abbrevs q.state m q.unit q.own) (omega (arith, length-append h.1.front q.before)) q.inside;
  index = q.index;
  is = q.is;
}

pub in_units : (abbrevs : List ℕ) (s : SoFar) (n : ℕ) (us : List CompileUnit) (t : List ℕ) → RowSpells (units abbrevs) s n us t → (i : ℕ) (e : Entry) → slice_get (entries_in us) i ≡ Some e → InUnits abbrevs s n us t e
in_units abbrevs s n [] t h i e g = absurd (cc)
in_units abbrevs s n (u ∷ us) t h i e g = elim (in_both u.entries (entries_in us) i e g) [
  | inl f ↦ record {
    number = zero;
    unit = u;
    at = refl;
    state = s;
    counted = sym (add-zero s.units);
    before = [];
    own = h.1.front;
    after = h.1.back;
    split = h.1.split;
    inside = subst (λ m. InUnit abbrevs s m u h.1.front) (sym (add-zero n)) (in_unit abbrevs s n u h.1.front h.1.is_front);
    index = i;
    is = f;
  }
  | inr f ↦ in_others abbrevs s n u us t h (in_units abbrevs (after_unit s u) (n + length h.1.front) us h.1.back h.1.is_back f.0 e f.1)
]

-- an entry of a section that consists of units is read again at its offset, in the bytes up to its unit's end
pub record IsThere (info : List ℕ) (us : List CompileUnit) (e : Entry) : Type 0 where
  pub unit : CompileUnit
  pub at : slice_get us e.node.unit ≡ Some unit
  pub ends : unit.header.offset + (unit.header.unit_length + 4) ≤ length info
  pub inside : e.node.offset ≤ unit.header.offset + (unit.header.unit_length + 4)
  pub parts : Parts unit.table e.node.offset (drop e.node.offset (take (unit.header.offset + (unit.header.unit_length + 4)) info)) e

pub is_there : (abbrevs info : List ℕ) (us : List CompileUnit) → AreUnits abbrevs info us → (i : ℕ) (e : Entry) → slice_get (entries_in us) i ≡ Some e → IsThere info us e
is_there abbrevs info us h i e g =
    let p = in_units abbrevs (at_start (length info)) 0 us info h i e g in
    let q = p.inside in
    let r = in_tree p.unit.table p.state.units p.state.nodes (0 + length p.before + length q.lead) p.unit.entries q.tree_bytes q.slack q.spells p.index e p.is in
    let end = p.unit.header.offset + (p.unit.header.unit_length + 4) in
    let ends : end ≡ length (p.before ++ p.own) = omega (arith, q.offset, q.size, length-append p.before p.own) in
    let front : take end info ≡ p.before ++ p.own = ap (λ j. take j info) ends ∙ ap (take (length (p.before ++ p.own))) (p.split ∙ sym (append_assoc p.before p.own p.after)) ∙ take-append_seam (p.before ++ p.own) p.after in
    let offset : e.node.offset ≡ length (p.before ++ q.lead) + r.before = omega (arith, r.read.offset, length-append p.before q.lead) in
    let bytes : p.before ++ p.own ≡ (p.before ++ q.lead) ++ (q.tree_bytes ++ q.slack) = ap (λ l. p.before ++ l) q.split ∙ sym (append_assoc p.before q.lead (q.tree_bytes ++ q.slack)) in
    let dropped : drop e.node.offset (take end info) ≡ drop r.before (q.tree_bytes ++ q.slack) =
    ap (λ j. drop j (take end info)) offset ∙ ap (drop (length (p.before ++ q.lead) + r.before)) (front ∙ bytes) ∙ sym (drop-drop r.before (length (p.before ++ q.lead)) ((p.before ++ q.lead) ++ (q.tree_bytes ++ q.slack)))
    ∙ ap (drop r.before) (drop-append_seam (p.before ++ q.lead) (q.tree_bytes ++ q.slack)) in
    record {
      unit = p.unit;
      at = ap (slice_get us) (let z : e.node.unit ≡ p.number = omega (arith, r.read.unit_number, p.counted) in z) ∙ p.at;
      ends = omega (arith, ends, ap length p.split, length-append p.before (p.own ++ p.after), length-append p.own p.after, length-append p.before p.own);
      inside = omega (arith, offset, ends, r.inside, ap length bytes, length-append (p.before ++ q.lead) (q.tree_bytes ++ q.slack), length-append q.tree_bytes q.slack);
      parts = subst (λ s. Parts p.unit.table e.node.offset s e) (sym dropped) (subst (λ n. Parts p.unit.table n (drop r.before (q.tree_bytes ++ q.slack)) e) (sym r.read.offset) r.read.parts);
    }
