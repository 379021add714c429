-- What a set, and the entry that stands open behind it, have with one line more: their lines and their counts.
use Rattle.std.proofs.Common.{
  ◌≡◌,
  ◌≢◌,
  ◌∙◌,
  sym,
  ap,
  subst,
  refl,
  ℕ,
  ◌+◌,
  ◌<◌,
  ◌≤◌,
  ◌==◌,
  ◌&&◌,
  Bool,
  true,
  false,
  if◌then◌else◌,
  List,
  [],
  ◌∷◌,
  ◌++◌,
  length,
  map,
  append_assoc,
  Option,
  Some,
  None,
  IfSome,
  arith,
}
use Rattle.std.proofs.lemmas.Grind.{flat_map-append}
use Rattle.std.proofs.lemmas.List.{append-nil, length-append}
use Rattle.std.proofs.lemmas.Bool.{not-true, eqb-true, eq-eqb}
use Rattle.std.proofs.lemmas.List.Sums.{sum_by-append, sum_by-cons}
use Rattle.std.specs.List.{flat_map}
use Rattle.layout_set.specs.Counts.{parts_of, piece_parts, entry_parts, part_count, variable_count}
use Rattle.layout_set.specs.declared.func.Entry.{Entry}
use Rattle.layout_set.specs.declared.func.Func.{Func}
use Rattle.layout_set.specs.declared.func.Loc.TheVariants.{Whole}
use Rattle.layout_set.specs.declared.func.Piece.{Piece}
use Rattle.layout_set.specs.declared.set.Set.{Set}
use Rattle.layout_set.specs.declared.set.Static.{Static}
use Rattle.layout_set.specs.declared.set.TypeDef.{TypeDef}
use Rattle.layout_words.specs.declared.kinds.LineKind.TheVariants as firsts
use Rattle.layout_lines.specs.declared.open_entry.OpenEntry.{OpenEntry}
use Rattle.layout_lines.specs.declared.line.Line.{Line}
use Rattle.layout_lines.specs.declared.line.Line.TheVariants as lines
use Rattle.layout_lines.specs.Lines.{kind_of_line, IsLine}
use Rattle.layout_lines.specs.Sets.{
  type_lines,
  func_lines,
  entry_lines,
  open_lines,
  open_parts,
  lines_of,
  lines_before,
  last_of,
  last_may_go_on,
  last_scope,
  has_scopes,
  has_vars,
  may_follow,
  may_follow_set,
  is_empty,
  is_piece,
}
use Rattle.layout_builder.specs.Additions.{Draft, with_last, with_part, with_scope, with_var_in_func, with_entry_in_func, entry_added, closed, settled, added}
use Rattle.layout_builder.specs.LineCounts.{line_types, line_parts, line_variables}
use Rattle.layout_builder.proofs.WithLast.{length_with_last}
use Rattle.layout_builder.proofs.TypeAdding.{bare_lines, one_more, both_true, types_added, parts_counted, no_parts}
use Rattle.layout_builder.proofs.FuncAdding.{Longer, func_longer, scope_longer, var_longer, entry_longer, a_scope, a_var}

-- the set with these lines more, and with so many types, parts and variables more
pub record Grew (set s : Set) (more : List Line) (k n m : ℕ) : Type 0 where
  pub lines : lines_of s ≡ lines_of set ++ more
  pub target : s.target ≡ set.target
  pub types : length s.types ≡ length set.types + k
  pub parts : part_count s ≡ part_count set + n
  pub vars : variable_count s ≡ variable_count set + m

-- the entry may stand behind the set, and a piece of it is missing
abbrev pub Stands : Set → OpenEntry → Type 0
Stands set o = (has_vars (last_scope (last_of set.funcs)) ≡ true) × (length o.pieces < o.count)

abbrev pub IsReady : Draft → Type 0
IsReady d = IfSome d.1 (Stands d.0)

-- the set and the entry that stands open with the line more
pub record Advance (set : Set) (open_entry : Option OpenEntry) (l : Line) (d : Draft) : Type 0 where
  pub lines : lines_before d.0 d.1 ≡ lines_before set open_entry ++ l ∷ []
  pub target : d.0.target ≡ set.target
  pub types : length d.0.types ≡ length set.types + line_types l
  pub parts : part_count d.0 + open_parts d.1 ≡ part_count set + open_parts open_entry + line_parts l
  pub vars : variable_count d.0 ≡ variable_count set + line_variables l
  pub ready : IsReady d

-- functions stand last
of_funcs : (set : Set) (funcs : List Func) (more : List Line) (parts vars : ℕ) → Longer set.funcs funcs more parts vars
    → Grew set (record set { funcs = funcs }) more 0 parts vars
of_funcs set funcs more parts vars g =
    let types = flat_map type_lines set.types in
    let statics = map (λ s. lines.Static s) set.statics in
    let before = flat_map func_lines set.funcs in
    record {
      lines = ap (λ ls. types ++ (statics ++ ls)) g.lines
          ∙ ap (λ ls. types ++ ls) (sym (append_assoc statics before more))
          ∙ sym (append_assoc types (statics ++ before) more);
      target = refl;
      types = omega arith;
      parts = omega (arith, g.parts);
      vars = omega (arith, g.vars);
    }

no_funcs : (funcs : List Func) → is_empty funcs ≡ true → funcs ≡ []
no_funcs [] h = refl
no_funcs (f ∷ funcs) h = absurd (cc)

no_statics : (statics : List Static) → is_empty statics ≡ true → statics ≡ []
no_statics [] h = refl
no_statics (s ∷ statics) h = absurd (cc)

-- nothing stands behind the types
types_last : (set : Set) → is_empty set.funcs ≡ true → is_empty set.statics ≡ true → map (λ s. lines.Static s) set.statics ++ flat_map func_lines set.funcs ≡ []
types_last set f s =
    ap (λ ss. map (λ s. lines.Static s) ss ++ flat_map func_lines set.funcs) (no_statics set.statics s) ∙ ap (flat_map func_lines) (no_funcs set.funcs f)

-- lines and one more, where nothing stands behind
line_last : (before after behind : List Line) (l : Line) → behind ≡ [] → after ≡ before ++ l ∷ [] → after ++ behind ≡ (before ++ behind) ++ l ∷ []
line_last before after behind l h e =
    ap (λ ls. after ++ ls) h
    ∙ append-nil after
    ∙ e
    ∙ ap (λ ls. ls ++ l ∷ []) (sym (append-nil before))
    ∙ ap (λ ls. (before ++ ls) ++ l ∷ []) (sym h)

of_type : (set : Set) (def : TypeDef) → (is_empty set.funcs && is_empty set.statics) ≡ true → IsLine (lines.Type def)
    → Grew set (record set { types = set.types ++ def ∷ [] }) (lines.Type def ∷ []) 1 0 0
of_type set def h is =
    let e = both_true (is_empty set.funcs) (is_empty set.statics) h in
    let before = flat_map type_lines set.types in
    let one = flat_map-append type_lines set.types (def ∷ []) ∙ ap (λ ls. before ++ ls) (append-nil (type_lines def) ∙ bare_lines def is) in
    record {
      lines = line_last before (flat_map type_lines (set.types ++ def ∷ [])) (map (λ s. lines.Static s) set.statics ++ flat_map func_lines set.funcs)
          (lines.Type def) (types_last set e.0 e.1) one;
      target = refl;
      types = length-append set.types (def ∷ []);
      parts = omega (arith, sum_by-append parts_of set.types (def ∷ []), sum_by-cons parts_of def [], no_parts def is);
      vars = omega arith;
    }

of_part : (set : Set) (l : Line) → (is_empty set.funcs && (is_empty set.statics && last_may_go_on (last_of set.types) (kind_of_line l))) ≡ true
    → Grew set (record set { types = with_last (with_part l) set.types }) (l ∷ []) 0 (line_parts l) 0
of_part set l h =
    let e = both_true (is_empty set.funcs) (is_empty set.statics && last_may_go_on (last_of set.types) (kind_of_line l)) h in
    let d = both_true (is_empty set.statics) (last_may_go_on (last_of set.types) (kind_of_line l)) e.1 in
    let before = flat_map type_lines set.types in
    record {
      lines = line_last before (flat_map type_lines (with_last (with_part l) set.types))
          (map (λ s. lines.Static s) set.statics ++ flat_map func_lines set.funcs) l (types_last set e.0 d.0) (types_added set.types l d.1);
      target = refl;
      types = omega (arith, length_with_last (with_part l) set.types);
      parts = omega (arith, parts_counted set.types l d.1);
      vars = omega arith;
    }

of_static : (set : Set) (s : Static) → is_empty set.funcs ≡ true → Grew set (record set { statics = set.statics ++ s ∷ [] }) (lines.Static s ∷ []) 0 0 1
of_static set s h =
    let types = flat_map type_lines set.types in
    let before = map (λ x. lines.Static x) set.statics in
    let after = map (λ x. lines.Static x) (set.statics ++ s ∷ []) in
    let funcs = flat_map func_lines set.funcs in
    record {
      lines = ap (λ ls. types ++ ls) (line_last before after funcs (lines.Static s) (ap (flat_map func_lines) (no_funcs set.funcs h))
          (one_more (λ x. lines.Static x) set.statics s))
          ∙ sym (append_assoc types (before ++ funcs) (lines.Static s ∷ []));
      target = refl;
      types = omega arith;
      parts = omega arith;
      vars = omega (arith, length-append set.statics (s ∷ []));
    }

pub of_entry : (set : Set) (e : Entry) → has_vars (last_scope (last_of set.funcs)) ≡ true → Grew set (entry_added set e) (entry_lines e) 0 (entry_parts e) 0
of_entry set e h = of_funcs set (with_last (with_entry_in_func e) set.funcs) (entry_lines e) (entry_parts e) 0 (entry_longer set.funcs e (a_var set.funcs h))

-- nothing stands open before the line, nor after it
none_open : (set s : Set) (l : Line) → Grew set s (l ∷ []) (line_types l) (line_parts l) (line_variables l) → Advance set None l (s, None)
none_open set s l g = record {
  lines = append-nil (lines_of s) ∙ g.lines ∙ ap (λ ls. ls ++ l ∷ []) (sym (append-nil (lines_of set)));
  target = g.target;
  types = g.types;
  parts = omega (arith, g.parts);
  vars = g.vars;
  ready = tt;
}

not_same_by : (a b : ℕ) (t : Bool) → (a == b) ≡ t → a < b → (a == b) ≡ false
not_same_by a b true e h = absurd (let s = eqb-true a b e in omega (arith, s, h))
not_same_by a b false e h = e

not_same : (a b : ℕ) → a < b → (a == b) ≡ false
not_same a b h = not_same_by a b (a == b) refl h

fewer : (a b : ℕ) → a ≤ b → (a == b) ≡ false → a < b
fewer a b h e = let n : a ≢ b = λ s. let t = sym (eq-eqb a b s) ∙ e in cc in omega (arith, h, n)

-- an entry that has all its pieces joins the set
pub settled_closed : (set : Set) (o : OpenEntry) → length o.pieces ≡ o.count → settled set o ≡ (entry_added set (closed o), None)
settled_closed set o h = ap (λ b. if b then (entry_added set (closed o), None) else (set, Some o)) (eq-eqb (length o.pieces) o.count h)

-- and another stands open
pub settled_open : (set : Set) (o : OpenEntry) → length o.pieces < o.count → settled set o ≡ (set, Some o)
settled_open set o h = ap (λ b. if b then (entry_added set (closed o), None) else (set, Some o)) (not_same (length o.pieces) o.count h)

-- an entry with one line more, which is settled then
pub record Begun (set : Set) (open_entry : Option OpenEntry) (l : Line) (o : OpenEntry) : Type 0 where
  pub stands : has_vars (last_scope (last_of set.funcs)) ≡ true
  pub few : length o.pieces ≤ o.count
  pub lines : open_lines (Some o) ≡ open_lines open_entry ++ l ∷ []
  pub parts : open_parts (Some o) ≡ open_parts open_entry + line_parts l
  pub no_types : line_types l ≡ 0
  pub no_vars : line_variables l ≡ 0

closes : (set : Set) (open_entry : Option OpenEntry) (l : Line) (o : OpenEntry) → Begun set open_entry l o → length o.pieces ≡ o.count
    → Advance set open_entry l (settled set o)
closes set open_entry l o b h =
    let s = entry_added set (closed o) in
    let g = of_entry set (closed o) b.stands in
    let same : entry_lines (closed o) ≡ open_lines (Some o) = ap (λ n. lines.Pieces o.lo o.hi n ∷ map (λ p. lines.Piece p) o.pieces) h in
    subst (Advance set open_entry l) (sym (settled_closed set o h))
    (record {
      lines = append-nil (lines_of s) ∙ g.lines ∙ ap (λ ls. lines_of set ++ ls) (same ∙ b.lines)
          ∙ sym (append_assoc (lines_of set) (open_lines open_entry) (l ∷ []));
      target = g.target;
      types = omega (arith, g.types, b.no_types);
      parts = omega (arith, g.parts, b.parts);
      vars = omega (arith, g.vars, b.no_vars);
      ready = tt;
    })

stays : (set : Set) (open_entry : Option OpenEntry) (l : Line) (o : OpenEntry) → Begun set open_entry l o → length o.pieces < o.count
    → Advance set open_entry l (settled set o)
stays set open_entry l o b h =
    subst (Advance set open_entry l) (sym (settled_open set o h))
    (record {
      lines = ap (λ ls. lines_of set ++ ls) b.lines ∙ sym (append_assoc (lines_of set) (open_lines open_entry) (l ∷ []));
      target = refl;
      types = omega (arith, b.no_types);
      parts = omega (arith, b.parts);
      vars = omega (arith, b.no_vars);
      ready = (b.stands, h);
    })

settles_by : (set : Set) (open_entry : Option OpenEntry) (l : Line) (o : OpenEntry) → Begun set open_entry l o → (b : Bool) → (length o.pieces == o.count) ≡ b
    → Advance set open_entry l (settled set o)
settles_by set open_entry l o b true e = closes set open_entry l o b (eqb-true (length o.pieces) o.count e)
settles_by set open_entry l o b false e = stays set open_entry l o b (fewer (length o.pieces) o.count b.few e)

settles : (set : Set) (open_entry : Option OpenEntry) (l : Line) (o : OpenEntry) → Begun set open_entry l o → Advance set open_entry l (settled set o)
settles set open_entry l o b = settles_by set open_entry l o b (length o.pieces == o.count) refl

var_follows : (set : Set) (param : Bool) → may_follow_set set (if param then firsts.Arg else firsts.Var) ≡ true → has_scopes (last_of set.funcs) ≡ true
var_follows set true h = h
var_follows set false h = h

-- a line where no entry stands open
set_advances : (set : Set) (l : Line) → may_follow_set set (kind_of_line l) ≡ true → IsLine l → Advance set None l (added set None l)
set_advances set (lines.Type def) h is = none_open set (record set { types = set.types ++ def ∷ [] }) (lines.Type def) (of_type set def h is)
set_advances set (lines.Param p) h is = none_open set (record set { types = with_last (with_part (lines.Param p)) set.types }) (lines.Param p)
    (of_part set (lines.Param p) h)
set_advances set (lines.Field f) h is = none_open set (record set { types = with_last (with_part (lines.Field f)) set.types }) (lines.Field f)
    (of_part set (lines.Field f) h)
set_advances set (lines.Case c) h is = none_open set (record set { types = with_last (with_part (lines.Case c)) set.types }) (lines.Case c)
    (of_part set (lines.Case c) h)
set_advances set (lines.Tag t) h is = none_open set (record set { types = with_last (with_part (lines.Tag t)) set.types }) (lines.Tag t)
    (of_part set (lines.Tag t) h)
set_advances set (lines.Variant w sel) h is =
    none_open set (record set { types = with_last (with_part (lines.Variant w sel)) set.types }) (lines.Variant w sel) (of_part set (lines.Variant w sel) h)
set_advances set (lines.Static s) h is = none_open set (record set { statics = set.statics ++ s ∷ [] }) (lines.Static s) (of_static set s h)
set_advances set (lines.Func f) h is =
    none_open set (record set { funcs = set.funcs ++ f ∷ [] }) (lines.Func f)
    (of_funcs set (set.funcs ++ f ∷ []) (lines.Func f ∷ []) 0 0 (func_longer set.funcs f is.1))
set_advances set (lines.Scope s) h is =
    none_open set (record set { funcs = with_last (with_scope s) set.funcs }) (lines.Scope s)
    (of_funcs set (with_last (with_scope s) set.funcs) (lines.Scope s ∷ []) (1 + length s.zones) 0
    (scope_longer set.funcs s (not-true (is_empty set.funcs) h) is.1))
set_advances set (lines.Var v) h is =
    none_open set (record set { funcs = with_last (with_var_in_func v) set.funcs }) (lines.Var v)
    (of_funcs set (with_last (with_var_in_func v) set.funcs) (lines.Var v ∷ []) 0 1
    (var_longer set.funcs v (a_scope set.funcs (var_follows set v.param h)) is.1))
set_advances set (lines.Whole lo hi place) h is =
    let e : Entry = record { lo = lo; hi = hi; loc = Whole place } in
    none_open set (entry_added set e) (lines.Whole lo hi place) (of_entry set e h)
set_advances set (lines.Pieces lo hi count) h is =
    settles set None (lines.Pieces lo hi count) (record { lo = lo; hi = hi; count = count; pieces = [] })
    (record { stands = h; few = omega arith; lines = refl; parts = refl; no_types = refl; no_vars = refl })
set_advances set (lines.Piece p) h is = absurd (cc)

-- a piece of the entry that stands open
piece_advances : (set : Set) (o : OpenEntry) (p : Piece) → Stands set o → Advance set (Some o) (lines.Piece p) (added set (Some o) (lines.Piece p))
piece_advances set o p s =
    settles set (Some o) (lines.Piece p) (record o { pieces = o.pieces ++ p ∷ [] })
    (record {
      stands = s.0;
      few = omega (arith, length-append o.pieces (p ∷ []), s.1);
      lines = ap (λ ls. lines.Pieces o.lo o.hi o.count ∷ ls) (one_more (λ x. lines.Piece x) o.pieces p);
      parts = omega (arith, sum_by-append piece_parts o.pieces (p ∷ []), sum_by-cons piece_parts p []);
      no_types = refl;
      no_vars = refl;
    })

no_piece : (param : Bool) → is_piece (if param then firsts.Arg else firsts.Var) ≡ true → ⊥
no_piece true h = cc
no_piece false h = cc

open_advances : (set : Set) (o : OpenEntry) (l : Line) → is_piece (kind_of_line l) ≡ true → Stands set o → Advance set (Some o) l (added set (Some o) l)
open_advances set o (lines.Piece p) h s = piece_advances set o p s
open_advances set o (lines.Var v) h s = absurd (no_piece v.param h)
open_advances set o l h s = absurd (cc)

-- a line that may follow is the last with it
pub advances : (set : Set) (open_entry : Option OpenEntry) (l : Line) → may_follow set open_entry (kind_of_line l) ≡ true → IsLine l → IsReady (set, open_entry)
    → Advance set open_entry l (added set open_entry l)
advances set None l h is r = set_advances set l h is
advances set (Some o) l h is r = open_advances set o l h r
