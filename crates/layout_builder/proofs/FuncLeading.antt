-- The lines of functions, and of an entry that stands open, lead to the set with them.
use Rattle.std.proofs.Common.{
  ◌≡◌,
  ◌∙◌,
  sym,
  ap,
  subst,
  refl,
  ℕ,
  ◌<◌,
  not,
  Bool,
  true,
  false,
  if◌then◌else◌,
  List,
  [],
  ◌∷◌,
  ◌++◌,
  length,
  map,
  append_assoc,
  Option,
  Some,
  None,
  arith,
}
use Rattle.std.proofs.lemmas.List.{append-nil, length-append}
use Rattle.std.specs.List.{flat_map}
use Rattle.layout_set.specs.declared.func.Entry.{Entry}
use Rattle.layout_set.specs.declared.func.Func.{Func}
use Rattle.layout_set.specs.declared.func.Loc.{Loc}
use Rattle.layout_set.specs.declared.func.Loc.TheVariants.{Whole, Pieces}
use Rattle.layout_set.specs.declared.func.Piece.{Piece}
use Rattle.layout_set.specs.declared.func.Scope.{Scope}
use Rattle.layout_set.specs.declared.func.Var.{Var}
use Rattle.layout_set.specs.declared.set.Set.{Set}
use Rattle.layout_words.specs.declared.kinds.LineKind.TheVariants as firsts
use Rattle.layout_lines.specs.declared.open_entry.OpenEntry.{OpenEntry}
use Rattle.layout_lines.specs.declared.line.Line.TheVariants as lines
use Rattle.layout_lines.specs.Sets.{
  type_lines,
  loc_lines,
  entry_lines,
  var_lines,
  scope_lines,
  func_lines,
  open_lines,
  lines_of,
  lines_before,
  last_of,
  last_scope,
  has_scopes,
  has_vars,
  may_follow,
}
use Rattle.layout_builder.specs.Additions.{
  Draft,
  with_entry,
  with_var,
  with_scope,
  with_entry_in_scope,
  with_entry_in_func,
  with_var_in_func,
  entry_added,
  settled,
  added,
}
use Rattle.layout_builder.proofs.WithLast.{with_last_end}
use Rattle.layout_lines.proofs.LastItems.{last_of_end, some_end}
use Rattle.layout_builder.proofs.Adding.{Stands, IsReady, settled_closed, settled_open}
use Rattle.layout_builder.proofs.Leading.{Leads, leads_both, each_leads, shift, empty_set, types_lead}

-- an entry with pieces before, of as many as there are before and behind
abbrev open_entry_with : ℕ → ℕ → List Piece → List Piece → OpenEntry
open_entry_with lo hi before ps = record { lo = lo; hi = hi; count = length (before ++ ps); pieces = before }

abbrev entry_with : ℕ → ℕ → List Piece → Entry
entry_with lo hi ps = record { lo = lo; hi = hi; loc = Pieces ps }

some_missing : (before ps : List Piece) (p : Piece) → length before < length (before ++ p ∷ ps)
some_missing before ps p = omega (arith, length-append before (p ∷ ps))

-- the pieces that are missing lead to the set with the entry
pieces_lead : (set : Set) (lo hi : ℕ) (before ps : List Piece)
    → Leads (settled set (open_entry_with lo hi before ps)) (map (λ p. lines.Piece p) ps) (entry_added set (entry_with lo hi (before ++ ps)), None)
pieces_lead set lo hi before [] =
    settled_closed set (open_entry_with lo hi before []) (ap length (sym (append-nil before)))
    ∙ ap (λ ps. (entry_added set (entry_with lo hi ps), None)) (sym (append-nil before))
pieces_lead set lo hi before (p ∷ ps) =
    let o = open_entry_with lo hi before (p ∷ ps) in
    let end : Draft = (entry_added set (entry_with lo hi (before ++ p ∷ ps)), None) in
    let rest = map (λ x. lines.Piece x) ps in
    let more = pieces_lead set lo hi (before ++ p ∷ []) ps in
    let all : Leads (settled set (record o { pieces = before ++ p ∷ [] })) rest end =
    subst (λ xs. Leads (settled set (record { lo = lo; hi = hi; count = length xs; pieces = before ++ p ∷ [] })) rest (
      entry_added set (entry_with lo hi xs),
      None,
    )) (shift before p ps) more
    in
    subst (λ d. Leads d (lines.Piece p ∷ rest) end) (sym (settled_open set o (some_missing before ps p))) (refl, all)

-- the lines of an entry lead to the set with it
entry_leads : (set : Set) (e : Entry) (loc : Loc) → has_vars (last_scope (last_of set.funcs)) ≡ true
    → Leads (set, None) (loc_lines e.lo e.hi loc) (entry_added set (record e { loc = loc }), None)
entry_leads set e (Whole place) h = (h, refl)
entry_leads set e (Pieces ps) h = (h, pieces_lead set e.lo e.hi [] ps)

-- the pieces of an entry that stands open lead to it
open_pieces_lead : (set : Set) (lo hi count : ℕ) (before ps : List Piece) → length (before ++ ps) < count
    → Leads (set, Some (record { lo = lo; hi = hi; count = count; pieces = before })) (map (λ p. lines.Piece p) ps) (
      set,
      Some (record { lo = lo; hi = hi; count = count; pieces = before ++ ps }),
    )
open_pieces_lead set lo hi count before [] h = ap (λ ps. (set, Some (record { lo = lo; hi = hi; count = count; pieces = ps }))) (sym (append-nil before))
open_pieces_lead set lo hi count before (p ∷ ps) h =
    let o : OpenEntry = record { lo = lo; hi = hi; count = count; pieces = before ++ p ∷ [] } in
    let end : Draft = (set, Some (record { lo = lo; hi = hi; count = count; pieces = before ++ p ∷ ps })) in
    let rest = map (λ x. lines.Piece x) ps in
    let same = shift before p ps in
    let room : length ((before ++ p ∷ []) ++ ps) < count = subst (λ xs. length xs < count) (sym same) h in
    let few : length (before ++ p ∷ []) < count = omega (arith, length-append (before ++ p ∷ []) ps, room) in
    let more : Leads (set, Some o) rest end =
    subst (λ xs. Leads (set, Some o) rest (set, Some (record { lo = lo; hi = hi; count = count; pieces = xs }))) same
    (open_pieces_lead set lo hi count (before ++ p ∷ []) ps room)
    in
    (refl, subst (λ d. Leads d rest end) (sym (settled_open set o few)) more)

-- the lines of an entry that stands open lead to it
pub open_leads : (set : Set) (o : OpenEntry) → Stands set o → Leads (set, None) (open_lines (Some o)) (set, Some o)
open_leads set o s =
    let none : 0 < o.count = omega (arith, s.1) in (
      s.0,
      subst (λ d. Leads d (map (λ p. lines.Piece p) o.pieces) (set, Some o)) (sym (settled_open set (record o { pieces = [] }) none))
          (open_pieces_lead set o.lo o.hi o.count [] o.pieces s.1),
    )

-- a set that ends with a function, a scope of it and a variable of that, with these lists
abbrev at_funcs : Set → List Func → Set
at_funcs base funcs = record base { funcs = funcs }

abbrev at_scopes : Set → List Func → Func → List Scope → Set
at_scopes base fs f scopes = at_funcs base (fs ++ record f { scopes = scopes } ∷ [])

abbrev at_vars : Set → List Func → Func → List Scope → Scope → List Var → Set
at_vars base fs f ss s vars = at_scopes base fs f (ss ++ record s { vars = vars } ∷ [])

abbrev at_entries : Set → List Func → Func → List Scope → Scope → List Var → Var → List Entry → Set
at_entries base fs f ss s vs v entries = at_vars base fs f ss s (vs ++ record v { entries = entries } ∷ [])

entry_at_end : (base : Set) (fs : List Func) (f : Func) (ss : List Scope) (s : Scope) (vs : List Var) (v : Var) (before : List Entry) (e : Entry)
    → entry_added (at_entries base fs f ss s vs v before) e ≡ at_entries base fs f ss s vs v (before ++ e ∷ [])
entry_at_end base fs f ss s vs v before e =
    let var : Var = record v { entries = before } in
    let scope : Scope = record s { vars = vs ++ var ∷ [] } in
    let func : Func = record f { scopes = ss ++ scope ∷ [] } in
    ap (at_funcs base) (with_last_end (with_entry_in_func e) fs func)
    ∙ ap (at_scopes base fs f) (with_last_end (with_entry_in_scope e) ss scope)
    ∙ ap (at_vars base fs f ss s) (with_last_end (with_entry e) vs var)

a_var_at_end : (base : Set) (fs : List Func) (f : Func) (ss : List Scope) (s : Scope) (vs : List Var) (v : Var)
    → has_vars (last_scope (last_of (at_vars base fs f ss s (vs ++ v ∷ [])).funcs)) ≡ true
a_var_at_end base fs f ss s vs v =
    let scope : Scope = record s { vars = vs ++ v ∷ [] } in
    let func : Func = record f { scopes = ss ++ scope ∷ [] } in
    ap (λ o. has_vars (last_scope o)) (last_of_end fs func) ∙ ap has_vars (last_of_end ss scope) ∙ ap not (some_end vs v)

of_entry : (base : Set) (fs : List Func) (f : Func) (ss : List Scope) (s : Scope) (vs : List Var) (v : Var) (before : List Entry) (e : Entry)
    → Leads (at_entries base fs f ss s vs v before, None) (entry_lines e) (at_entries base fs f ss s vs v (before ++ e ∷ []), None)
of_entry base fs f ss s vs v before e =
    let set = at_entries base fs f ss s vs v before in
    subst (λ x. Leads (set, None) (entry_lines e) (x, None)) (entry_at_end base fs f ss s vs v before e)
    (entry_leads set e e.loc (a_var_at_end base fs f ss s vs (record v { entries = before })))

var_at_end : (base : Set) (fs : List Func) (f : Func) (ss : List Scope) (s : Scope) (before : List Var) (v : Var)
    → ◌≡◌ {A = Draft} (added (at_vars base fs f ss s before) None (lines.Var v)) (at_vars base fs f ss s (before ++ v ∷ []), None)
var_at_end base fs f ss s before v =
    let scope : Scope = record s { vars = before } in
    let func : Func = record f { scopes = ss ++ scope ∷ [] } in
    ap (λ x. (at_funcs base x, None)) (with_last_end (with_var_in_func v) fs func)
    ∙ ap (λ x. (at_scopes base fs f x, None)) (with_last_end (with_var v) ss scope)

scope_follows : (set : Set) (param : Bool) → has_scopes (last_of set.funcs) ≡ true → may_follow set None (if param then firsts.Arg else firsts.Var) ≡ true
scope_follows set true h = h
scope_follows set false h = h

a_scope_at_end : (base : Set) (fs : List Func) (f : Func) (ss : List Scope) (s : Scope) → has_scopes (last_of (at_scopes base fs f (ss ++ s ∷ [])).funcs) ≡ true
a_scope_at_end base fs f ss s = ap has_scopes (last_of_end fs (record f { scopes = ss ++ s ∷ [] })) ∙ ap not (some_end ss s)

of_var : (base : Set) (fs : List Func) (f : Func) (ss : List Scope) (s : Scope) (before : List Var) (v : Var)
    → Leads (at_vars base fs f ss s before, None) (var_lines v) (at_vars base fs f ss s (before ++ v ∷ []), None)
of_var base fs f ss s before v =
    let bare : Var = record v { entries = [] } in
    let end : Draft = (at_vars base fs f ss s (before ++ v ∷ []), None) in (
      scope_follows (at_vars base fs f ss s before) v.param (a_scope_at_end base fs f ss (record s { vars = before })),
      subst (λ d. Leads d (flat_map entry_lines v.entries) end) (sym (var_at_end base fs f ss s before bare))
          (each_leads entry_lines (at_entries base fs f ss s before v) (of_entry base fs f ss s before v) [] v.entries),
    )

scope_at_end : (base : Set) (fs : List Func) (f : Func) (before : List Scope) (s : Scope)
    → ◌≡◌ {A = Draft} (added (at_scopes base fs f before) None (lines.Scope s)) (at_scopes base fs f (before ++ s ∷ []), None)
scope_at_end base fs f before s = ap (λ x. (at_funcs base x, None)) (with_last_end (with_scope s) fs (record f { scopes = before }))

of_scope : (base : Set) (fs : List Func) (f : Func) (before : List Scope) (s : Scope)
    → Leads (at_scopes base fs f before, None) (scope_lines s) (at_scopes base fs f (before ++ s ∷ []), None)
of_scope base fs f before s =
    let bare : Scope = record s { vars = [] } in
    let end : Draft = (at_scopes base fs f (before ++ s ∷ []), None) in (
      ap not (some_end fs (record f { scopes = before })),
      subst (λ d. Leads d (flat_map var_lines s.vars) end) (sym (scope_at_end base fs f before bare))
          (each_leads var_lines (at_vars base fs f before s) (of_var base fs f before s) [] s.vars),
    )

of_func : (base : Set) (before : List Func) (f : Func) → Leads (at_funcs base before, None) (func_lines f) (at_funcs base (before ++ f ∷ []), None)
of_func base before f = (refl, each_leads scope_lines (at_scopes base before f) (of_scope base before f) [] f.scopes)

funcs_lead : (set : Set) → Leads (record set { funcs = [] }, None) (flat_map func_lines set.funcs) (set, None)
funcs_lead set = each_leads func_lines (at_funcs set) (of_func set) [] set.funcs

-- the lines of a set lead to it from the one with its target and no lines
pub lines_lead : (set : Set) → Leads (empty_set set.target, None) (lines_of set) (set, None)
lines_lead set =
    let types = flat_map type_lines set.types in
    let statics = map (λ s. lines.Static s) set.statics in
    let funcs = flat_map func_lines set.funcs in
    subst (λ ls. Leads (empty_set set.target, None) ls (set, None)) (append_assoc types statics funcs)
    (leads_both (empty_set set.target, None) (record set { funcs = [] }, None) (set, None) (types ++ statics) funcs (types_lead set) (funcs_lead set))

-- and so do the lines of a set and of an entry that stands open behind it
pub lines_before_lead : (set : Set) (open_entry : Option OpenEntry) → IsReady (set, open_entry)
    → Leads (empty_set set.target, None) (lines_before set open_entry) (set, open_entry)
lines_before_lead set None r = leads_both (empty_set set.target, None) (set, None) (set, None) (lines_of set) [] (lines_lead set) refl
lines_before_lead set (Some o) r = leads_both (empty_set set.target, None) (set, None) (set, Some o) (lines_of set) (open_lines (Some o)) (lines_lead set)
    (open_leads set o r)
