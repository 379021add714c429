-- What functions with one scope, variable or entry more have: their lines and their counts.
use Rattle.std.proofs.Common.{◌≡◌, ◌∙◌, sym, ap, refl, ℕ, ◌+◌, true, false, List, [], ◌∷◌, ◌++◌, length, Option, Some, None, arith}
use Rattle.std.proofs.lemmas.Grind.{flat_map-append}
use Rattle.std.proofs.lemmas.List.{append-nil, length-append}
use Rattle.std.proofs.lemmas.List.Sums.{sum_by-append, sum_by-cons}
use Rattle.std.proofs.lemmas.Bool.{not-true}
use Rattle.std.specs.List.{flat_map, sum_by}
use Rattle.layout_set.specs.Counts.{entry_parts, var_parts, scope_parts, func_parts, scope_vars, func_vars}
use Rattle.layout_set.specs.declared.func.Entry.{Entry}
use Rattle.layout_set.specs.declared.func.Func.{Func}
use Rattle.layout_set.specs.declared.func.Scope.{Scope}
use Rattle.layout_set.specs.declared.func.Var.{Var}
use Rattle.layout_lines.specs.declared.line.Line.{Line}
use Rattle.layout_lines.specs.declared.line.Line.TheVariants as lines
use Rattle.layout_lines.specs.Sets.{entry_lines, var_lines, scope_lines, func_lines, last_of, is_empty, has_scopes, last_scope, has_vars}
use Rattle.layout_builder.specs.Additions.{with_last, with_entry, with_var, with_scope, with_entry_in_scope, with_entry_in_func, with_var_in_func}
use Rattle.layout_lines.proofs.LastItems.{last_is}
use Rattle.layout_builder.proofs.WithLast.{flat_map_last, sum_last, length_with_last}

-- the functions with these lines more, and with so many parts and variables more
pub record Longer (before after : List Func) (more : List Line) (n m : ℕ) : Type 0 where
  pub lines : flat_map func_lines after ≡ flat_map func_lines before ++ more
  pub parts : sum_by func_parts after ≡ sum_by func_parts before + n
  pub vars : sum_by func_vars after ≡ sum_by func_vars before + m

-- the last function, and its last scope
pub record HasScope (funcs : List Func) : Type 0 where
  pub func : Func
  pub scope : Scope
  pub func_is : last_of funcs ≡ Some func
  pub scope_is : last_of func.scopes ≡ Some scope

-- and the last variable of that
pub record HasVar (funcs : List Func) : Type 0 where
  pub last : HasScope funcs
  pub var : Var
  pub var_is : last_of last.scope.vars ≡ Some var

scope_of : (funcs : List Func) (o : Option Func) → last_of funcs ≡ o → has_scopes o ≡ true → HasScope funcs
scope_of funcs None e h = absurd (cc)
scope_of funcs (Some f) e h =
    let s = last_is f.scopes (not-true (is_empty f.scopes) h) in
    record { func = f; scope = s.0; func_is = e; scope_is = s.1 }

pub a_scope : (funcs : List Func) → has_scopes (last_of funcs) ≡ true → HasScope funcs
a_scope funcs h = scope_of funcs (last_of funcs) refl h

var_of : (funcs : List Func) (f : Func) (o : Option Scope) → last_of funcs ≡ Some f → last_of f.scopes ≡ o → has_vars o ≡ true → HasVar funcs
var_of funcs f None e d h = absurd (cc)
var_of funcs f (Some s) e d h =
    let v = last_is s.vars (not-true (is_empty s.vars) h) in
    record { last = record { func = f; scope = s; func_is = e; scope_is = d }; var = v.0; var_is = v.1 }

var_in : (funcs : List Func) (o : Option Func) → last_of funcs ≡ o → has_vars (last_scope o) ≡ true → HasVar funcs
var_in funcs None e h = absurd (cc)
var_in funcs (Some f) e h = var_of funcs f (last_of f.scopes) e refl h

pub a_var : (funcs : List Func) → has_vars (last_scope (last_of funcs)) ≡ true → HasVar funcs
a_var funcs h = var_in funcs (last_of funcs) refl h

-- one more function, without scopes
one_func : (f : Func) → f.scopes ≡ [] → func_lines f ++ [] ≡ lines.Func f ∷ []
one_func f e = ap (λ ss. lines.Func (record f { scopes = [] }) ∷ (flat_map scope_lines ss ++ [])) e
    ∙ ap (λ ss. lines.Func (record f { scopes = ss }) ∷ []) (sym e)

pub func_longer : (funcs : List Func) (f : Func) → f.scopes ≡ [] → Longer funcs (funcs ++ f ∷ []) (lines.Func f ∷ []) 0 0
func_longer funcs f e = record {
  lines = flat_map-append func_lines funcs (f ∷ []) ∙ ap (λ ls. flat_map func_lines funcs ++ ls) (one_func f e);
  parts = omega (arith, sum_by-append func_parts funcs (f ∷ []), sum_by-cons func_parts f [], ap (sum_by scope_parts) e);
  vars = omega (arith, sum_by-append func_vars funcs (f ∷ []), sum_by-cons func_vars f [], ap (sum_by scope_vars) e);
}

-- one more scope, without variables
one_scope : (s : Scope) → s.vars ≡ [] → scope_lines s ++ [] ≡ lines.Scope s ∷ []
one_scope s e = ap (λ vs. lines.Scope (record s { vars = [] }) ∷ (flat_map var_lines vs ++ [])) e ∙ ap (λ vs. lines.Scope (record s { vars = vs }) ∷ []) (sym e)

scope_in_func : (f : Func) (s : Scope) → s.vars ≡ [] → func_lines (with_scope s f) ≡ func_lines f ++ lines.Scope s ∷ []
scope_in_func f s e = ap (λ ls. lines.Func (record f { scopes = [] }) ∷ ls) (flat_map-append scope_lines f.scopes (s ∷ [])
    ∙ ap (λ ls. flat_map scope_lines f.scopes ++ ls) (one_scope s e))

pub scope_longer : (funcs : List Func) (s : Scope) → is_empty funcs ≡ false → s.vars ≡ []
    → Longer funcs (with_last (with_scope s) funcs) (lines.Scope s ∷ []) (1 + length s.zones) 0
scope_longer funcs s h e =
    let f = last_is funcs h in
    record {
      lines = flat_map_last func_lines (with_scope s) (lines.Scope s ∷ []) funcs f.0 f.1 (scope_in_func f.0 s e);
      parts = sum_last func_parts (with_scope s) (1 + length s.zones) funcs f.0 f.1
          (omega (arith, sum_by-append scope_parts f.0.scopes (s ∷ []), sum_by-cons scope_parts s [], ap (sum_by var_parts) e));
      vars = sum_last func_vars (with_scope s) 0 funcs f.0 f.1
          (omega (arith, sum_by-append scope_vars f.0.scopes (s ∷ []), sum_by-cons scope_vars s [], ap length e));
    }

-- one more variable, without entries
one_var : (v : Var) → v.entries ≡ [] → var_lines v ++ [] ≡ lines.Var v ∷ []
one_var v e = ap (λ es. lines.Var (record v { entries = [] }) ∷ (flat_map entry_lines es ++ [])) e
    ∙ ap (λ es. lines.Var (record v { entries = es }) ∷ []) (sym e)

var_in_scope : (s : Scope) (v : Var) → v.entries ≡ [] → scope_lines (with_var v s) ≡ scope_lines s ++ lines.Var v ∷ []
var_in_scope s v e = ap (λ ls. lines.Scope (record s { vars = [] }) ∷ ls) (flat_map-append var_lines s.vars (v ∷ [])
    ∙ ap (λ ls. flat_map var_lines s.vars ++ ls) (one_var v e))

var_parts_in : (s : Scope) (v : Var) → v.entries ≡ [] → scope_parts (with_var v s) ≡ scope_parts s + 0
var_parts_in s v e = omega (arith, sum_by-append var_parts s.vars (v ∷ []), sum_by-cons var_parts v [], ap (sum_by entry_parts) e)

pub var_longer : (funcs : List Func) (v : Var) → HasScope funcs → v.entries ≡ [] → Longer funcs (with_last (with_var_in_func v) funcs) (lines.Var v ∷ []) 0 1
var_longer funcs v h e =
    let f = h.func in
    let s = h.scope in
    record {
      lines = flat_map_last func_lines (with_var_in_func v) (lines.Var v ∷ []) funcs f h.func_is
          (ap (λ ls. lines.Func (record f { scopes = [] }) ∷ ls)
          (flat_map_last scope_lines (with_var v) (lines.Var v ∷ []) f.scopes s h.scope_is (var_in_scope s v e)));
      parts = sum_last func_parts (with_var_in_func v) 0 funcs f h.func_is (sum_last scope_parts (with_var v) 0 f.scopes s h.scope_is (var_parts_in s v e));
      vars = sum_last func_vars (with_var_in_func v) 1 funcs f h.func_is
          (sum_last scope_vars (with_var v) 1 f.scopes s h.scope_is (length-append s.vars (v ∷ [])));
    }

-- one more entry, with its pieces
entry_in_var : (v : Var) (e : Entry) → var_lines (with_entry e v) ≡ var_lines v ++ entry_lines e
entry_in_var v e = ap (λ ls. lines.Var (record v { entries = [] }) ∷ ls) (flat_map-append entry_lines v.entries (e ∷ [])
    ∙ ap (λ ls. flat_map entry_lines v.entries ++ ls) (append-nil (entry_lines e)))

entry_parts_in : (v : Var) (e : Entry) → var_parts (with_entry e v) ≡ var_parts v + entry_parts e
entry_parts_in v e = omega (arith, sum_by-append entry_parts v.entries (e ∷ []), sum_by-cons entry_parts e [])

scope_parts_more : (s : Scope) (vars : List Var) (n : ℕ) → sum_by var_parts vars ≡ sum_by var_parts s.vars + n → scope_parts (record s { vars = vars })
    ≡ scope_parts s + n
scope_parts_more s vars n h = omega (arith, h)

pub entry_longer : (funcs : List Func) (e : Entry) → HasVar funcs → Longer funcs (with_last (with_entry_in_func e) funcs) (entry_lines e) (entry_parts e) 0
entry_longer funcs e h =
    let f = h.last.func in
    let s = h.last.scope in
    let v = h.var in
    let same = length_with_last (with_entry e) s.vars in
    record {
      lines = flat_map_last func_lines (with_entry_in_func e) (entry_lines e) funcs f h.last.func_is
          (ap (λ ls. lines.Func (record f { scopes = [] }) ∷ ls) (flat_map_last scope_lines (with_entry_in_scope e) (entry_lines e) f.scopes s h.last.scope_is
          (ap (λ ls. lines.Scope (record s { vars = [] }) ∷ ls)
          (flat_map_last var_lines (with_entry e) (entry_lines e) s.vars v h.var_is (entry_in_var v e)))));
      parts = sum_last func_parts (with_entry_in_func e) (entry_parts e) funcs f h.last.func_is
          (sum_last scope_parts (with_entry_in_scope e) (entry_parts e) f.scopes s h.last.scope_is
          (scope_parts_more s (with_last (with_entry e) s.vars) (entry_parts e)
          (sum_last var_parts (with_entry e) (entry_parts e) s.vars v h.var_is (entry_parts_in v e))));
      vars = sum_last func_vars (with_entry_in_func e) 0 funcs f h.last.func_is
          (sum_last scope_vars (with_entry_in_scope e) 0 f.scopes s h.last.scope_is (omega (arith, same)));
    }
