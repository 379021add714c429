-- The part that CodeView carries prints the same where it is covered.
use Rattle.std.proofs.Common.{◌≡◌, refl, sym, subst, ℕ, ◌↔◌, Bool, true, false, cond, List, [], ◌∷◌, map, All, filter}
use Rattle.std.proofs.lemmas.List.Elements.{All-head, All-tail}
use Rattle.snapshot_file.specs.declared.snapshot.Snapshot.{Snapshot}
use Rattle.layout_set.specs.declared.func.Func.{Func}
use Rattle.layout_set.specs.declared.func.Scope.{Scope}
use Rattle.layout_set.specs.declared.func.Var.{Var}
use Rattle.layout_set.specs.declared.set.Set.{Set}
use Rattle.layout_set.specs.declared.set.Static.{Static}
use Rattle.layout_carried.specs.Carried.{carried_static, carried_var, carried_scope, carried_func, carried}
use Rattle.layout_values.specs.Contexts.{Context, context_of}
use Rattle.layout_set.specs.Laws.{IsLawful}
use Rattle.layout_carried.specs.ShowsSame.{ShowsSame}
use Rattle.layout_carried.proofs.SameShown.{shows_same}
use Rattle.dbg_command.specs.Lines.{AreEach, IsStaticLine, IsVarLine, is_entered, first_is_entered, is_called, AreVarLines, IsFuncText, Prints}
use Rattle.dbg_command.specs.SamePrint.{IsCoveredVar, HasCoveredVars, HasCoveredScopes, IsCovered}

-- the same text for each and for what is made of it
each_same : {A B : Type 0} (g : A → B) (Is : A → List ℕ → Type 0) (Js : B → List ℕ → Type 0) (P : A → Type 0)
    → ((a : A) (t : List ℕ) → P a → (Is a t ↔ Js (g a) t)) → (xs : List A) (t : List ℕ) → All P xs → (AreEach Is xs t ↔ AreEach Js (map g xs) t)
each_same g Is Js P same [] t all = (λ h. h, λ h. h)
each_same g Is Js P same (x ∷ xs) t all =
    let head : P x = All-head P x xs all in
    let tail : All P xs = All-tail P x xs all in (
      λ h. (h.0, h.1, (same x h.0 head).0 h.2, h.3, (each_same g Is Js P same xs h.1 tail).0 h.4),
      λ h. (h.0, h.1, (same x h.0 head).1 h.2, h.3, (each_same g Is Js P same xs h.1 tail).1 h.4),
    )

pass_on : {A B : Type 0} (g : A → B) (b : Bool) (x : A) (xs : List A) → cond b (g x ∷ map g xs) (map g xs) ≡ map g (cond b (x ∷ xs) xs)
pass_on g true x xs = refl
pass_on g false x xs = refl

filter_map_same : {A B : Type 0} (g : A → B) (p : B → Bool) (q : A → Bool) → ((a : A) → p (g a) ≡ q a) → (xs : List A)
    → filter p (map g xs) ≡ map g (filter q xs)
filter_map_same g p q e [] = refl
filter_map_same g p q e (x ∷ xs) = rw (e x, filter_map_same g p q e xs) (pass_on g (q x) x (filter q xs))

first_same : (ptr pc : ℕ) (scopes : List Scope) → first_is_entered pc (map (carried_scope ptr) scopes) ≡ first_is_entered pc scopes
first_same ptr pc [] = refl
first_same ptr pc (s ∷ scopes) = refl

all_true : {A : Type 0} (xs : List A) → All (λ x. Unit {0}) xs
all_true xs k d h = tt

module _ (set : Set) (same : ShowsSame set (carried set)) (depth width : ℕ) (snap : Snapshot) where
  abbrev c : Context
  c = context_of set snap.mem width

  abbrev n : Context
  n = context_of (carried set) snap.mem width

  of_static : (s : Static) (t : List ℕ) → Unit {0} → (IsStaticLine c depth s t ↔ IsStaticLine n depth (carried_static c.ptr s) t)
  of_static s t u = (
    λ h. (h.0, (same.statics snap width depth s h.0).0 h.1, h.2),
    λ h. (h.0, (same.statics snap width depth s h.0).1 h.1, h.2),
  )

  of_var : (v : Var) (t : List ℕ) → IsCoveredVar snap.pc v → (IsVarLine c snap depth v t ↔ IsVarLine n snap depth (carried_var c.ptr v) t)
  of_var v t u = (
    λ h. (h.0, (same.covered snap width depth v h.0 u).0 h.1, h.2),
    λ h. (h.0, (same.covered snap width depth v h.0 u).1 h.1, h.2),
  )

  of_scope : (s : Scope) (t : List ℕ) → HasCoveredVars snap.pc s → (AreVarLines c snap depth s t ↔ AreVarLines n snap depth (carried_scope c.ptr s) t)
  of_scope s t u = each_same (carried_var c.ptr) (IsVarLine c snap depth) (IsVarLine n snap depth) (IsCoveredVar snap.pc) of_var s.vars t u

  entered : (f : Func) → filter (is_entered snap.pc) (map (carried_scope c.ptr) f.scopes) ≡ map (carried_scope c.ptr) (filter (is_entered snap.pc) f.scopes)
  entered f = filter_map_same (carried_scope c.ptr) (is_entered snap.pc) (is_entered snap.pc) (λ s. refl) f.scopes

  of_func : (f : Func) (t : List ℕ) → HasCoveredScopes snap.pc f → (IsFuncText c snap depth f t ↔ IsFuncText n snap depth (carried_func c.ptr f) t)
  of_func f t u =
      let scopes = λ (rest : List ℕ).
      each_same (carried_scope c.ptr) (AreVarLines c snap depth) (AreVarLines n snap depth) (HasCoveredVars snap.pc) of_scope
      (filter (is_entered snap.pc) f.scopes) rest u in
      rw (entered f) (λ h. (h.0, h.1, (scopes h.0).0 h.2), λ h. (h.0, h.1, (scopes h.0).1 h.2))

  called : filter (is_called snap.pc) (map (carried_func c.ptr) set.funcs) ≡ map (carried_func c.ptr) (filter (is_called snap.pc) set.funcs)
  called = filter_map_same (carried_func c.ptr) (is_called snap.pc) (is_called snap.pc) (λ f. first_same c.ptr snap.pc f.scopes) set.funcs

  pub prints : (t : List ℕ) → IsCovered snap.pc set → (Prints set depth width snap t ↔ Prints (carried set) depth width snap t)
  prints t u =
      let statics = λ (t : List ℕ).
      each_same (carried_static c.ptr) (IsStaticLine c depth) (IsStaticLine n depth) (λ s. Unit {0}) of_static set.statics t (all_true set.statics) in
      let funcs = λ (t : List ℕ).
      each_same (carried_func c.ptr) (IsFuncText c snap depth) (IsFuncText n snap depth) (HasCoveredScopes snap.pc) of_func
      (filter (is_called snap.pc) set.funcs) t u in (
        λ h. record {
          statics = h.statics;
          funcs = h.funcs;
          text_is = h.text_is;
          of_statics = (statics h.statics).0 h.of_statics;
          of_funcs = subst (λ fs. AreEach (IsFuncText n snap depth) fs h.funcs) (sym called) ((funcs h.funcs).0 h.of_funcs);
        },
        λ h. record {
          statics = h.statics;
          funcs = h.funcs;
          text_is = h.text_is;
          of_statics = (statics h.statics).1 h.of_statics;
          of_funcs = (funcs h.funcs).1 (subst (λ fs. AreEach (IsFuncText n snap depth) fs h.funcs) called h.of_funcs);
        },
      )

pub prints_same : (set : Set) (depth width : ℕ) (snap : Snapshot) (text : List ℕ) → IsLawful set → IsCovered snap.pc set
    → (Prints set depth width snap text ↔ Prints (carried set) depth width snap text)
prints_same set depth width snap text lawful u = prints set (shows_same set (carried set) lawful refl) depth width snap text u
