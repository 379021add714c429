-- Of a set in a snapshot one text is printed.
use Rattle.std.proofs.Common.{◌≡◌, ℕ, List, [], ◌∷◌, ◌++◌, Option, Some, None, refl, sym, ap, ap₂, ◌∙◌, arith, filter}
use Rattle.snapshot_file.specs.Memory.{items_at}
use Rattle.snapshot_file.specs.declared.snapshot.Snapshot.{Snapshot}
use Rattle.layout_set.specs.declared.func.Func.{Func}
use Rattle.layout_set.specs.declared.func.Scope.{Scope}
use Rattle.layout_set.specs.declared.func.Var.{Var}
use Rattle.layout_set.specs.declared.set.Set.{Set}
use Rattle.layout_set.specs.declared.set.Static.{Static}
use Rattle.layout_set.specs.declared.set.TypeRef.{TypeRef}
use Rattle.layout_values.specs.declared.outcome.Outcome.{Outcome}
use Rattle.layout_values.specs.declared.outcome.Outcome.TheVariants.{Value, Unavailable, Invalid, TooLarge}
use Rattle.layout_values.specs.Contexts.{Items, Context, context_of}
use Rattle.layout_values.specs.Outcomes.{OneValue, IsOutcome}
use Rattle.layout_values.specs.Places.{place_of}
use Rattle.layout_set.specs.Sizes.{size}
use Rattle.layout_values.specs.Shown.{IsShownAt, IsShownIn}
use Rattle.dbg_command.specs.Lines.{IsStaticLine, IsVarLine, AreVarLines, IsFuncText, AreEach, Prints, static_line, var_line, func_line, pc_line, is_entered, is_called}

-- a part has one outcome
one_outcome : OneValue → (c : Context) (depth : ℕ) (ty : TypeRef) (p : Items) (a b : Outcome) → IsOutcome c depth ty p a → IsOutcome c depth ty p b → a ≡ b
one_outcome V c depth ty p TooLarge TooLarge h g = refl
one_outcome V c depth ty p TooLarge Unavailable h g = absurd (omega (arith, h, g.0))
one_outcome V c depth ty p TooLarge (Value y) h g = absurd (omega (arith, h, g.0.0))
one_outcome V c depth ty p TooLarge Invalid h g = absurd (omega (arith, h, g.0.0))
one_outcome V c depth ty p Unavailable TooLarge h g = absurd (omega (arith, g, h.0))
one_outcome V c depth ty p Unavailable Unavailable h g = refl
one_outcome V c depth ty p Unavailable (Value y) h g = absurd (g.0.1 h.1)
one_outcome V c depth ty p Unavailable Invalid h g = absurd (g.0.1 h.1)
one_outcome V c depth ty p (Value x) TooLarge h g = absurd (omega (arith, g, h.0.0))
one_outcome V c depth ty p (Value x) Unavailable h g = absurd (h.0.1 g.1)
one_outcome V c depth ty p (Value x) (Value y) h g = ap Value (V c depth ty p x y h.1 g.1)
one_outcome V c depth ty p (Value x) Invalid h g = absurd (g.1 x h.1)
one_outcome V c depth ty p Invalid TooLarge h g = absurd (omega (arith, g, h.0.0))
one_outcome V c depth ty p Invalid Unavailable h g = absurd (h.0.1 g.1)
one_outcome V c depth ty p Invalid (Value y) h g = absurd (h.1 y g.1)
one_outcome V c depth ty p Invalid Invalid h g = refl

-- items of which each has one text have one text
one_each : {A : Type 0} (Is : A → List ℕ → Type 0) → ((a : A) (t u : List ℕ) → Is a t → Is a u → t ≡ u) → (items : List A) (t u : List ℕ) → AreEach Is items t → AreEach Is items u → t ≡ u
one_each Is one [] t u h g = h ∙ sym g
one_each Is one (a ∷ items) t u h g =
    h.3 ∙ ap₂ (λ x y. x ++ y) (one a h.0 g.0 h.2 g.2) (one_each Is one items h.1 g.1 h.4 g.4) ∙ sym g.3

-- a static has one outcome
one_static : OneValue → (c : Context) (depth : ℕ) (ty : TypeRef) (addr : Option ℕ) (a b : Outcome) → IsShownAt c depth ty addr a → IsShownAt c depth ty addr b → a ≡ b
one_static V c depth ty None a b h g = h ∙ sym g
one_static V c depth ty (Some at) a b h g = one_outcome V c depth ty (items_at c.memory at (size c.ptr c.types ty)) a b h g

-- a variable has one outcome
one_var : OneValue → (c : Context) (depth : ℕ) (ty : TypeRef) (part : Option Items) (a b : Outcome) → IsShownIn c depth ty part a → IsShownIn c depth ty part b → a ≡ b
one_var V c depth ty None a b h g = h ∙ sym g
one_var V c depth ty (Some part) a b h g = one_outcome V c depth ty part a b h g

one_static_line : OneValue → (c : Context) (depth : ℕ) (s : Static) (t u : List ℕ) → IsStaticLine c depth s t → IsStaticLine c depth s u → t ≡ u
one_static_line V c depth s t u h g = h.2 ∙ ap (static_line s) (one_static V c depth s.ty s.addr h.0 g.0 h.1 g.1) ∙ sym g.2

one_var_line : OneValue → (c : Context) (snap : Snapshot) (depth : ℕ) (v : Var) (t u : List ℕ) → IsVarLine c snap depth v t → IsVarLine c snap depth v u → t ≡ u
one_var_line V c snap depth v t u h g = h.2 ∙ ap (var_line v) (one_var V c depth v.ty (place_of c.ptr snap v.entries (size c.ptr c.types v.ty)) h.0 g.0 h.1 g.1) ∙ sym g.2

one_scope : OneValue → (c : Context) (snap : Snapshot) (depth : ℕ) (s : Scope) (t u : List ℕ) → AreVarLines c snap depth s t → AreVarLines c snap depth s u → t ≡ u
one_scope V c snap depth s t u h g = one_each (IsVarLine c snap depth) (one_var_line V c snap depth) s.vars t u h g

one_func : OneValue → (c : Context) (snap : Snapshot) (depth : ℕ) (f : Func) (t u : List ℕ) → IsFuncText c snap depth f t → IsFuncText c snap depth f u → t ≡ u
one_func V c snap depth f t u h g =
    h.1 ∙ ap (λ rest. func_line f ++ rest) (one_each (AreVarLines c snap depth) (one_scope V c snap depth) (filter (is_entered snap.pc) f.scopes) h.0 g.0 h.2 g.2) ∙ sym g.1

pub one_print : OneValue → (set : Set) (depth width : ℕ) (snap : Snapshot) (t u : List ℕ) → Prints set depth width snap t → Prints set depth width snap u → t ≡ u
one_print V set depth width snap t u h g =
    let c = context_of set snap.mem width in
    let statics : h.statics ≡ g.statics = one_each (IsStaticLine c depth) (one_static_line V c depth) set.statics h.statics g.statics h.of_statics g.of_statics in
    let funcs : h.funcs ≡ g.funcs = one_each (IsFuncText c snap depth) (one_func V c snap depth) (filter (is_called snap.pc) set.funcs) h.funcs g.funcs h.of_funcs g.of_funcs in
    h.text_is ∙ ap₂ (λ a b. pc_line snap.pc ++ a ++ b) statics funcs ∙ sym g.text_is
