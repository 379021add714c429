-- The part of a set that CodeView carries shows what the set shows, wherever it carries where a variable is.
use Rattle.std.specs.Prelude.{◌≡◌, ◌↔◌, ℕ, Bool, true, false, List, Option, Some, None}
use Rattle.std.specs.List.{Contains}
use Rattle.snapshot_file.specs.Memory.{Run}
use Rattle.snapshot_file.specs.declared.snapshot.Snapshot.{Snapshot}
use Rattle.layout_set.specs.declared.func.Entry.{Entry}
use Rattle.layout_set.specs.declared.func.Func.{Func}
use Rattle.layout_set.specs.declared.func.Scope.{Scope}
use Rattle.layout_set.specs.declared.func.Var.{Var}
use Rattle.layout_set.specs.declared.set.Set.{Set}
use Rattle.layout_set.specs.declared.set.Static.{Static}
use Rattle.layout_set.specs.declared.set.TypeRef.{TypeRef}
use Rattle.layout_values.specs.declared.outcome.Outcome.{Outcome}
use Rattle.layout_values.specs.declared.outcome.Outcome.TheVariants.{Unavailable}
use Rattle.layout_values.specs.Contexts.{Items, context_of}
use Rattle.layout_values.specs.Outcomes.{IsOutcome}
use Rattle.layout_values.specs.Places.{entry_at}
use Rattle.layout_values.specs.Shown.{IsStaticShown, IsVarShown}
use Rattle.layout_carried.specs.Carried.{entry_carries, carried_ref, carried_static, carried_var}

abbrev pub carries_if : Option Entry → Bool
carries_if None = true
carries_if (Some e) = entry_carries e

-- no entry contains the program counter, or the first that does is carried
abbrev pub is_covered : ℕ → List Entry → Bool
is_covered pc entries = carries_if (entry_at pc entries)

-- a variable of a scope of a function of the set
pub record IsVarOf (set : Set) (v : Var) : Type 0 where
  pub func : Func
  pub scope : Scope
  pub func_in : Contains set.funcs func
  pub scope_in : Contains func.scopes scope
  pub var_in : Contains scope.vars v

-- in every memory and snapshot, at every depth and width
pub record ShowsSame (set part : Set) : Type 0 where
  -- the same outcome for each image, as a type of either
  pub outcomes : (memory : List Run) (width depth : ℕ) (ty : TypeRef) (p : Items) (o : Outcome)
      → (IsOutcome (context_of set memory width) depth ty p o ↔ IsOutcome (context_of part memory width) depth (carried_ref set.target.ptr ty) p o)
  -- the same is shown of each static
  pub statics : (snap : Snapshot) (width depth : ℕ) (s : Static) (o : Outcome)
      → (IsStaticShown (context_of set snap.mem width) depth s o ↔ IsStaticShown (context_of part snap.mem width) depth (carried_static set.target.ptr s) o)
  -- the same is shown of a variable that is covered
  pub covered : (snap : Snapshot) (width depth : ℕ) (v : Var) (o : Outcome) → is_covered snap.pc v.entries ≡ true
      → (IsVarShown (context_of set snap.mem width) snap depth v o ↔ IsVarShown (context_of part snap.mem width) snap depth (carried_var set.target.ptr v) o)
  -- any other is unavailable
  pub others : (snap : Snapshot) (width depth : ℕ) (v : Var) (o : Outcome) → IsVarOf set v → is_covered snap.pc v.entries ≡ false
      → (IsVarShown (context_of part snap.mem width) snap depth (carried_var set.target.ptr v) o ↔ (o ≡ Unavailable))
