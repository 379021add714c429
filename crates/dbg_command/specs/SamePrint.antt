-- What is printed of the part of a set that CodeView carries.
use Rattle.std.specs.Prelude.{◌≡◌, ◌↔◌, ℕ, true, List}
use Rattle.std.specs.List.{All, filter}
use Rattle.snapshot_file.specs.declared.snapshot.Snapshot.{Snapshot}
use Rattle.layout_set.specs.declared.func.Func.{Func}
use Rattle.layout_set.specs.declared.func.Scope.{Scope}
use Rattle.layout_set.specs.declared.func.Var.{Var}
use Rattle.layout_set.specs.declared.set.Set.{Set}
use Rattle.layout_carried.specs.Carried.{carried}
use Rattle.layout_set.specs.Laws.{IsLawful}
use Rattle.layout_carried.specs.ShowsSame.{is_covered}
use Rattle.dbg_command.specs.Lines.{is_entered, is_called, Prints}

abbrev pub IsCoveredVar : ℕ → Var → Type 0
IsCoveredVar pc v = is_covered pc v.entries ≡ true

abbrev pub HasCoveredVars : ℕ → Scope → Type 0
HasCoveredVars pc s = All (IsCoveredVar pc) s.vars

abbrev pub HasCoveredScopes : ℕ → Func → Type 0
HasCoveredScopes pc f = All (HasCoveredVars pc) (filter (is_entered pc) f.scopes)

-- CodeView carries where each variable is that is printed
abbrev pub IsCovered : ℕ → Set → Type 0
IsCovered pc set = All (HasCoveredScopes pc) (filter (is_called pc) set.funcs)

-- Then the same is printed of the set and of the part that CodeView carries.
abbrev pub PrintsSame : Type 0
PrintsSame = (set : Set) (depth width : ℕ) (snap : Snapshot) (text : List ℕ) → IsLawful set → IsCovered snap.pc set
    → (Prints set depth width snap text ↔ Prints (carried set) depth width snap text)
