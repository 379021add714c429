-- What is shown of a static, and of a variable at a program counter.
use Rattle.std.specs.Prelude.{◌≡◌, ℕ, Option, Some, None}
use Rattle.snapshot_file.specs.Memory.{items_at}
use Rattle.snapshot_file.specs.declared.snapshot.Snapshot.{Snapshot}
use Rattle.layout_set.specs.declared.func.Var.{Var}
use Rattle.layout_set.specs.declared.set.Static.{Static}
use Rattle.layout_set.specs.declared.set.TypeRef.{TypeRef}
use Rattle.layout_set.specs.Sizes.{size}
use Rattle.layout_values.specs.declared.outcome.Outcome.{Outcome}
use Rattle.layout_values.specs.declared.outcome.Outcome.TheVariants.{Unavailable}
use Rattle.layout_values.specs.Contexts.{Items, Context}
use Rattle.layout_values.specs.Outcomes.{IsOutcome}
use Rattle.layout_values.specs.Places.{place_of}

-- what is shown of this type at this address: that of the bytes there; without an address it is unavailable
abbrev pub IsShownAt : Context → ℕ → TypeRef → Option ℕ → Outcome → Type 0
IsShownAt c depth ty (Some at) o = IsOutcome c depth ty (items_at c.memory at (size c.ptr c.types ty)) o
IsShownAt c depth ty None o = o ≡ Unavailable

-- what is shown of this type in this part, if there is one
abbrev pub IsShownIn : Context → ℕ → TypeRef → Option Items → Outcome → Type 0
IsShownIn c depth ty (Some part) o = IsOutcome c depth ty part o
IsShownIn c depth ty None o = o ≡ Unavailable

-- a static is shown at its address
abbrev pub IsStaticShown : Context → ℕ → Static → Outcome → Type 0
IsStaticShown c depth s o = IsShownAt c depth s.ty s.addr o

-- a variable is shown in the part that its first entry for the program counter gives
abbrev pub IsVarShown : Context → Snapshot → ℕ → Var → Outcome → Type 0
IsVarShown c snap depth v o = IsShownIn c depth v.ty (place_of c.ptr snap v.entries (size c.ptr c.types v.ty)) o
