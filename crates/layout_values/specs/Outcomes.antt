-- What is told of a part, and that no two values share an image.
use Rattle.std.specs.Prelude.{◌≡◌, ◌<◌, ◌≤◌, ℕ, IsTrue}
use Rattle.rust_value.specs.Utf8.{has_texts}
use Rattle.rust_value.specs.declared.value.Val.{Val}
use Rattle.layout_set.specs.declared.set.TypeRef.{TypeRef}
use Rattle.layout_values.specs.declared.outcome.Outcome.{Outcome}
use Rattle.layout_values.specs.declared.outcome.Outcome.TheVariants.{Value, Unavailable, Invalid, TooLarge}
use Rattle.layout_values.specs.Contexts.{Items, Context}
use Rattle.layout_values.specs.Images.{IsImage}
use Rattle.layout_values.specs.Reached.{Nodes, Lacks}

-- there are few enough nodes, and nothing that is needed is missing
abbrev pub IsWhole : Context → ℕ → TypeRef → Items → Type 0
IsWhole c depth ty p = (Nodes c depth ty p ≤ 65536) × (Lacks c depth ty p → ⊥)

-- The first that holds: more than 65,536 nodes; a needed item is missing; there is a value with this image; none.
abbrev pub IsOutcome : Context → ℕ → TypeRef → Items → Outcome → Type 0
IsOutcome c depth ty p TooLarge = 65536 < Nodes c depth ty p
IsOutcome c depth ty p Unavailable = (Nodes c depth ty p ≤ 65536) × Lacks c depth ty p
IsOutcome c depth ty p (Value x) = IsWhole c depth ty p × IsImage c depth ty p x
IsOutcome c depth ty p Invalid = IsWhole c depth ty p × ((x : Val) → IsImage c depth ty p x → ⊥)

-- no two values share an image
abbrev pub OneValue : Type 0
OneValue = (c : Context) (depth : ℕ) (ty : TypeRef) (p : Items) (x y : Val) → IsImage c depth ty p x → IsImage c depth ty p y → x ≡ y

-- a value is the only one with this image
abbrev pub IsOnlyValue : Context → ℕ → TypeRef → Items → Outcome → Type 0
IsOnlyValue c depth ty p (Value x) = (y : Val) → IsImage c depth ty p y → y ≡ x
IsOnlyValue c depth ty p Unavailable = Unit {0}
IsOnlyValue c depth ty p Invalid = Unit {0}
IsOnlyValue c depth ty p TooLarge = Unit {0}

-- each text of a value is UTF-8
abbrev pub HasTexts : Outcome → Type 0
HasTexts (Value x) = IsTrue (has_texts x)
HasTexts Unavailable = Unit {0}
HasTexts Invalid = Unit {0}
HasTexts TooLarge = Unit {0}
