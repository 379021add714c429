-- Texts with a separator between each two.
use Rattle.std.specs.Prelude.{◌≡◌, ℕ, List, [], ◌∷◌, ◌++◌}
use Rattle.std.specs.List.{join_by}

-- texts of the items, with a separator between each two
abbrev pub IsJoined : {A : Type 0} → (A → List ℕ → Type 0) → List ℕ → List A → List ℕ → Type 0
IsJoined Spells separator [] t = t ≡ []
IsJoined Spells separator (x ∷ []) t = Spells x t
IsJoined Spells separator (x ∷ y ∷ rest) t =
    (a : List ℕ) × ((b : List ℕ) ×
    (Spells x a × (IsJoined Spells separator (y ∷ rest) b × (t ≡ a ++ (separator ++ b)))))

-- texts with a separator between each two
abbrev pub joined : List ℕ → List (List ℕ) → List ℕ
joined separator texts = join_by (λ t. t) separator texts
