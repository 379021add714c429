-- How many types a chain has, by rounds. Private: law 2 says what it means.
use Rattle.std.specs.Prelude.{ℕ, zero, suc, ◌+◌, min, max, List, [], ◌∷◌, map, slice_index_or}
use Rattle.layout_set.specs.declared.set.TypeRef.{TypeRef}
use Rattle.layout_set.specs.declared.set.TypeRef.TheVariants.{Prim, User}
use Rattle.layout_set.specs.declared.set.TypeDef.{TypeDef}
use Rattle.layout_set.specs.References.{contents}

abbrev pub greatest : List ℕ → ℕ
greatest [] = 0
greatest (x ∷ xs) = max x (greatest xs)

abbrev pub height_at : List ℕ → TypeRef → ℕ
height_at heights (Prim prim) = 0
height_at heights (User i) = slice_index_or heights i 0

-- the height of a type over those of its contents, up to 257
abbrev pub step : List ℕ → TypeDef → ℕ
step heights t = min 257 (1 + greatest (map (height_at heights) (contents t)))

-- the heights of all types after so many rounds
unfoldable pub heights : List TypeDef → ℕ → List ℕ
heights types zero = map (λ _. 0) types
heights types (suc k) = map (step (heights types k)) types
