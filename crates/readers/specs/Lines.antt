-- Lines and words of a text.
use Rattle.std.specs.Prelude.{◌≡◌, ◌≢◌, ℕ, List, [], ◌∷◌, ◌++◌, ◌==◌, Option, Some, None}
use Rattle.std.specs.List.{slice_split, All}

-- no byte is this one
abbrev pub Lacks : ℕ → List ℕ → Type 0
Lacks c bytes = All (λ b. b ≢ c) bytes

-- the bytes are `front`, then the first byte `c`, then `back`
pub record CutAt (c : ℕ) (bytes front back : List ℕ) : Type 0 where
  pub text : bytes ≡ front ++ c ∷ back
  pub first : Lacks c front

-- a line with the LF that ends it
abbrev pub with_end : List ℕ → List ℕ
with_end line = line ++ 10 ∷ []

-- a text is cut at each LF; the last item is what follows the last LF
abbrev pub lines : List ℕ → List (List ℕ)
lines bytes = slice_split (λ b. b == 10) bytes

-- a line is cut at each space
abbrev pub words : List ℕ → List (List ℕ)
words line = slice_split (λ b. b == 32) line

-- the item of a list that has one
abbrev pub only : List (List ℕ) → Option (List ℕ)
only (a ∷ []) = Some a
only _ = None

-- the items of a list that has two
abbrev pub two : List (List ℕ) → Option (List ℕ × List ℕ)
two (a ∷ b ∷ []) = Some (a, b)
two _ = None

-- the items of a list that has three
abbrev pub three : List (List ℕ) → Option (List ℕ × List ℕ × List ℕ)
three (a ∷ b ∷ c ∷ []) = Some (a, b, c)
three _ = None
