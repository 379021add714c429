-- Theorems on the forms.
use Rattle.std.specs.Prelude.{◌≡◌, ◌<◌, ℕ, List}
use Rattle.std.specs.List.{All}
use Rattle.rv_bytes.specs.Forms.{Form, IsDefinite}
use Rattle.rv_bytes.specs.Numbers.{bytes, number, uleb, sleb, zero_text, text}
use Rattle.rv_bytes.specs.Leaves.{numeric}
use Rattle.rv_bytes.specs.Writers.{IsShortest}

-- bytes have at most one reading by each of these forms
pub record AreDefinite : Type 0 where
  pub bytes : (n : ℕ) → IsDefinite (bytes n)
  pub number : (width : ℕ) → IsDefinite (number width)
  pub uleb : IsDefinite uleb
  pub sleb : IsDefinite sleb
  pub zero_text : IsDefinite zero_text
  pub text : IsDefinite text
  pub numeric : IsDefinite numeric

-- two shortest spellings of one value, both of bytes, are the same
abbrev pub IsOneShortest : {A : Type 0} → Form ℕ A → Type 0
IsOneShortest {A = A} F = (v : A) (t u : List ℕ) → All (λ b. b < 256) t → All (λ b. b < 256) u → IsShortest F v t → IsShortest F v u → t ≡ u

-- the shortest LEB128 spelling of a number is one
abbrev pub HaveOneShortest : Type 0
HaveOneShortest = IsOneShortest uleb × IsOneShortest sleb
