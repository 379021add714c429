-- Where a word at the front of a text ends.
use Rattle.std.specs.Prelude.{◌≡◌, ℕ, ◌≤◌, ◌||◌, nat_lt, if◌then◌else◌, List, [], ◌∷◌, length, take, drop, Option, Some, None, Result, Ok, Err}
use Rattle.names.specs.declared.word.Scan.{Scan}
use Rattle.names.specs.Reading.{Res, got, bad, cons, chars, word}

-- the characters of a word from here on
abbrev pub scanned : Scan → List ℕ → Res (List ℕ)
scanned s text = chars s.first s.room s.count s.low s.high text

-- what stands where the word can't go on
abbrev pub ended : Scan → List ℕ → Res (List ℕ)
ended s text = if s.first || nat_lt 0 s.count then bad text else got [] text

-- the word goes on with this byte, or ends before it
abbrev pub StepsOver : Scan → ℕ → Option Scan → Type 0
StepsOver s c (Some next) = (text : List ℕ) → scanned s (c ∷ text) ≡ cons c (scanned next text)
StepsOver s c None = (text : List ℕ) → scanned s (c ∷ text) ≡ ended s (c ∷ text)

-- the length of the word at the front, or where the text stops being one
abbrev pub WordEnd : List ℕ → Result ℕ ℕ → Type 0
WordEnd text (Ok n) = (n ≤ length text) × (word.read text ≡ got (take n text) (drop n text))
WordEnd text (Err n) = (n ≤ length text) × (word.read text ≡ bad (drop n text))
