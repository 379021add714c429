-- How the closing `>` of CodeView's spelling is read. Only the steps of reading and their proofs cite it.
use Rattle.std.specs.Prelude.{◌≡◌, ℕ, ◌-◌, List, length, take, codes}
use Rattle.cv_names.specs.CvText.{ends_closed}
use Rattle.names.specs.Reading.{Reader, got, and_then, give, bind, either, literal}

-- what was read, where s was left before it and k is left after it
abbrev pub read_of : List ℕ → List ℕ → List ℕ
read_of s k = take (length s - length k) s

-- a value and its text
abbrev pub with_text : {A : Type 0} → Reader A → Reader (A × List ℕ)
with_text R = record {
  read = λ s. and_then (R.read s) (λ v k. got (v, read_of s k) k);
  Spells = λ x t. R.Spells x.0 t × (x.1 ≡ t);
}

-- the closing after a text: a space stands in it where the text ends with `>`
abbrev pub close : List ℕ → Reader (Unit {0})
close text = either (ends_closed text) (literal (codes " >")) (literal (codes ">"))

-- a value, and the closing after its text
abbrev pub closed_by : {A : Type 0} → Reader A → Reader A
closed_by R = bind (with_text R) (λ x. bind (close x.1) (λ _. give x.0))
