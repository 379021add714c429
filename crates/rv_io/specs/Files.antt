-- Files by their names, and what a fetch gives of them.
use Rattle.std.specs.Prelude.{◌≡◌, ℕ, List, ◌++◌, take, ⊤, Option, Some, None}
use Rattle.std.specs.Ordering.{nat_cmp}
use Rattle.std.specs.Cmp.Lexicographic.{slice_cmp}
use Rattle.std.specs.FinMap.{FinMap, get}
use Rattle.rv_io.specs.Faults.{Rose}
use Rattle.rv_io.specs.declared.inputs.FetchErr.{FetchErr}
use Rattle.rv_io.specs.declared.inputs.FetchErr.TheVariants.{NoFile, Failed, Memory}

-- a finite map from names to bytes
abbrev pub Files : Type 0
Files = FinMap (slice_cmp nat_cmp) (List ℕ)

-- the bytes of the file of this name, if there is one
abbrev pub file : Files → List ℕ → Option (List ℕ)
file files name = get files name

-- the front of what the file holds was appended; never where there is no file
abbrev pub AppendsFront : Option (List ℕ) → ℕ → List ℕ → List ℕ → Type 0
AppendsFront None most old new = ⊥
AppendsFront (Some bytes) most old new = new ≡ old ++ take most bytes

-- what a fetch that succeeds appends, where files are told
abbrev pub Fetches : Option Files → List ℕ → ℕ → List ℕ → List ℕ → Type 0
Fetches None name most old new = ⊤
Fetches (Some files) name most old new = AppendsFront (file files name) most old new

-- where files are told, they lack the name
abbrev pub Lacking : Option Files → List ℕ → Type 0
Lacking None name = ⊤
Lacking (Some files) name = file files name ≡ None

-- why a fetch was refused, by the count of faults before and now: a missing file is no fault
abbrev pub FetchCause : FetchErr → Option Files → List ℕ → ℕ → ℕ → Type 0
FetchCause NoFile told name before now = Lacking told name × (now ≡ before)
FetchCause Failed told name before now = Rose before now
FetchCause Memory told name before now = ⊤
