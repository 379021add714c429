-- Files in memory, and how their calls end.
use Rattle.std.specs.Prelude.{◌≡◌, ◌≢◌, ℕ, List, map, Option, None, Result, Ok, Err, Contains}
use Rattle.std.specs.Ordering.{nat_cmp}
use Rattle.std.specs.Cmp.Lexicographic.{slice_cmp}
use Rattle.std.specs.FinMap.{find, from_entries}
use Rattle.rv_io.specs.Faults.{next}
use Rattle.rv_io.specs.Files.{Files, file}
use Rattle.rv_io.specs.declared.inputs.FetchErr.{FetchErr}
use Rattle.rv_io.specs.declared.inputs.FetchErr.TheVariants.{NoFile, Failed, Memory}
use Rattle.rv_io.specs.declared.mem_inputs.File.{File}
use Rattle.rv_io.specs.declared.mem_inputs.MemInputs.{MemInputs}

abbrev pub entry : File → List ℕ × List ℕ
entry f = (f.name, f.bytes)

-- the bytes of the first file of this name
abbrev pub find_file : List ℕ → List File → Option (List ℕ)
find_file name files = find (slice_cmp nat_cmp) name (map entry files)

-- of two files with one name the first counts
abbrev pub told_by : List File → Files
told_by files = from_entries (map entry files)

abbrev pub told : MemInputs → Files
told inputs = told_by inputs.files

abbrev pub faults_of : MemInputs → ℕ
faults_of inputs = inputs.faults

-- no call was made yet
pub record Begins (fs : List File) (fails : List ℕ) (inputs : MemInputs) : Type 0 where
  pub files : inputs.files ≡ fs
  pub failing : inputs.failing ≡ fails
  pub calls : inputs.calls ≡ 0
  pub faults : inputs.faults ≡ 0

-- the call that comes next is one of those that fail
abbrev pub IsFailing : MemInputs → Type 0
IsFailing inputs = Contains inputs.failing inputs.calls

-- the call comes by plan, and the file is there
abbrev pub IsThere : MemInputs → List ℕ → Type 0
IsThere inputs name = ¬ (IsFailing inputs) × (file (told inputs) name ≢ None)

-- which answer comes: `Failed` by plan alone, then `NoFile` where the name isn't there
abbrev pub MemAnswers : MemInputs → List ℕ → Result Unit FetchErr → Type 0
MemAnswers inputs name (Ok _) = IsThere inputs name
MemAnswers inputs name (Err Failed) = IsFailing inputs
MemAnswers inputs name (Err NoFile) = ¬ (IsFailing inputs) × (file (told inputs) name ≡ None)
MemAnswers inputs name (Err Memory) = IsThere inputs name

-- calls are counted, and of them those that failed; nothing else changes
abbrev pub MemCounts : MemInputs → MemInputs → Result Unit FetchErr → Type 0
MemCounts old new (Err Failed) = new ≡ record old { calls = next old.calls; faults = next old.faults }
MemCounts old new _ = new ≡ record old { calls = next old.calls }
