-- Why a run ends as it does, and what it leaves in its sinks.
use Rattle.std.specs.Prelude.{◌≡◌, ℕ, List, [], length, map, take, ◌<◌, ◌≤◌, ⊤, ◌⊎◌, Result, Ok, Err, Option, None, Some, IfSome}
use Rattle.std.specs.List.{concat}
use Rattle.std.specs.Io.KnownBytes.{Appends}
use Rattle.std.specs.Borrow.{Bor}
use Rattle.rv_io.specs.Faults.{Rose}
use Rattle.rv_io.specs.Files.{Files, file}
use Rattle.rv_io.specs.Puts.{AppendsSome}
use Rattle.dbg_command.specs.declared.stop.Stop.{Stop}
use Rattle.dbg_command.specs.declared.stop.Stop.TheVariants as stops
use Rattle.dbg_command.specs.Stops.{status_of, message}

-- texts one after the other
abbrev pub joined : List (Bor (List ℕ)) → List ℕ
joined parts = concat (map (λ p. p.now) parts)

-- the message was appended, or a front of it, only where the sink's faults rose
abbrev pub Says : Option (List ℕ) → Option (List ℕ) → ℕ → ℕ → List ℕ → Type 0
Says old new before now text = Appends old new text ⊎ (AppendsSome old new text × Rose before now)

-- Why a run stops. `Holds` tells which status, output and message the files lead to.
abbrev pub Stops : Option Files → (Files → ℕ → List ℕ → List ℕ → Type 0) → ℕ → ℕ → Stop → Type 0
Stops told Holds before now stops.ReadFault = Rose before now
Stops told Holds before now stops.WriteFault = ⊥
Stops told Holds before now stops.Memory = ⊤
Stops told Holds before now stop = IfSome told (λ files. Holds files (status_of stop) [] (message stop))

-- a whole output, or why there is none
abbrev pub Gives : Option Files → (Files → ℕ → List ℕ → List ℕ → Type 0) → ℕ → ℕ → Result (List ℕ) Stop → Type 0
Gives told Holds before now (Ok output) = IfSome told (λ files. Holds files 0 output [])
Gives told Holds before now (Err stop) = Stops told Holds before now stop

-- a run stops for its words exactly where they have no form
abbrev pub Fits : Type 0 → Result (List ℕ) Stop → Type 0
Fits named (Err stops.Usage) = ¬ named
Fits named _ = named

-- the told files have this file, with P of its bytes
abbrev pub HasFile : Option Files → List ℕ → (List ℕ → Type 0) → Type 0
HasFile told name P = IfSome told (λ files. (bytes : List ℕ) × (file files name ≡ Some bytes) × P bytes)

-- what fetching a file within its limit gives
abbrev pub Fetched : Option Files → Bor (List ℕ) → ℕ → ℕ → ℕ → Result (List ℕ) Stop → Type 0
Fetched told name limit before now (Ok found) = HasFile told name.now (λ bytes. (bytes ≡ found) × (length bytes ≤ limit))
Fetched told name limit before now (Err (stops.TooManyBytes n)) = (n ≡ name) × HasFile told name.now (λ bytes. limit < length bytes)
Fetched told name limit before now (Err (stops.CannotOpen n)) = (n ≡ name) × IfSome told (λ files. file files name.now ≡ None)
Fetched told name limit before now (Err stops.ReadFault) = Rose before now
Fetched told name limit before now (Err stops.Memory) = ⊤
Fetched told name limit before now (Err _) = ⊥

-- Why a run ends with this status, output and message.
pub record Ends (named : Type 0) (told : Option Files) (Holds : Files → ℕ → List ℕ → List ℕ → Type 0) (reads_before reads_now writes_before writes_now : ℕ) (code : ℕ) (output text : List ℕ) : Type 0 where
  -- with 0, 1 and 2 the status, the output and the message are those that the files lead to
  pub answered : code < 3 → IfSome told (λ files. Holds files code output text)
  -- with 0 nothing is said; with 1 the message is that of a stop of this status
  pub silent : code ≡ 0 → text ≡ []
  pub stopped : code ≡ 1 → (stop : Stop) × (status_of stop ≡ 1) × (text ≡ message stop)
  -- with 1 and 2 nothing was put out
  pub refused : 1 ≤ code → code ≤ 2 → output ≡ []
  -- with 2, and only then, the words have no form
  pub usage : code ≡ 2 → ¬ named × (text ≡ message stops.Usage)
  pub nameless : ¬ named → code ≡ 2
  -- with 3 the words name a file, a read failed, and nothing was put out
  pub read : code ≡ 3 → named × Rose reads_before reads_now × (output ≡ []) × (text ≡ message stops.ReadFault)
  -- with 4 a write failed, and a front of the answer was put out
  pub write : code ≡ 4 → (whole : List ℕ) × (n : ℕ) × (output ≡ take n whole) × IfSome told (λ files. Holds files 0 whole []) × Rose writes_before writes_now × (text ≡ message stops.WriteFault)
  -- with 5 nothing was put out
  pub memory : code ≡ 5 → (output ≡ []) × (text ≡ message stops.Memory)
  pub status : code ≤ 5
