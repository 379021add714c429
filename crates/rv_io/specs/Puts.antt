-- What a put leaves in a sink that tells its bytes.
use Rattle.std.specs.Prelude.{ℕ, List, take, Result, Ok, Err, Option}
use Rattle.std.specs.Io.KnownBytes.{Appends}

-- a front of the text was appended
abbrev pub AppendsSome : Option (List ℕ) → Option (List ℕ) → List ℕ → Type 0
AppendsSome old new text = (n : ℕ) × Appends old new (take n text)

-- the bytes were appended, or a front of them where the put failed
abbrev pub Puts : {E : Type 0} → Option (List ℕ) → Option (List ℕ) → Result Unit E → List ℕ → Type 0
Puts old new (Ok _) bytes = Appends old new bytes
Puts old new (Err e) bytes = AppendsSome old new bytes
