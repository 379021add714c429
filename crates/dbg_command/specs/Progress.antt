-- How far a text has been put.
use Rattle.std.specs.Prelude.{◌≡◌, ℕ, ◌≤◌, List, ◌++◌, drop, Option}
use Rattle.std.specs.Borrow.{Bor}
use Rattle.std.specs.Io.KnownBytes.{Appends}
use Rattle.dbg_command.specs.Runs.{joined}

-- the first i parts were put
pub record HasPut (parts : List (Bor (List ℕ))) (i : ℕ) (old new : Option (List ℕ)) (before now : ℕ) : Type 0 where
  pub done : List ℕ
  pub split : done ++ joined (drop i parts) ≡ joined parts
  pub put : Appends old new done
  pub later : before ≤ now
