-- What a file is as a snapshot: the text of one, or where it stops being one.
use Rattle.std.specs.Prelude.{◌≡◌, ◌≢◌, ℕ, ◌+◌, ◌-◌, ◌^◌, min, List, [], ◌∷◌, ◌++◌, length, flat_map, Result, Ok, Err, codes}
use Rattle.readers.specs.Lines.{lines, with_end}
use Rattle.snapshot_file.specs.declared.snapshot.Snapshot.{Snapshot}
use Rattle.snapshot_file.specs.declared.fault.SnapErr.{SnapErr}
use Rattle.snapshot_file.specs.declared.fault.SnapErr.TheVariants.{BadLine, Overlap, Memory}
use Rattle.snapshot_file.specs.Snapshots.{Spells}
use Rattle.snapshot_file.specs.Faults.{Front, first, second, behind, Breaks, IsLowest, Overlaps}

-- the lines before are those of a beginning: none, that of the version, or all lines of a snapshot
abbrev pub IsBefore : Front → List (List ℕ) → Type 0
IsBefore first before = before ≡ []
IsBefore second before = before ≡ codes "rdbg-snapshot 1" ∷ []
IsBefore (behind snapshot) before = Spells (flat_map with_end before) snapshot

-- The file, cut at each LF, has these lines before, then this text, then what follows it. Lines are counted from 1, and the
-- number saturates at its type's end.
pub record Stands (bytes : List ℕ) (front : Front) (text : List ℕ) (more : List (List ℕ)) (line : ℕ) : Type 0 where
  pub before : List (List ℕ)
  pub cut : lines bytes ≡ before ++ text ∷ more
  pub is_before : IsBefore front before
  pub number : line ≡ min (length before + 1) (2 ^ 32 - 1)

-- a line must stand here
abbrev pub MustGoOn : Front → Type 0
MustGoOn (behind snapshot) = ⊥
MustGoOn front = Unit {0}

-- the lowest rule that is broken here: by a line with its LF, by one without, or by none where one must stand
pub data IsBroken (front : Front) (text : List ℕ) (more : List (List ℕ)) (rule : ℕ) : Type 0 where
  whole : more ≢ [] → IsLowest (Breaks front text) rule → IsBroken front text more rule
  endless : more ≡ [] → text ≢ [] → rule ≡ 1 → IsBroken front text more rule
  missing : more ≡ [] → text ≡ [] → MustGoOn front → rule ≡ 2 → IsBroken front text more rule

-- the first line that is invalid, and its lowest rule
pub record IsFault (bytes : List ℕ) (line rule : ℕ) : Type 0 where
  pub front : Front
  pub text : List ℕ
  pub more : List (List ℕ)
  pub stands : Stands bytes front text more line
  pub broken : IsBroken front text more rule

-- the first line of memory that begins below the end of the segment before, where no line up to it is invalid
pub record IsOverlap (bytes : List ℕ) (line : ℕ) : Type 0 where
  pub snapshot : Snapshot
  pub text : List ℕ
  pub more : List (List ℕ)
  pub stands : Stands bytes (behind snapshot) text more line
  pub whole : more ≢ []
  pub overlaps : Overlaps snapshot text

-- what a reader of snapshot files answers
abbrev pub IsReading : List ℕ → Result Snapshot SnapErr → Type 0
IsReading bytes (Ok snapshot) = Spells bytes snapshot
IsReading bytes (Err (BadLine line rule)) = IsFault bytes line rule
IsReading bytes (Err (Overlap line)) = IsOverlap bytes line
IsReading bytes (Err Memory) = Unit {0}

-- each file spells a snapshot, or has a fault
abbrev pub HaveReading : Type 0
HaveReading = (bytes : List ℕ) → (r : Result Snapshot SnapErr) × ((r ≢ Err Memory) × IsReading bytes r)

-- a file that spells a snapshot has no fault
abbrev pub HaveNoFault : Type 0
HaveNoFault = (snapshot : Snapshot) (bytes : List ℕ) (e : SnapErr) → Spells bytes snapshot → IsReading bytes (Err e) → e ≡ Memory

-- a file has at most one fault
abbrev pub HaveOneFault : Type 0
HaveOneFault = (bytes : List ℕ) (e f : SnapErr) → IsReading bytes (Err e) → IsReading bytes (Err f) → e ≢ Memory → f ≢ Memory → e ≡ f
