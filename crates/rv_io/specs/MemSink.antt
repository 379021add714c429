-- A sink in memory, and how its puts end.
use Rattle.std.specs.Prelude.{◌≡◌, ℕ, ◌-◌, ◌==◌, nat_le, min, true, List, [], ◌∷◌, ◌++◌, length, take, Option, Some, None, Result, Ok, Err, if◌then◌else◌}
use Rattle.rv_io.specs.Faults.{next}
use Rattle.rv_io.specs.declared.mem_sink.Fail.{Fail}
use Rattle.rv_io.specs.declared.mem_sink.MemSink.{MemSink}
use Rattle.rv_io.specs.declared.sink.Failed.{Failed}

abbrev pub written_of : MemSink → List ℕ
written_of sink = sink.bytes.items

abbrev pub faults_of : MemSink → ℕ
faults_of sink = sink.faults

-- how many bytes the put of this number takes, if it is to fail; of two entries the first counts
abbrev pub planned : List Fail → ℕ → Option ℕ
planned [] call = None
planned (f ∷ fails) call = if f.call == call then Some f.taken else planned fails call

abbrev pub plan_of : MemSink → Option ℕ
plan_of sink = planned sink.failing sink.calls

-- how many more bytes the sink takes
abbrev pub free : MemSink → ℕ
free sink = sink.room - length sink.bytes.items

-- nothing was put yet
pub record Begins (most : ℕ) (fails : List Fail) (sink : MemSink) : Type 0 where
  pub bytes : written_of sink ≡ []
  pub room : sink.room ≡ most
  pub failing : sink.failing ≡ fails
  pub calls : sink.calls ≡ 0
  pub faults : sink.faults ≡ 0

-- how many of so many bytes are taken
abbrev pub taken : MemSink → ℕ → Option ℕ → ℕ
taken sink count None = min count (free sink)
taken sink count (Some most) = min (min count (free sink)) most

-- the put succeeds: it isn't to fail, and there is room
abbrev pub Succeeds : MemSink → ℕ → Option ℕ → Type 0
Succeeds sink count None = nat_le count (free sink) ≡ true
Succeeds sink count (Some most) = ⊥

-- which answer comes to a put of at least one byte
abbrev pub IsAnswer : MemSink → ℕ → Result Unit Failed → Type 0
IsAnswer sink count (Ok _) = Succeeds sink count (plan_of sink)
IsAnswer sink count (Err _) = ¬ (Succeeds sink count (plan_of sink))

-- the count of faults after an answer
abbrev pub faults_after : ℕ → Result Unit Failed → ℕ
faults_after faults (Ok _) = faults
faults_after faults (Err _) = next faults

-- what a put of at least one byte leaves
pub record MemPutsSome (old new : MemSink) (bytes : List ℕ) (result : Result Unit Failed) : Type 0 where
  pub answer : IsAnswer old (length bytes) result
  pub written : written_of new ≡ written_of old ++ take (taken old (length bytes) (plan_of old)) bytes
  pub calls : new.calls ≡ next old.calls
  pub faults : new.faults ≡ faults_after old.faults result
  pub room : new.room ≡ old.room
  pub failing : new.failing ≡ old.failing

-- a put of no bytes changes nothing and isn't counted
abbrev pub MemPuts : MemSink → MemSink → List ℕ → Result Unit Failed → Type 0
MemPuts old new [] result = new ≡ old
MemPuts old new (b ∷ bytes) result = MemPutsSome old new (b ∷ bytes) result
