-- How a `Mem` keeps its runs: as spans of one buffer.
use Rattle.std.specs.Prelude.{◌≡◌, ℕ, ◌+◌, ◌≤◌, ◌<◌, ◌==◌, List, [], ◌∷◌, ◌++◌, length, take, drop, map, ◌^◌, Bool, false, None, slice_get, if◌then◌else◌}
use Rattle.snapshot_file.specs.declared.mem.Span.{Span}
use Rattle.snapshot_file.specs.Memory.{Run, end_of, byte_at}

-- the run that a span of the buffer is
abbrev pub run_of : List ℕ → Span → Run
run_of buffer span = record { at = span.at; bytes = take span.len (drop span.start buffer) }

abbrev pub runs_of : List ℕ → List Span → List Run
runs_of buffer spans = map (run_of buffer) spans

-- the spans lie one after another in the buffer, from a place on to its end
abbrev pub Fill : ℕ → List Span → ℕ → Type 0
Fill place [] size = place ≡ size
Fill place (span ∷ spans) size = (span.start ≡ place) × Fill (place + span.len) spans size

-- whether the last span ends at the address
abbrev pub abuts : List Span → ℕ → Bool
abuts [] at = false
abuts (span ∷ []) at = span.at + span.len == at
abuts (span ∷ next ∷ spans) at = abuts (next ∷ spans) at

-- the spans, with the last longer by so many bytes
abbrev pub longer : List Span → ℕ → List Span
longer [] n = []
longer (span ∷ []) n = record { at = span.at; start = span.start; len = span.len + n } ∷ []
longer (span ∷ next ∷ spans) n = span ∷ longer (next ∷ spans) n

-- a run, after runs that end at or below it: it is joined to the last one where they abut
abbrev pub with_run : List Run → Run → List Run
with_run [] new = new ∷ []
with_run (run ∷ []) new = if end_of run == new.at then record { at = run.at; bytes = run.bytes ++ new.bytes } ∷ [] else run ∷ new ∷ []
with_run (run ∷ next ∷ runs) new = run ∷ with_run (next ∷ runs) new

-- the same, where a run without bytes changes nothing
abbrev pub with_bytes : List Run → ℕ → List ℕ → List Run
with_bytes runs at [] = runs
with_bytes runs at (b ∷ bytes) = with_run runs (record { at = at; bytes = b ∷ bytes })

-- what stands from an address on to the end of its run
pub record IsRest (runs : List Run) (a : ℕ) (rest : List ℕ) : Type 0 where
  pub there : (j : ℕ) → j < length rest → byte_at runs (a + j) ≡ slice_get rest j
  pub past : byte_at runs (a + length rest) ≡ None
  pub below : 0 < length rest → a + length rest ≤ 2 ^ 64

-- the end of the last run, or 0 where there is none
abbrev pub last_end : List Run → ℕ
last_end [] = 0
last_end (run ∷ []) = end_of run
last_end (run ∷ next ∷ runs) = last_end (next ∷ runs)
