-- A count of faults never falls, and has risen where a call says that it failed.
use Rattle.std.specs.Prelude.{ℕ, ◌+◌, ◌-◌, ◌^◌, ◌≤◌, min}

-- the next number of a count, which saturates at the end of its type
abbrev pub next : ℕ → ℕ
next count = min (count + 1) (2 ^ 64 - 1)

-- the count rose in the call, or is saturated
abbrev pub Rose : ℕ → ℕ → Type 0
Rose before now = next before ≤ now
