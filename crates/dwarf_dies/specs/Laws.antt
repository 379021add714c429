-- How entries follow from their numbers.
use Rattle.std.specs.Prelude.{◌≡◌, ◌<◌, ◌≤◌, ℕ, length, Some, None, option_and_then}
use Rattle.dwarf_entries.specs.Dies.{Die, Info, bases_of, parent_of}
use Rattle.dwarf_dies.specs.Views.{die_of}

-- an entry has the number under which it is found; offsets rise with the numbers; a parent has a lower number, and is the entry that
-- owns one; and an entry without a parent has the bases of its unit; there are at most 8,000,000 entries
pub record AreLinked (info : Info) : Type 0 where
  pub numbers : (n : ℕ) (d : Die) → die_of info n ≡ Some d → d.entry.number ≡ n
  pub rising : (i j : ℕ) (d e : Die) → i < j → die_of info i ≡ Some d → die_of info j ≡ Some e → d.entry.offset < e.entry.offset
  pub parents : (n : ℕ) (d : Die) → die_of info n ≡ Some d → parent_of d ≡ option_and_then (die_of info) d.entry.up
  pub earlier : (n k : ℕ) (d : Die) → die_of info n ≡ Some d → d.entry.up ≡ Some k → k < n
  pub roots : (n : ℕ) (d : Die) → die_of info n ≡ Some d → d.entry.up ≡ None → d.bases ≡ bases_of (Some d.entry)
  pub few : length info.dies ≤ 8000000
