-- An entry among all entries of `.debug_info`.
use Rattle.std.specs.Prelude.{◌≡◌, ◌<◌, ℕ, List, [], length, map, slice_get, Some, None, unwrap_or}
use Rattle.dwarf_entries.specs.Dies.{Die, Info}
use Rattle.dwarf_dies.specs.Laws.{AreLinked}
use Rattle.dwarf_dies.specs.Views.{die_of}

-- an entry with what is around it, and all entries
pub record DieIn : Type 0 where
  pub info : Info
  pub die : Die

abbrev pub among : Info → Die → DieIn
among info d = record { info = info; die = d }

-- another entry of the same `.debug_info`
abbrev pub beside : DieIn → Die → DieIn
beside a d = among a.info d

-- stands where there is no entry
abbrev pub no_die : Die
no_die = record {
  start = 0;
  bases = record { text_offsets = None; addrs = None };
  owners = [];
  entry = record { number = 0; up = None; offset = 0; tag = 0; attributes = [] };
}

-- the entry with this number
abbrev pub die_in : Info → ℕ → DieIn
die_in info number = among info (unwrap_or (die_of info number) no_die)

-- there is an entry with this number
pub record IsThere (info : Info) (number : ℕ) : Type 0 where
  pub laws : AreLinked info
  pub inside : number < length info.dies

-- there is an entry with each of these numbers
pub record AreThere (info : Info) (numbers : List ℕ) : Type 0 where
  pub laws : AreLinked info
  pub inside : (k n : ℕ) → slice_get numbers k ≡ Some n → n < length info.dies

-- an entry is found under its number, and entries follow from their numbers
pub record IsFound (a : DieIn) : Type 0 where
  pub laws : AreLinked a.info
  pub found : die_of a.info a.die.entry.number ≡ Some a.die
