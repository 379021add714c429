-- Which rules a line of a snapshot file breaks, by what the lines before it say.
use Rattle.std.specs.Prelude.{◌≡◌, ◌≢◌, ℕ, ◌*◌, ◌^◌, ◌<◌, ◌≤◌, false, List, [], ◌∷◌, Option, Some, None, Ok, codes}
use Rattle.std.specs.Str.{is_utf8}
use Rattle.hex.specs.Hex.{decode_of}
use Rattle.readers.specs.Lines.{words, only, two}
use Rattle.readers.specs.Hex.{hex_text, IsHexNumber}
use Rattle.snapshot_file.specs.declared.snapshot.Snapshot.{Snapshot}
use Rattle.snapshot_file.specs.declared.registers.Reg.{Reg}
use Rattle.snapshot_file.specs.Registers.{number_of, width_of, name_of, no_registers, register}
use Rattle.snapshot_file.specs.Memory.{Run, end_of}
use Rattle.snapshot_file.specs.Spans.{last_end}
use Rattle.snapshot_file.specs.Snapshots.{IsMemoryLine}

-- what the lines before say: there are none, there is that of the version, or they spell a snapshot
pub data Front : Type 0 where
  first : Front
  second : Front
  behind : Snapshot → Front

-- the registers that the lines before have
abbrev pub registers_before : Front → List (Option (List ℕ))
registers_before (behind snapshot) = snapshot.regs
registers_before front = no_registers

-- the kinds of lines
pub data Kind : Type 0 where
  Version : Kind
  Pc : Kind
  Cfa : Kind
  Register : Kind
  Memory : Kind

-- the first word of a line
abbrev pub first_word : Kind → List ℕ
first_word Version = codes "rdbg-snapshot"
first_word Pc = codes "pc"
first_word Cfa = codes "cfa"
first_word Register = codes "reg"
first_word Memory = codes "mem"

-- only `pc` was said
abbrev pub IsBare : Snapshot → Type 0
IsBare snapshot = (snapshot.cfa ≡ None) × (snapshot.regs ≡ no_registers) × (snapshot.mem ≡ [])

-- the lines that may stand here: `cfa` right after `pc`, and registers before any memory
abbrev pub MayStand : Front → Kind → Type 0
MayStand first Version = Unit {0}
MayStand second Pc = Unit {0}
MayStand (behind snapshot) Cfa = IsBare snapshot
MayStand (behind snapshot) Register = snapshot.mem ≡ []
MayStand (behind snapshot) Memory = Unit {0}
MayStand front kind = ⊥

-- the word is the spelling of a number below the limit
abbrev pub IsNumber : ℕ → List ℕ → Type 0
IsNumber limit word = (n : ℕ) × ((n < limit) × (word ≡ hex_text n))

-- the word names no register
abbrev pub IsUnknown : List ℕ → Type 0
IsUnknown name = (reg : Reg) → name ≢ name_of reg

-- a register that is there already is the same, or stands above
abbrev pub IsPassed : List (Option (List ℕ)) → Reg → Type 0
IsPassed regs reg = (other : Reg) × ((register regs other ≢ None) × (number_of reg ≤ number_of other))

-- after `rdbg-snapshot` stands `1` alone
pub data BreaksVersion (more : List (List ℕ)) (rule : ℕ) : Type 0 where
  version_count : only more ≡ None → rule ≡ 3 → BreaksVersion more rule
  other_version : (word : List ℕ) → only more ≡ Some word → word ≢ codes "1" → rule ≡ 4 → BreaksVersion more rule

-- after `pc` and `cfa` stands a number below 2 ^ 64 alone
pub data BreaksNumber (more : List (List ℕ)) (rule : ℕ) : Type 0 where
  number_count : only more ≡ None → rule ≡ 3 → BreaksNumber more rule
  no_number : (word : List ℕ) → only more ≡ Some word → ¬ IsNumber (2 ^ 64) word → rule ≡ 4 → BreaksNumber more rule

-- After `reg` stand two words: a register above those before, and a number that fits it. Beside an unknown register a number
-- of any size is well spelled.
pub data BreaksRegister (regs : List (Option (List ℕ))) (more : List (List ℕ)) (rule : ℕ) : Type 0 where
  register_count : two more ≡ None → rule ≡ 3 → BreaksRegister regs more rule
  unfit : (name word : List ℕ) (reg : Reg) → two more ≡ Some (name, word) → name ≡ name_of reg
      → ¬ IsNumber (2 ^ (8 * width_of reg)) word → rule ≡ 4 → BreaksRegister regs more rule
  misspelled : (name word : List ℕ) → two more ≡ Some (name, word) → IsUnknown name
      → ¬ IsHexNumber word → rule ≡ 4 → BreaksRegister regs more rule
  unknown : (name word : List ℕ) → two more ≡ Some (name, word) → IsUnknown name → rule ≡ 5 → BreaksRegister regs more rule
  passed : (name word : List ℕ) (reg : Reg) → two more ≡ Some (name, word) → name ≡ name_of reg
      → IsPassed regs reg → rule ≡ 5 → BreaksRegister regs more rule

-- After `mem` stand two words: an address below 2 ^ 64, and pairs of digits for one or more bytes, which end at 2 ^ 64 or
-- below.
pub data BreaksMemory (more : List (List ℕ)) (rule : ℕ) : Type 0 where
  memory_count : two more ≡ None → rule ≡ 3 → BreaksMemory more rule
  no_address : (at digits : List ℕ) → two more ≡ Some (at, digits)
      → ¬ IsNumber (2 ^ 64) at → rule ≡ 4 → BreaksMemory more rule
  no_bytes : (at digits : List ℕ) → two more ≡ Some (at, digits)
      → ((bs : List ℕ) → decode_of digits ≡ Ok bs → bs ≡ []) → rule ≡ 6 → BreaksMemory more rule
  past_end : (segment : Run) (digits : List ℕ) → two more ≡ Some (hex_text segment.at, digits) → decode_of digits ≡ Ok segment.bytes
      → segment.at < 2 ^ 64 → 2 ^ 64 < end_of segment → rule ≡ 7 → BreaksMemory more rule

-- the words after the first break the rule
abbrev pub BreaksWords : Front → Kind → List (List ℕ) → ℕ → Type 0
BreaksWords front Version more rule = BreaksVersion more rule
BreaksWords front Pc more rule = BreaksNumber more rule
BreaksWords front Cfa more rule = BreaksNumber more rule
BreaksWords front Register more rule = BreaksRegister (registers_before front) more rule
BreaksWords front Memory more rule = BreaksMemory more rule

-- The line breaks the rule: it is not UTF-8, its first word is none that may stand here, or it may, and the words after it
-- break the rule.
pub data Breaks (front : Front) (line : List ℕ) (rule : ℕ) : Type 0 where
  no_text : is_utf8 line ≡ false → rule ≡ 1 → Breaks front line rule
  cannot_stand : ((kind : Kind) (more : List (List ℕ)) → MayStand front kind → words line ≢ first_word kind ∷ more)
      → rule ≡ 2 → Breaks front line rule
  words_break : (kind : Kind) (more : List (List ℕ)) → MayStand front kind → words line ≡ first_word kind ∷ more
      → BreaksWords front kind more rule → Breaks front line rule

-- the rule is broken, and none that is lower
abbrev pub IsLowest : (ℕ → Type 0) → ℕ → Type 0
IsLowest Broken rule = Broken rule × ((lower : ℕ) → Broken lower → rule ≤ lower)

-- a line of memory without a fault, whose segment begins below the end of the one before
pub record Overlaps (snapshot : Snapshot) (line : List ℕ) : Type 0 where
  pub segment : Run
  pub is : IsMemoryLine line segment
  pub faultless : (rule : ℕ) → ¬ Breaks (behind snapshot) line rule
  pub below : segment.at < last_end snapshot.mem
