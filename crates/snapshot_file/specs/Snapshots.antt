-- Which snapshot a file spells.
use Rattle.std.specs.Prelude.{◌≡◌, ℕ, ◌+◌, ◌*◌, ◌^◌, ◌<◌, ◌≤◌, List, [], ◌∷◌, ◌++◌, map, Option, Some, None, IfSome, Ok, flat_map, codes}
use Rattle.std.specs.List.{AllZip}
use Rattle.hex.specs.Hex.{decode_of}
use Rattle.readers.specs.Lines.{with_end}
use Rattle.readers.specs.Hex.{hex_text}
use Rattle.snapshot_file.specs.declared.snapshot.Snapshot.{Snapshot}
use Rattle.snapshot_file.specs.declared.registers.Reg.{Reg}
use Rattle.snapshot_file.specs.Registers.{number_of, width_of, name_of, no_registers, with_register}
use Rattle.snapshot_file.specs.Memory.{Run, byte_at, Rise, AreApart}

-- a line of memory: the address, and the bytes as pairs of digits of either case
pub record IsMemoryLine (line : List ℕ) (segment : Run) : Type 0 where
  pub digits : List ℕ
  pub text : line ≡ codes "mem " ++ (hex_text segment.at ++ 32 ∷ digits)
  pub bytes : decode_of digits ≡ Ok segment.bytes

-- the runs are kept apart, and have just the bytes of the segments
pub record IsMemoryOf (segments runs : List Run) : Type 0 where
  pub apart : AreApart runs
  pub same : (a : ℕ) → byte_at runs a ≡ byte_at segments a

-- the line of a register
abbrev pub line_of_register : Reg × ℕ → List ℕ
line_of_register value = codes "reg " ++ (name_of value.0 ++ 32 ∷ hex_text value.1)

-- the line of `cfa`, if there is one
abbrev pub cfa_lines : Option ℕ → List (List ℕ)
cfa_lines None = []
cfa_lines (Some n) = (codes "cfa " ++ hex_text n) ∷ []

-- the registers rise from a number on, and each has a number that fits it
abbrev pub RegistersRise : ℕ → List (Reg × ℕ) → Type 0
RegistersRise from [] = Unit {0}
RegistersRise from (value ∷ values) = (from ≤ number_of value.0) × (value.1 < 2 ^ (8 * width_of value.0)) × RegistersRise (number_of value.0 + 1) values

-- the registers with the numbers put into them
abbrev pub with_registers : List (Option (List ℕ)) → List (Reg × ℕ) → List (Option (List ℕ))
with_registers regs [] = regs
with_registers regs (value ∷ values) = with_registers (with_register regs value.0 value.1) values

-- The lines of a file: the version, `pc`, perhaps `cfa`, a line for each register and one for each segment.
abbrev pub lines_of : Snapshot → List (Reg × ℕ) → List (List ℕ) → List (List ℕ)
lines_of s registers memory_lines = codes "rdbg-snapshot 1" ∷ (codes "pc " ++ hex_text s.pc) ∷ (cfa_lines s.cfa ++ (map line_of_register registers ++ memory_lines))

-- The file is these lines, each with its end. The registers rise, and each has the number of its line. The segments have
-- bytes, each begins at or past the end of the one before, and none passes 2 ^ 64.
pub record Spells (bytes : List ℕ) (snapshot : Snapshot) : Type 0 where
  pub registers : List (Reg × ℕ)
  pub memory_lines : List (List ℕ)
  pub segments : List Run
  pub text : bytes ≡ flat_map with_end (lines_of snapshot registers memory_lines)
  pub pc : snapshot.pc < 2 ^ 64
  pub cfa : IfSome snapshot.cfa (λ n. n < 2 ^ 64)
  pub registers_rise : RegistersRise 0 registers
  pub regs : snapshot.regs ≡ with_registers no_registers registers
  pub each : AllZip IsMemoryLine memory_lines segments
  pub segments_rise : Rise 0 0 segments
  pub memory : IsMemoryOf segments snapshot.mem

-- the file spells no snapshot
abbrev pub SpellsNone : List ℕ → Type 0
SpellsNone bytes = (snapshot : Snapshot) → ¬ (Spells bytes snapshot)

-- a file spells at most one snapshot
abbrev pub OneSnapshot : Type 0
OneSnapshot = (bytes : List ℕ) (s t : Snapshot) → Spells bytes s → Spells bytes t → s ≡ t

-- runs that are kept apart and have the same bytes are the same runs
abbrev pub OneMemory : Type 0
OneMemory = (runs others : List Run) → AreApart runs → AreApart others → ((a : ℕ) → byte_at runs a ≡ byte_at others a) → runs ≡ others
