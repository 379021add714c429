-- What the lines of a snapshot file say, or the first line that breaks a rule, one line after another. Private to the steps of
-- reading: what they come to is in `Claims.antt`.
use Rattle.std.specs.Prelude.{◌≡◌, ℕ, Bool, true, ◌||◌, ◌+◌, ◌-◌, ◌^◌, nat_lt, ◌==◌, min, List, [], ◌∷◌, length, Option, Some, None, Result, Ok, Err, if◌then◌else◌, codes}
use Rattle.std.specs.Str.{bytes_eq, is_utf8}
use Rattle.hex.specs.Hex.{decode_of}
use Rattle.hex.specs.declared.error.FromHexError.{FromHexError}
use Rattle.readers.specs.Lines.{lines, words, only, two}
use Rattle.readers.specs.Hex.{hex_of, wide_hex_of, is_hex_word}
use Rattle.snapshot_file.specs.declared.fault.SnapErr.{SnapErr}
use Rattle.snapshot_file.specs.declared.fault.SnapErr.TheVariants as faults
use Rattle.snapshot_file.specs.declared.snapshot.Stage.{Stage}
use Rattle.snapshot_file.specs.declared.snapshot.Stage.TheVariants as stages
use Rattle.snapshot_file.specs.declared.snapshot.Reading.{Reading}
use Rattle.snapshot_file.specs.declared.snapshot.Snapshot.{Snapshot}
use Rattle.snapshot_file.specs.declared.registers.Reg.{Reg}
use Rattle.snapshot_file.specs.Registers.{number_of, width_of, reg_of, no_registers, with_register}
use Rattle.snapshot_file.specs.Spans.{with_bytes, last_end}

infixl 10 ◌>>=◌
abbrev pub ◌>>=◌ : {A B : Type 0} → Result A SnapErr → (A → Result B SnapErr) → Result B SnapErr
(Ok x) >>= f = f x
(Err e) >>= f = Err e

-- what a function returned is what reading gives, unless memory ran out
abbrev pub Fails : {X : Type 0} → SnapErr → Result X SnapErr → Type 0
Fails faults.Memory read = Unit {0}
Fails (faults.BadLine line rule) read = read ≡ Err (faults.BadLine line rule)
Fails (faults.Overlap line) read = read ≡ Err (faults.Overlap line)

abbrev pub Gives : {X : Type 0} → Result X SnapErr → Result X SnapErr → Type 0
Gives (Ok x) read = read ≡ Ok x
Gives (Err e) read = Fails e read

-- the same of what the view sees
abbrev pub GivesBy : {X Y : Type 0} → (X → Y) → Result X SnapErr → Result Y SnapErr → Type 0
GivesBy view (Ok x) read = read ≡ Ok (view x)
GivesBy view (Err e) read = Fails e read

abbrev pub bad : {X : Type 0} → ℕ → ℕ → Result X SnapErr
bad line rule = Err (faults.BadLine line rule)

-- a line's number saturates at its type's end
abbrev pub after : ℕ → ℕ
after line = min (line + 1) (2 ^ 32 - 1)

abbrev pub or_bad : {X : Type 0} → ℕ → ℕ → Option X → Result X SnapErr
or_bad line rule (Some x) = Ok x
or_bad line rule None = bad line rule

-- the words after the first one
abbrev pub behind : Option (List ℕ) → List (List ℕ)
behind None = []
behind (Some rest) = words rest

-- the first line
abbrev pub version_line : Reading → List ℕ → List (List ℕ) → Result Reading SnapErr
version_line r first more = if bytes_eq first (codes "rdbg-snapshot") then (do
  version ← or_bad r.line 3 (only more)
  if bytes_eq version (codes "1") then Ok (record r { stage = stages.Version; line = after r.line }) else bad r.line 4)
    else bad r.line 2

-- the one number after the first word
abbrev pub number_of_line : ℕ → List (List ℕ) → Result ℕ SnapErr
number_of_line line more = do
  word ← or_bad line 3 (only more)
  or_bad line 4 (hex_of word)

-- the second line
abbrev pub pc_line : Reading → List ℕ → List (List ℕ) → Result Reading SnapErr
pc_line r first more = if bytes_eq first (codes "pc") then (do
  n ← number_of_line r.line more
  Ok (record { stage = stages.Pc; line = after r.line; snapshot = record r.snapshot { pc = n } }))
    else bad r.line 2

abbrev pub cfa_line : Reading → List (List ℕ) → Result Reading SnapErr
cfa_line r more = do
  n ← number_of_line r.line more
  Ok (record { stage = stages.Cfa; line = after r.line; snapshot = record r.snapshot { cfa = Some n } })

-- the number is no wider than the register
abbrev pub fits : Reg → ℕ → Bool
fits reg n = (width_of reg == 16) || nat_lt n (2 ^ 64)

abbrev pub fitting : Reg → Option ℕ → Option ℕ
fitting reg None = None
fitting reg (Some n) = if fits reg n then Some n else None

-- A number beside an unknown register has to be well spelled, too.
abbrev pub value_in : ℕ → Option Reg → List ℕ → Result (Reg × ℕ) SnapErr
value_in line None word = if is_hex_word word then bad line 5 else bad line 4
value_in line (Some reg) word = do
  n ← or_bad line 4 (fitting reg (wide_hex_of word))
  Ok (reg, n)

abbrev pub value_of_line : ℕ → List ℕ → List ℕ → Result (Reg × ℕ) SnapErr
value_of_line line name word = value_in line (reg_of name) word

-- the register stands above that of the line before
abbrev pub is_above : Stage → Reg → Bool
is_above (stages.Register last) reg = nat_lt (number_of last) (number_of reg)
is_above _ reg = true

abbrev pub after_register : Reading → Reg → ℕ → Reading
after_register r reg n = record { stage = stages.Register reg; line = after r.line; snapshot = record r.snapshot { regs = with_register r.snapshot.regs reg n } }

abbrev pub register_line : Reading → List (List ℕ) → Result Reading SnapErr
register_line r more = do
  both ← or_bad r.line 3 (two more)
  value ← value_of_line r.line both.0 both.1
  if is_above r.stage value.0 then Ok (after_register r value.0 value.1) else bad r.line 5

-- one or more pairs of digits
abbrev pub pairs : ℕ → Result (List ℕ) FromHexError → Result (List ℕ) SnapErr
pairs line (Ok (b ∷ bytes)) = Ok (b ∷ bytes)
pairs line _ = Err (faults.BadLine line 6)

-- a segment of memory, at or past the end of the one before
abbrev pub segment_line : Reading → ℕ → List ℕ → Result Reading SnapErr
segment_line r at bytes =
    if nat_lt (2 ^ 64) (at + length bytes) then bad r.line 7
    else if nat_lt at (last_end r.snapshot.mem) then Err (faults.Overlap r.line)
    else Ok (record { stage = stages.Memory; line = after r.line; snapshot = record r.snapshot { mem = with_bytes r.snapshot.mem at bytes } })

abbrev pub memory_line : Reading → List (List ℕ) → Result Reading SnapErr
memory_line r more = do
  both ← or_bad r.line 3 (two more)
  at ← or_bad r.line 4 (hex_of both.0)
  bytes ← pairs r.line (decode_of both.1)
  segment_line r at bytes

-- a line that may be of memory
abbrev pub last_line : Reading → List ℕ → List (List ℕ) → Result Reading SnapErr
last_line r first more = if bytes_eq first (codes "mem") then memory_line r more else bad r.line 2

-- a line that may be of a register or of memory
abbrev pub later_line : Reading → List ℕ → List (List ℕ) → Result Reading SnapErr
later_line r first more = if bytes_eq first (codes "reg") then register_line r more else last_line r first more

-- a line after that of `pc`
abbrev pub third_line : Reading → List ℕ → List (List ℕ) → Result Reading SnapErr
third_line r first more = if bytes_eq first (codes "cfa") then cfa_line r more else later_line r first more

-- what a line may be depends on the line before
abbrev pub line_at : Stage → Reading → List ℕ → List (List ℕ) → Result Reading SnapErr
line_at stages.Nothing r first more = version_line r first more
line_at stages.Version r first more = pc_line r first more
line_at stages.Pc r first more = third_line r first more
line_at stages.Cfa r first more = later_line r first more
line_at (stages.Register last) r first more = later_line r first more
line_at stages.Memory r first more = last_line r first more

abbrev pub words_at : Reading → List (List ℕ) → Result Reading SnapErr
words_at r [] = bad r.line 2
words_at r (first ∷ more) = line_at r.stage r first more

-- one line
unfoldable pub step : Reading → List ℕ → Result Reading SnapErr
step r line = if is_utf8 line then words_at r (words line) else bad r.line 1

-- the end of the file
abbrev pub at_end : Stage → Reading → Result Snapshot SnapErr
at_end stages.Nothing r = bad r.line 2
at_end stages.Version r = bad r.line 2
at_end _ r = Ok r.snapshot

-- what follows the last LF has to be nothing
abbrev pub finish : Reading → List ℕ → Result Snapshot SnapErr
finish r rest = if length rest == 0 then at_end r.stage r else bad r.line 1

-- the lines in order, and then what follows the last LF
abbrev pub steps : Reading → List (List ℕ) → Result Snapshot SnapErr
steps r [] = bad r.line 2
steps r (rest ∷ []) = finish r rest
steps r (line ∷ next ∷ more) = step r line >>= λ s. steps s (next ∷ more)

abbrev pub start : Reading
start = record { stage = stages.Nothing; line = 1; snapshot = record { pc = 0; cfa = None; regs = no_registers; mem = [] } }

abbrev pub snapshot_of : List ℕ → Result Snapshot SnapErr
snapshot_of bytes = steps start (lines bytes)
