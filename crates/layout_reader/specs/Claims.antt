-- What a file is as a layout: the text of one set, or where it stops being one.
use Rattle.std.specs.Prelude.{◌≡◌, ◌≢◌, ◌⊎◌, ℕ, ◌+◌, ◌-◌, ◌^◌, ◌<◌, min, true, List, [], ◌++◌, length, Option, None, Result, Ok, Err}
use Rattle.readers.specs.Lines.{Lacks, CutAt, with_end}
use Rattle.layout_set.specs.Counts.{place_parts, piece_parts, part_count, variable_count}
use Rattle.layout_set.specs.declared.set.Set.{Set}
use Rattle.layout_lines.specs.declared.line.Line.{Line}
use Rattle.layout_lines.specs.declared.line.Line.TheVariants as lines
use Rattle.layout_reader.specs.declared.layout_err.Count.{Count}
use Rattle.layout_reader.specs.declared.layout_err.Count.TheVariants.{Types, Parts, Variables}
use Rattle.layout_reader.specs.declared.layout_err.LayoutErr.{LayoutErr}
use Rattle.layout_reader.specs.declared.layout_err.LayoutErr.TheVariants.{BadLine, Limit, Memory}
use Rattle.layout_lines.specs.Lines.{line_text, kind_of_line, IsLine}
use Rattle.layout_lines.specs.declared.open_entry.OpenEntry.{OpenEntry}
use Rattle.layout_lines.specs.Sets.{lines_before, version_text, Spells, SpellsBefore, open_parts, may_follow}
use Rattle.layout_builder.specs.LineCounts.{line_types, line_parts, line_variables}
use Rattle.layout_rules.specs.Faults.{Front, first, second, behind, BreaksLine, IsLowest}

-- the lines before, without a fault, have this text, and are so many
abbrev pub IsBefore : Front → List ℕ → ℕ → Type 0
IsBefore first text count = (text ≡ []) × (count ≡ 0)
IsBefore second text count = (text ≡ with_end version_text) × (count ≡ 1)
IsBefore (behind set open_entry) text count = SpellsBefore set open_entry text × (count ≡ 2 + length (lines_before set open_entry))

-- the first line of the text, which has its end
abbrev pub IsFirstLine : List ℕ → List ℕ → Type 0
IsFirstLine line text = (more : List ℕ) × CutAt 10 text line more

-- the text is that of a line without its end
abbrev pub IsEndless : List ℕ → Type 0
IsEndless text = (text ≢ []) × Lacks 10 text

-- a line must stand here: one of the first two, or a piece that is missing
abbrev pub MustGoOn : Front → Type 0
MustGoOn (behind set None) = ⊥
MustGoOn front = Unit {0}

-- the first line of the rest breaks the rule, and none that is lower: a line with its end, one without, or none where one must stand
pub data Breaks (front : Front) (text : List ℕ) (rule : ℕ) : Type 0 where
  whole : (line : List ℕ) → IsFirstLine line text → IsLowest (BreaksLine front line) rule → Breaks front text rule
  endless : IsEndless text → rule ≡ 1 → Breaks front text rule
  missing : text ≡ [] → MustGoOn front → rule ≡ 2 → Breaks front text rule

-- the first line that breaks a rule, and its lowest rule; a line's number saturates
pub record IsFault (bytes : List ℕ) (line rule : ℕ) : Type 0 where
  pub front : Front
  pub before : List ℕ
  pub text : List ℕ
  pub count : ℕ
  pub bytes_are : bytes ≡ before ++ text
  pub is_before : IsBefore front before count
  pub breaks : Breaks front text rule
  pub number : line ≡ min (count + 1) (2 ^ 32 - 1)

-- with the line there are too many
abbrev pub Exceeds : Set → Option OpenEntry → Line → Count → Type 0
Exceeds set open_entry l Types = 20000 < length set.types + line_types l
Exceeds set open_entry l Parts = 40000 < part_count set + open_parts open_entry + line_parts l
Exceeds set open_entry l Variables = 20000 < variable_count set + line_variables l

-- the first line with which there are too many
pub record IsLimit (bytes : List ℕ) (which : Count) : Type 0 where
  pub set : Set
  pub open_entry : Option OpenEntry
  pub before : List ℕ
  pub text : List ℕ
  pub line : Line
  pub bytes_are : bytes ≡ before ++ text
  pub spells : SpellsBefore set open_entry before
  pub follows : may_follow set open_entry (kind_of_line line) ≡ true
  pub is_line : IsLine line
  pub whole : IsFirstLine (line_text (length set.types) line) text
  pub exceeds : Exceeds set open_entry line which

-- what a reader of layout files answers
abbrev pub IsReading : List ℕ → Result Set LayoutErr → Type 0
IsReading bytes (Ok set) = Spells set bytes
IsReading bytes (Err (BadLine line rule)) = IsFault bytes line rule
IsReading bytes (Err (Limit which)) = IsLimit bytes which
IsReading bytes (Err Memory) = Unit {0}

-- the file is read as the set, unless memory runs out
abbrev pub IsReadAs : List ℕ → Set → Type 0
IsReadAs bytes set = (r : Result Set LayoutErr) → IsReading bytes r → (r ≡ Ok set) ⊎ (r ≡ Err Memory)

-- each file spells a set, or has a fault
abbrev pub HaveReading : Type 0
HaveReading = (bytes : List ℕ) → (r : Result Set LayoutErr) × ((r ≢ Err Memory) × IsReading bytes r)

-- a file spells at most one set
abbrev pub SpellOne : Type 0
SpellOne = (a b : Set) (bytes : List ℕ) → Spells a bytes → Spells b bytes → a ≡ b

-- a file that spells a set has no fault
abbrev pub HaveNoFault : Type 0
HaveNoFault = (set : Set) (bytes : List ℕ) (e : LayoutErr) → Spells set bytes → IsReading bytes (Err e) → e ≡ Memory

-- a file has at most one fault
abbrev pub HaveOneFault : Type 0
HaveOneFault = (bytes : List ℕ) (e f : LayoutErr) → IsReading bytes (Err e) → IsReading bytes (Err f) → e ≢ Memory → f ≢ Memory → e ≡ f
