-- How far a layout file was read. Private to the steps of reading: what they come to is in `Claims.antt`.
use Rattle.std.specs.Prelude.{◌≡◌, ◌≢◌, ℕ, ◌+◌, ◌-◌, ◌^◌, min, Bool, true, false, List, [], ◌++◌, length, Option, Some, None, IfSome, IsSome, Result, Ok, Err}
use Rattle.layout_set.specs.Counts.{part_count, variable_count}
use Rattle.layout_set.specs.declared.set.Set.{Set}
use Rattle.layout_lines.specs.declared.open_entry.OpenEntry.{OpenEntry}
use Rattle.layout_lines.specs.declared.line.Line.{Line}
use Rattle.layout_reader.specs.declared.layout_err.Count.{Count}
use Rattle.layout_reader.specs.declared.reader.Reading.{Reading}
use Rattle.layout_reader.specs.declared.layout_err.LayoutErr.{LayoutErr}
use Rattle.layout_reader.specs.declared.layout_err.LayoutErr.TheVariants.{BadLine, Limit, Memory}
use Rattle.layout_builder.specs.Additions.{added}
use Rattle.layout_lines.specs.Lines.{line_text, kind_of_line, IsLine}
use Rattle.layout_lines.specs.Sets.{lines_before, text_before, IsSpellable, IsOpenEntry, IsBoundedBefore, open_parts, may_follow}
use Rattle.layout_rules.specs.Faults.{Front, behind}
use Rattle.layout_rules.specs.LineRules.{rule_of}
use Rattle.layout_reader.specs.Claims.{Exceeds}

abbrev pub line_number : ℕ → ℕ
line_number count = min (count + 1) (2 ^ 32 - 1)

-- the set and the entry that stands open are spelled and not too large, and the counts beside them are their own
pub record IsState (r : Reading) : Type 0 where
  pub items : IsSpellable r.set
  pub entry : IfSome r.open_entry (IsOpenEntry r.set)
  pub bounded : IsBoundedBefore r.set r.open_entry
  pub parts : r.parts ≡ part_count r.set + open_parts r.open_entry
  pub variables : r.variables ≡ variable_count r.set
  pub lines : r.lines ≡ min (2 + length (lines_before r.set r.open_entry)) (2 ^ 32 - 1)

-- why a whole line behind so many is refused
abbrev pub Refuses : Front → ℕ → List ℕ → LayoutErr → Type 0
Refuses front count line (BadLine n rule) = (rule_of front line ≡ Some rule) × (n ≡ line_number count)
Refuses front count line (Limit which) = ⊥
Refuses front count line Memory = Unit {0}

-- why bytes behind the last of so many lines are refused
abbrev pub RefusesEnd : ℕ → List ℕ → LayoutErr → Type 0
RefusesEnd count rest (BadLine n rule) = (n ≡ line_number count) × ((rest ≡ [] → rule ≡ 2) × (rest ≢ [] → rule ≡ 1))
RefusesEnd count rest _ = ⊥

-- the line may follow the set and the entry that stands open, and makes too many of something
pub record TooMany (set : Set) (open_entry : Option OpenEntry) (text : List ℕ) (which : Count) : Type 0 where
  pub line : Line
  pub text_is : text ≡ line_text (length set.types) line
  pub follows : may_follow set open_entry (kind_of_line line) ≡ true
  pub is_line : IsLine line
  pub exceeds : Exceeds set open_entry line which

abbrev pub RefusesLine : Reading → List ℕ → LayoutErr → Type 0
RefusesLine r text (Limit which) = TooMany r.set r.open_entry text which
RefusesLine r text e = Refuses (behind r.set r.open_entry) r.lines text e

-- the set and the entry that stands open with the line that has this text
pub record Goes (r : Reading) (text : List ℕ) (s : Reading) : Type 0 where
  pub line : Line
  pub text_is : text ≡ line_text (length r.set.types) line
  pub follows : may_follow r.set r.open_entry (kind_of_line line) ≡ true
  pub is_line : IsLine line
  pub draft_is : (s.set, s.open_entry) ≡ added r.set r.open_entry line
  pub state : IsState s

abbrev pub GoesOn : Reading → List ℕ → Result Reading LayoutErr → Type 0
GoesOn r text (Ok s) = Goes r text s
GoesOn r text (Err e) = RefusesLine r text e

abbrev pub Adds : Reading → Line → Result Reading LayoutErr → Type 0
Adds r line (Ok s) = ((s.set, s.open_entry) ≡ added r.set r.open_entry line) × IsState s
Adds r line (Err (Limit which)) = Exceeds r.set r.open_entry line which
Adds r line (Err Memory) = Unit {0}
Adds r line (Err _) = ⊥

-- the text of the set and of the entry that stands open, and what is left, make the file
abbrev pub HasRead : List ℕ → Reading → List ℕ → Type 0
HasRead bytes r left = IsState r × (bytes ≡ text_before r.set r.open_entry ++ left)

-- what there are too many of with the line, or nothing
abbrev pub IsExceeded : Reading → Line → Option Count → Type 0
IsExceeded r line (Some which) = IsState r → Exceeds r.set r.open_entry line which
IsExceeded r line None = IsState r → (which : Count) → Exceeds r.set r.open_entry line which → ⊥

-- whether the file may end before these bytes: nothing is left, and nothing stands open
abbrev pub Ends : Reading → List ℕ → Bool → Type 0
Ends r rest true = (rest ≡ []) × (r.open_entry ≡ None)
Ends r rest false = rest ≡ [] → IsSome r.open_entry
