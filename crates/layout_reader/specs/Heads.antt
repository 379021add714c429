-- What the first two lines say. Private to the steps of reading.
use Rattle.std.specs.Prelude.{ℕ, ◌<◌, ◌⊎◌, if◌then◌else◌, List, Option, Some, None, Result, Ok, Err, codes}
use Rattle.std.specs.Option.{option_map}
use Rattle.std.specs.Str.{bytes_eq}
use Rattle.layout_words.specs.declared.slot.Slot.TheVariants as slots
use Rattle.layout_words.specs.Spellings.{Spelling, number}
use Rattle.layout_words.specs.Forms.{Form, cut, nothing, ◌·◌}
use Rattle.std.specs.Borrow.{Bor}
use Rattle.readers.specs.Lines.{Lacks, CutAt}
use Rattle.layout_reader.specs.declared.reader.Reading.{Reading}
use Rattle.layout_reader.specs.declared.layout_err.LayoutErr.{LayoutErr}
use Rattle.layout_lines.specs.Sets.{version_text, target_text}
use Rattle.layout_rules.specs.Faults.{Front, first, second}
use Rattle.layout_reader.specs.Progress.{Refuses, RefusesEnd, HasRead}
use Rattle.layout_reader.specs.Claims.{IsReading}

-- the first line of the bytes is refused, or the end of the file
abbrev pub RefusesFirst : Front → ℕ → List ℕ → LayoutErr → Type 0
RefusesFirst front count bytes e =
    ((line : List ℕ) × ((more : List ℕ) × (CutAt 10 bytes line more × Refuses front count line e))) ⊎ (Lacks 10 bytes × RefusesEnd count bytes e)

abbrev pub VersionRead : List ℕ → Result (Bor (List ℕ)) LayoutErr → Type 0
VersionRead bytes (Ok left) = CutAt 10 bytes version_text left.now
VersionRead bytes (Err e) = RefusesFirst first 0 bytes e

abbrev pub TargetRead : List ℕ → Result (ℕ × Bor (List ℕ)) LayoutErr → Type 0
TargetRead bytes (Ok p) = (p.0 < 256) × CutAt 10 bytes (target_text p.0) p.1.now
TargetRead bytes (Err e) = RefusesFirst second 1 bytes e

abbrev pub HeadRead : List ℕ → Result (Reading × Bor (List ℕ)) LayoutErr → Type 0
HeadRead bytes (Ok p) = HasRead bytes p.0 p.1.now
HeadRead bytes (Err e) = IsReading bytes (Err e)

-- the version of the form
abbrev pub version : Spelling (Unit {0})
version = record { text = λ _. codes "1"; of = λ text. if bytes_eq text (codes "1") then Some tt else None; Is = λ _. Unit {0}; slot = slots.Version }

abbrev pub version_form : Form (Unit {0} × Unit {0})
version_form = version · nothing

abbrev pub target_form : Form (ℕ × Unit {0})
target_form = number 8 · nothing

-- what such a line says behind this first word
abbrev pub behind_word : {A : Type 0} → List ℕ → Form A → List ℕ → Option A
behind_word word F line = if bytes_eq (cut line).0 word then F.of (cut line).1 else None

unfoldable pub version_of : List ℕ → Option (Unit {0})
version_of line = option_map (λ _. tt) (behind_word (codes "rdbg-layout") version_form line)

unfoldable pub target_of : List ℕ → Option ℕ
target_of line = option_map (λ p. p.0) (behind_word (codes "target") target_form line)
