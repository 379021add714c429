-- The parts of a bundle file, each with the one rule that it may break.
use Rattle.std.specs.Prelude.{◌≡◌, ℕ, ◌==◌, ◌||◌, if◌then◌else◌, List, length, Option, Some, None}
use Rattle.std.specs.Str.{bytes_eq}
use Rattle.rv_bytes.specs.Forms.{Form, follow, item}
use Rattle.rv_bytes.specs.Numbers.{bytes, number}
use Rattle.bundle_file.specs.Rules.{bad_header, bad_contents}
use Rattle.bundle_file.specs.declared.sections.Format.{Format}

-- the same form; whatever is invalid in it breaks this rule
abbrev pub ruled : {M A : Type 0} → ℕ → Form M A → Form M A
ruled rule F = record {
  spells = F.spells;
  faults = λ n s r m. (r ≡ rule) × ((q : ℕ) × F.faults n s q m);
}

-- the rule that bytes break which are not this word
abbrev pub unless_word : ℕ → List ℕ → List ℕ → Option ℕ
unless_word rule word v = if bytes_eq v word then None else Some rule

-- this word; other bytes, or too few, break the rule where they begin
abbrev pub exactly : ℕ → List ℕ → Form ℕ (List ℕ)
exactly rule word = ruled rule (item (bytes (length word)) (unless_word rule word))

-- the number of a format
abbrev pub number_of : Format → ℕ
number_of Format.Dwarf = 1
number_of Format.CodeView = 2

-- the rule that the number of no format breaks
abbrev pub unless_format : ℕ → Option ℕ
unless_format n = if n == 1 || n == 2 then None else Some bad_header

-- the number of a format, in one byte
abbrev pub format : Form ℕ ℕ
format = ruled bad_header (item (number 1) unless_format)

-- no value breaks a rule by itself
abbrev pub any_value : {A : Type 0} → A → Option ℕ
any_value v = None

-- an address, in eight bytes
abbrev pub base : Form ℕ ℕ
base = ruled bad_contents (number 8)

-- the length of a section in four bytes, and as many bytes as it says: one item, which begins at the length
abbrev pub section : Form ℕ (List ℕ)
section = ruled bad_contents (item (follow (number 4) bytes) any_value)
