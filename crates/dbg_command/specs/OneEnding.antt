-- Words and files lead to one ending, up to the bundle that `emit` writes, and accepted files are answered.
use Rattle.std.specs.Prelude.{◌≡◌, ◌⊎◌, ℕ, ◌≤◌, List, [], length, Option, Some, IsSome}
use Rattle.rv_io.specs.Faults.{Rose}
use Rattle.rv_io.specs.Files.{Files, file}
use Rattle.layout_set.specs.declared.set.Set.{Set}
use Rattle.layout_set.specs.Laws.{IsLawful}
use Rattle.layout_file.specs.Sets as layouts
use Rattle.snapshot_file.specs.declared.snapshot.Snapshot.{Snapshot}
use Rattle.snapshot_file.specs.Snapshots as snapshots
use Rattle.bundle_reader.specs.Readings.{DescribesSet}
use Rattle.dbg_command.specs.Forms.{Form, LayoutCommand, BundleCommand, layout, bundle, check, text, emit, show, print, form_of}
use Rattle.dbg_command.specs.Answers.{Answers}
use Rattle.dbg_command.specs.Runs.{Ends}

-- two bundles that describe one set
abbrev pub DescribeOneSet : List ℕ → List ℕ → Type 0
DescribeOneSet a b = (set : Set) × DescribesSet a set × DescribesSet b set

-- whether two outputs of a command over a layout are one: of `emit` also bundles that describe one set are
abbrev pub IsOneOfLayout : LayoutCommand → List ℕ → List ℕ → Type 0
IsOneOfLayout check a b = a ≡ b
IsOneOfLayout (text p) a b = a ≡ b
IsOneOfLayout emit a b = (a ≡ b) ⊎ DescribeOneSet a b

-- whether two outputs are one
abbrev pub IsOneOutput : Option Form → List ℕ → List ℕ → Type 0
IsOneOutput (Some (layout name command)) a b = IsOneOfLayout command a b
IsOneOutput _ a b = a ≡ b

-- words and files have at most one status, output and message
abbrev pub OneEnding : Type 0
OneEnding = (words : List (List ℕ)) (files : Files) (status code : ℕ) (output text message said : List ℕ)
    → Answers words files status output message → Answers words files code text said
    → (status ≡ code) × IsOneOutput (form_of words) output text × (message ≡ said)

-- the words are those of `emit`
abbrev pub AsksBundle : Option Form → Type 0
AsksBundle (Some (layout name emit)) = Unit {0}
AsksBundle _ = ⊥

-- there are no words and files that have none, those of `emit` aside
abbrev pub SomeEnding : Type 0
SomeEnding = (words : List (List ℕ)) (files : Files) → ¬ (AsksBundle (form_of words)) → ((status : ℕ) (output message : List ℕ) → Answers words files status output message → ⊥) → ⊥

-- the file is there and within its limit, and `Is` holds of its bytes
abbrev pub IsGiven : Files → List ℕ → ℕ → (List ℕ → Type 0) → Type 0
IsGiven files name limit Is = (bytes : List ℕ) × (file files name ≡ Some bytes) × (length bytes ≤ limit) × Is bytes

-- the command has an answer of this lawful set: `emit` has none yet where there are functions
abbrev pub IsAnswered : LayoutCommand → Set → Type 0
IsAnswered emit set = set.funcs ≡ []
IsAnswered _ set = Unit {0}

-- the bytes are the text of a lawful set, of which the command has an answer
abbrev pub SpellsLawful : LayoutCommand → List ℕ → Type 0
SpellsLawful command bytes = (set : Set) × layouts.Spells set bytes × IsLawful set × IsAnswered command set

-- the bytes are the text of a snapshot
abbrev pub SpellsSnapshot : List ℕ → Type 0
SpellsSnapshot bytes = (snapshot : Snapshot) × snapshots.Spells bytes snapshot

-- the bytes are a bundle that describes a set
abbrev pub IsDescription : List ℕ → Type 0
IsDescription bytes = (set : Set) × DescribesSet bytes set

-- the second file of the command, where it has one, is there, within its limit, and accepted
abbrev pub IsLayoutAccepted : Files → LayoutCommand → Type 0
IsLayoutAccepted files (text p) = IsGiven files p.snapshot 67108864 SpellsSnapshot
IsLayoutAccepted files _ = Unit {0}

abbrev pub IsBundleAccepted : Files → BundleCommand → Type 0
IsBundleAccepted files show = Unit {0}
IsBundleAccepted files (print p) = IsGiven files p.snapshot 67108864 SpellsSnapshot

-- each file of the command is there, within its limit, and accepted
abbrev pub IsAccepted : Files → Form → Type 0
IsAccepted files (layout name command) = IsGiven files name 16777216 (SpellsLawful command) × IsLayoutAccepted files command
IsAccepted files (bundle name command) = IsGiven files name 536870912 IsDescription × IsBundleAccepted files command

-- on accepted files a run in which neither a read nor a write failed ends with 0, or out of memory
abbrev pub AcceptedAreAnswered : Type 0
AcceptedAreAnswered = (words : List (List ℕ)) (form : Form) (files : Files) (reads_before reads_now writes_before writes_now code : ℕ) (output message : List ℕ)
    → form_of words ≡ Some form → IsAccepted files form
    → Ends (IsSome (form_of words)) (Some files) (Answers words) reads_before reads_now writes_before writes_now code output message
    → (Rose reads_before reads_now → ⊥) → (Rose writes_before writes_now → ⊥)
    → (code ≡ 0) ⊎ (code ≡ 5)
