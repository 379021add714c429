-- What the words and the files lead to: a status, an output and a message.
use Rattle.std.specs.Prelude.{◌≡◌, ℕ, nat_lt, List, [], ◌∷◌, length, Option, Some, None, Result, Ok, Err, codes, Bool, true, false}
use Rattle.std.specs.Bool.{Decides}
use Rattle.rv_io.specs.Files.{Files, file}
use Rattle.layout_set.specs.declared.func.Func.{Func}
use Rattle.layout_set.specs.declared.set.Set.{Set}
use Rattle.layout_set.specs.declared.breach.CheckErr.{CheckErr}
use Rattle.layout_set.specs.declared.breach.CheckErr.TheVariants as checks
use Rattle.layout_set.specs.FirstBreach.{Checked}
use Rattle.layout_set.specs.Laws.{laws}
use Rattle.layout_honest.specs.Honest.{IsHonest}
use Rattle.layout_reader.specs.declared.layout_err.LayoutErr.{LayoutErr}
use Rattle.layout_reader.specs.declared.layout_err.LayoutErr.TheVariants as layouts
use Rattle.layout_file.specs.Claims.{IsReading}
use Rattle.snapshot_file.specs.declared.snapshot.Snapshot.{Snapshot}
use Rattle.snapshot_file.specs.declared.fault.SnapErr.{SnapErr}
use Rattle.snapshot_file.specs.declared.fault.SnapErr.TheVariants as snaps
use Rattle.snapshot_file.specs.Claims as snapshots
use Rattle.layout_lines.specs.Sets.{layout_text}
use Rattle.layout_set.specs.declared.refusal.ReadErr.{ReadErr}
use Rattle.layout_set.specs.declared.refusal.ReadErr.TheVariants as refusals
use Rattle.bundle_file.specs.Files.{IsBundleFile}
use Rattle.bundle_file.specs.declared.sections.Bundle.{Bundle}
use Rattle.bundle_file.specs.declared.sections.DwarfSections.{DwarfSections}
use Rattle.dwarf_info.specs.Reads.{DescribeSet}
use Rattle.bundle_reader.specs.Readings as bundles
use Rattle.dbg_command.specs.Forms.{Form, LayoutCommand, BundleCommand, layout, bundle, check, text, emit, show, print, form_of}
use Rattle.dbg_command.specs.Stops.{line, number_line, numbers_line, count_word, breach_line, outside_line}
use Rattle.dbg_command.specs.Lines.{Prints}

-- a status, an output and a message
abbrev pub Ending : Type 1
Ending = ℕ → List ℕ → List ℕ → Type 0

-- a status without output, and its message
abbrev pub Refuses : ℕ → List ℕ → Ending
Refuses code said status output message = (status ≡ code) × (output ≡ []) × (message ≡ said)

-- status 0, and this output
abbrev pub Puts : List ℕ → Ending
Puts whole status output message = (status ≡ 0) × (output ≡ whole) × (message ≡ [])

-- the file is no longer than its limit, and is read further
abbrev pub WithinLimit : List ℕ → Bool → Ending → Ending
WithinLimit name true Next = Refuses 1 (line (codes "rdbg: too many bytes ") name)
WithinLimit name false Next = Next

-- the file is there, within its limit, and is read further
abbrev pub WithFile : List ℕ → ℕ → (List ℕ → Ending) → Option (List ℕ) → Ending
WithFile name limit Next None = Refuses 1 (line (codes "rdbg: cannot open ") name)
WithFile name limit Next (Some bytes) = WithinLimit name (nat_lt limit (length bytes)) (Next bytes)

-- what the bytes of a snapshot are: the one snapshot that they spell, or the first fault
abbrev pub IsSnapshotRead : List ℕ → Result Snapshot SnapErr → Type 0
IsSnapshotRead bytes result = snapshots.IsReading bytes result

-- the printed lines over the snapshot, or its first fault
abbrev pub OfSnapshot : Set → ℕ → ℕ → Result Snapshot SnapErr → Ending
OfSnapshot set depth width (Ok snap) status output message = (status ≡ 0) × Prints set depth width snap output × (message ≡ [])
OfSnapshot set depth width (Err (snaps.BadLine n rule)) status output message = Refuses 1 (numbers_line (codes "rdbg: snapshot line ") n (codes " rule ") rule) status output message
OfSnapshot set depth width (Err (snaps.Overlap n)) status output message = Refuses 1 (number_line (codes "rdbg: snapshot overlap ") n []) status output message
OfSnapshot set depth width (Err snaps.Memory) status output message = ⊥

-- the bytes of the second file
abbrev pub WithSnapshot : Set → ℕ → ℕ → List ℕ → Ending
WithSnapshot set depth width bytes status output message = (r : Result Snapshot SnapErr) × IsSnapshotRead bytes r × OfSnapshot set depth width r status output message

-- the second file has at most 64 MiB
abbrev pub OfText : Set → ℕ → ℕ → List ℕ → Files → Ending
OfText set depth width snapshot files = WithFile snapshot 67108864 (WithSnapshot set depth width) (file files snapshot)

abbrev pub honesty_text : Bool → List ℕ
honesty_text true = codes "lawful\nhonest yes\n"
honesty_text false = codes "lawful\nhonest no\n"

-- whether the set is honest
abbrev pub OfCheck : Set → Ending
OfCheck set status output message = (honest : Bool) × Decides honest (IsHonest set) × Puts (honesty_text honest) status output message

-- a bundle file of DWARF sections, which describe the set
abbrev pub IsEmitted : Set → List ℕ → Type 0
IsEmitted set file = (s : DwarfSections) × IsBundleFile file (Bundle.Dwarf s) × DescribeSet s set

-- any such file is an answer; of functions none are written yet
abbrev pub OfEmit : Set → List Func → Ending
OfEmit set [] status output message = (status ≡ 0) × IsEmitted set output × (message ≡ [])
OfEmit set (f ∷ funcs) status output message = Refuses 1 (line (codes "rdbg: not yet") []) status output message

-- what is answered of a lawful set
abbrev pub OfLawful : LayoutCommand → Files → Set → Ending
OfLawful check files set = OfCheck set
OfLawful (text p) files set = OfText set p.depth p.width p.snapshot files
OfLawful emit files set = OfEmit set set.funcs

-- the set is lawful, or its first breach is told
abbrev pub OfLaws : LayoutCommand → Files → Set → Result (Unit {0}) CheckErr → Ending
OfLaws command files set (Ok t) status output message = OfLawful command files set status output message
OfLaws command files set (Err (checks.Breach law at)) status output message = Refuses 1 (breach_line law at) status output message
OfLaws command files set (Err checks.Memory) status output message = ⊥

-- the set of a layout
abbrev pub OfSet : LayoutCommand → Files → Set → Ending
OfSet command files set status output message = (r : Result (Unit {0}) CheckErr) × Checked set (laws set) r × OfLaws command files set r status output message

-- the file spells a set, or its first fault is told
abbrev pub OfRead : LayoutCommand → Files → Result Set LayoutErr → Ending
OfRead command files (Ok set) status output message = OfSet command files set status output message
OfRead command files (Err (layouts.BadLine n rule)) status output message = Refuses 1 (numbers_line (codes "rdbg: layout line ") n (codes " rule ") rule) status output message
OfRead command files (Err (layouts.Limit which)) status output message = Refuses 1 (line (codes "rdbg: layout limit ") (count_word which)) status output message
OfRead command files (Err layouts.Memory) status output message = ⊥

-- the bytes of a layout
abbrev pub OfLayout : LayoutCommand → Files → List ℕ → Ending
OfLayout command files bytes status output message = (r : Result Set LayoutErr) × IsReading bytes r × OfRead command files r status output message

-- what is answered of the set that a bundle describes; it is sound, and no more is asked of it
abbrev pub OfDescribed : BundleCommand → Files → Set → Ending
OfDescribed show files set = Puts (layout_text set)
OfDescribed (print p) files set = OfText set p.depth p.width p.snapshot files

-- the bundle describes a set, or the first rule that it breaks is told
abbrev pub OfSections : BundleCommand → Files → Result Set ReadErr → Ending
OfSections command files (Ok set) status output message = OfDescribed command files set status output message
OfSections command files (Err (refusals.Refused refusal)) status output message = Refuses 1 (outside_line refusal) status output message
OfSections command files (Err refusals.Memory) status output message = ⊥

-- the bytes of a bundle
abbrev pub OfBundle : BundleCommand → Files → List ℕ → Ending
OfBundle command files bytes status output message = (r : Result Set ReadErr) × bundles.IsReading bytes r × OfSections command files r status output message

-- a layout has at most 16 MiB, a bundle 512 MiB
abbrev pub OfForm : Option Form → Files → Ending
OfForm None files = Refuses 2 (line (codes "rdbg: usage") [])
OfForm (Some (layout name command)) files = WithFile name 16777216 (OfLayout command files) (file files name)
OfForm (Some (bundle name command)) files = WithFile name 536870912 (OfBundle command files) (file files name)

abbrev pub Answers : List (List ℕ) → Files → Ending
Answers words files = OfForm (form_of words) files
