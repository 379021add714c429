-- Words and files have at most one status and message, and one output, up to the bundle that `emit` writes.
use Rattle.std.proofs.Common.{◌≡◌, ◌⊎◌, inl, inr, ℕ, nat_lt, List, [], ◌∷◌, length, Bool, true, false, Decides, Option, Some, None, Result, Ok, Err, refl, sym, ap, subst, ◌∙◌, codes}
use Rattle.std.specs.Bool.{one_answer}
use Rattle.rv_io.specs.Files.{Files, file}
use Rattle.layout_set.specs.declared.func.Func.{Func}
use Rattle.layout_set.specs.declared.set.Set.{Set}
use Rattle.layout_set.specs.declared.breach.CheckErr.{CheckErr}
use Rattle.layout_set.specs.declared.breach.CheckErr.TheVariants as checks
use Rattle.layout_set.specs.Laws.{laws}
use Rattle.layout_honest.specs.Honest.{IsHonest}
use Rattle.layout_values.specs.Outcomes.{OneValue}
use Rattle.layout_reader.specs.declared.layout_err.LayoutErr.{LayoutErr}
use Rattle.layout_reader.specs.declared.layout_err.LayoutErr.TheVariants as layout_errs
use Rattle.layout_file.specs.Claims as layouts
use Rattle.snapshot_file.specs.declared.snapshot.Snapshot.{Snapshot}
use Rattle.snapshot_file.specs.declared.fault.SnapErr.{SnapErr}
use Rattle.snapshot_file.specs.declared.fault.SnapErr.TheVariants as snap_errs
use Rattle.snapshot_file.specs.Claims as snapshots
use Rattle.snapshot_file.specs.Snapshots.{OneSnapshot}
use Rattle.layout_lines.specs.Sets.{layout_text}
use Rattle.layout_set.specs.declared.refusal.ReadErr.{ReadErr}
use Rattle.layout_set.specs.declared.refusal.ReadErr.TheVariants as refusals
use Rattle.bundle_file.specs.declared.sections.Bundle.{Bundle}
use Rattle.bundle_reader.specs.Readings as bundles
use Rattle.dbg_command.specs.Forms.{Form, LayoutCommand, BundleCommand, layout, bundle, check, text, emit, show, print, form_of}
use Rattle.dbg_command.specs.Stops.{line, number_line, numbers_line, count_word, breach_line}
use Rattle.dbg_command.specs.Answers.{Ending, Refuses, Puts, WithinLimit, WithFile, OfSnapshot, WithSnapshot, OfText, honesty_text, OfCheck, IsEmitted, OfEmit, OfLawful, OfLaws, OfSet, OfRead, OfLayout, OfDescribed, OfSections, OfBundle, OfForm}
use Rattle.dbg_command.specs.OneEnding.{OneEnding, DescribeOneSet, IsOneOfLayout, IsOneOutput}
use Rattle.dbg_command.proofs.OneReading.{OneBreach, one_layout, one_snapshot, one_bundle, one_check}
use Rattle.dbg_command.proofs.OnePrint.{one_print}

-- the theorems of the crates below, on which it rests
pub record Below : Type 0 where
  pub one_set : layouts.SpellOne
  pub layout_spelled : layouts.HaveNoFault
  pub layout_fault : layouts.HaveOneFault
  pub one_snapshot : OneSnapshot
  pub snapshot_spelled : snapshots.HaveNoFault
  pub snapshot_fault : snapshots.HaveOneFault
  pub one_bundle : bundles.HaveOneReading
  pub one_value : OneValue
  pub one_breach : (set : Set) → OneBreach set (laws set)

abbrev IsOne : Ending → Type 0
IsOne E = (status code : ℕ) (output text message said : List ℕ) → E status output message → E code text said → (status ≡ code) × (output ≡ text) × (message ≡ said)

refuses : (code : ℕ) (said : List ℕ) → IsOne (Refuses code said)
refuses code said s t o p m n h g = (h.0 ∙ sym g.0, h.1 ∙ sym g.1, h.2 ∙ sym g.2)

puts : (whole : List ℕ) → IsOne (Puts whole)
puts whole s t o p m n h g = (h.0 ∙ sym g.0, h.1 ∙ sym g.1, h.2 ∙ sym g.2)

within : (name : List ℕ) (long : Bool) (E : Ending) → IsOne E → IsOne (WithinLimit name long E)
within name true E one = refuses 1 (line (codes "rdbg: too many bytes ") name)
within name false E one = one

with_file : (name : List ℕ) (limit : ℕ) (Next : List ℕ → Ending) (found : Option (List ℕ)) → ((bytes : List ℕ) → IsOne (Next bytes)) → IsOne (WithFile name limit Next found)
with_file name limit Next None one = refuses 1 (line (codes "rdbg: cannot open ") name)
with_file name limit Next (Some bytes) one = within name (nat_lt limit (length bytes)) (Next bytes) (one bytes)

of_snapshot : Below → (set : Set) (depth width : ℕ) (r : Result Snapshot SnapErr) → IsOne (OfSnapshot set depth width r)
of_snapshot B set depth width (Ok snap) s t o p m n h g = (h.0 ∙ sym g.0, one_print B.one_value set depth width snap o p h.1 g.1, h.2 ∙ sym g.2)
of_snapshot B set depth width (Err (snap_errs.BadLine l rule)) s t o p m n h g = refuses 1 _ s t o p m n h g
of_snapshot B set depth width (Err (snap_errs.Overlap l)) s t o p m n h g = refuses 1 _ s t o p m n h g
of_snapshot B set depth width (Err snap_errs.Memory) s t o p m n h g = absurd h

with_snapshot : Below → (set : Set) (depth width : ℕ) (bytes : List ℕ) → IsOne (WithSnapshot set depth width bytes)
with_snapshot B set depth width bytes s t o p m n h g =
    let same : g.0 ≡ h.0 = one_snapshot B.one_snapshot B.snapshot_spelled B.snapshot_fault bytes g.0 h.0 g.1 h.1
    (λ e. subst (λ r. OfSnapshot set depth width r t p n) e g.2) (λ e. subst (λ r. OfSnapshot set depth width r s o m) e h.2) in
    of_snapshot B set depth width h.0 s t o p m n h.2 (subst (λ r. OfSnapshot set depth width r t p n) same g.2)

of_check : (set : Set) → IsOne (OfCheck set)
of_check set s t o p m n h g =
    let same : g.0 ≡ h.0 = one_answer g.0 h.0 g.1 h.1 in
    puts (honesty_text h.0) s t o p m n h.2 (subst (λ honest. Puts (honesty_text honest) t p n) same g.2)

of_text : Below → (set : Set) (depth width : ℕ) (snapshot : List ℕ) (files : Files) → IsOne (OfText set depth width snapshot files)
of_text B set depth width snapshot files = with_file snapshot 67108864 (WithSnapshot set depth width) (file files snapshot) (with_snapshot B set depth width)

-- the same, where the outputs of the command are one
abbrev IsOneFor : LayoutCommand → Ending → Type 0
IsOneFor command E = (status code : ℕ) (output text message said : List ℕ) → E status output message → E code text said
    → (status ≡ code) × IsOneOfLayout command output text × (message ≡ said)

equal_is_one : (command : LayoutCommand) (a b : List ℕ) → a ≡ b → IsOneOfLayout command a b
equal_is_one check a b e = e
equal_is_one (text p) a b e = e
equal_is_one emit a b e = inl e

one_for : (command : LayoutCommand) (E : Ending) → IsOne E → IsOneFor command E
one_for command E one s t o p m n h g = let same = one s t o p m n h g in (same.0, equal_is_one command o p same.1, same.2)

within_for : (command : LayoutCommand) (name : List ℕ) (long : Bool) (E : Ending) → IsOneFor command E → IsOneFor command (WithinLimit name long E)
within_for command name true E one = one_for command (Refuses 1 (line (codes "rdbg: too many bytes ") name)) (refuses 1 (line (codes "rdbg: too many bytes ") name))
within_for command name false E one = one

with_file_for : (command : LayoutCommand) (name : List ℕ) (limit : ℕ) (Next : List ℕ → Ending) (found : Option (List ℕ)) → ((bytes : List ℕ) → IsOneFor command (Next bytes))
    → IsOneFor command (WithFile name limit Next found)
with_file_for command name limit Next None one = one_for command (Refuses 1 (line (codes "rdbg: cannot open ") name)) (refuses 1 (line (codes "rdbg: cannot open ") name))
with_file_for command name limit Next (Some bytes) one = within_for command name (nat_lt limit (length bytes)) (Next bytes) (one bytes)

described : (set : Set) (file : List ℕ) → IsEmitted set file → bundles.DescribesSet file set
described set file h = (Bundle.Dwarf h.0, h.1, h.2)

of_emit : (set : Set) (funcs : List Func) → IsOneFor emit (OfEmit set funcs)
of_emit set [] s t o p m n h g = (h.0 ∙ sym g.0, inr (set, described set o h.1, described set p g.1), h.2 ∙ sym g.2)
of_emit set (f ∷ funcs) s t o p m n h g = one_for emit (Refuses 1 (line (codes "rdbg: not yet") [])) (refuses 1 (line (codes "rdbg: not yet") [])) s t o p m n h g

of_lawful : Below → (command : LayoutCommand) (files : Files) (set : Set) → IsOneFor command (OfLawful command files set)
of_lawful B check files set = of_check set
of_lawful B (text p) files set = of_text B set p.depth p.width p.snapshot files
of_lawful B emit files set = of_emit set set.funcs

of_laws : Below → (command : LayoutCommand) (files : Files) (set : Set) (r : Result (Unit {0}) CheckErr) → IsOneFor command (OfLaws command files set r)
of_laws B command files set (Ok u) s t o p m n h g = of_lawful B command files set s t o p m n h g
of_laws B command files set (Err (checks.Breach law at)) s t o p m n h g = one_for command (Refuses 1 (breach_line law at)) (refuses 1 (breach_line law at)) s t o p m n h g
of_laws B command files set (Err checks.Memory) s t o p m n h g = absurd h

of_set : Below → (command : LayoutCommand) (files : Files) (set : Set) → IsOneFor command (OfSet command files set)
of_set B command files set s t o p m n h g =
    let same : g.0 ≡ h.0 = one_check set (laws set) (B.one_breach set) g.0 h.0 g.1 h.1
    (λ e. subst (λ r. OfLaws command files set r t p n) e g.2) (λ e. subst (λ r. OfLaws command files set r s o m) e h.2) in
    of_laws B command files set h.0 s t o p m n h.2 (subst (λ r. OfLaws command files set r t p n) same g.2)

of_read : Below → (command : LayoutCommand) (files : Files) (r : Result Set LayoutErr) → IsOneFor command (OfRead command files r)
of_read B command files (Ok set) s t o p m n h g = of_set B command files set s t o p m n h g
of_read B command files (Err (layout_errs.BadLine l rule)) s t o p m n h g = let same = refuses 1 _ s t o p m n h g in (same.0, equal_is_one command o p same.1, same.2)
of_read B command files (Err (layout_errs.Limit which)) s t o p m n h g = let same = refuses 1 _ s t o p m n h g in (same.0, equal_is_one command o p same.1, same.2)
of_read B command files (Err layout_errs.Memory) s t o p m n h g = absurd h

of_layout : Below → (command : LayoutCommand) (files : Files) (bytes : List ℕ) → IsOneFor command (OfLayout command files bytes)
of_layout B command files bytes s t o p m n h g =
    let same : g.0 ≡ h.0 = one_layout B.one_set B.layout_spelled B.layout_fault bytes g.0 h.0 g.1 h.1
    (λ e. subst (λ r. OfRead command files r t p n) e g.2) (λ e. subst (λ r. OfRead command files r s o m) e h.2) in
    of_read B command files h.0 s t o p m n h.2 (subst (λ r. OfRead command files r t p n) same g.2)

of_described : Below → (command : BundleCommand) (files : Files) (set : Set) → IsOne (OfDescribed command files set)
of_described B show files set = puts (layout_text set)
of_described B (print p) files set = of_text B set p.depth p.width p.snapshot files

of_sections : Below → (command : BundleCommand) (files : Files) (r : Result Set ReadErr) → IsOne (OfSections command files r)
of_sections B command files (Ok set) s t o p m n h g = of_described B command files set s t o p m n h g
of_sections B command files (Err (refusals.Refused refusal)) s t o p m n h g = refuses 1 _ s t o p m n h g
of_sections B command files (Err refusals.Memory) s t o p m n h g = absurd h

of_bundle : Below → (command : BundleCommand) (files : Files) (bytes : List ℕ) → IsOne (OfBundle command files bytes)
of_bundle B command files bytes s t o p m n h g =
    let same : g.0 ≡ h.0 = one_bundle B.one_bundle bytes g.0 h.0 g.1 h.1
    (λ e. subst (λ r. OfSections command files r t p n) e g.2) (λ e. subst (λ r. OfSections command files r s o m) e h.2) in
    of_sections B command files h.0 s t o p m n h.2 (subst (λ r. OfSections command files r t p n) same g.2)

of_form : Below → (form : Option Form) (files : Files) (status code : ℕ) (output text message said : List ℕ) → OfForm form files status output message → OfForm form files code text said
    → (status ≡ code) × IsOneOutput form output text × (message ≡ said)
of_form B None files = refuses 2 (line (codes "rdbg: usage") [])
of_form B (Some (layout name command)) files = with_file_for command name 16777216 (OfLayout command files) (file files name) (of_layout B command files)
of_form B (Some (bundle name command)) files = with_file name 536870912 (OfBundle command files) (file files name) (of_bundle B command files)

pub one_ending : Below → OneEnding
one_ending B words files s t o p m n h g = of_form B (form_of words) files s t o p m n h g
