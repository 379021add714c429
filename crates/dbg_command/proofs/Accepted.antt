-- Accepted files are answered with status 0.
use Rattle.std.proofs.Common.{◌≡◌, ◌⊎◌, inl, inr, ℕ, ◌<◌, ◌≤◌, List, [], length, Bool, true, false, nat_lt, Option, Some, None, Result, Ok, Err, refl, sym, ap, subst, ◌∙◌, arith, IsSome, lit≤}
use Rattle.std.proofs.lemmas.Bool.{cases_lt}
use Rattle.std.proofs.lemmas.Bool.Decides.{nat_tests}
use Rattle.rv_io.specs.Faults.{Rose}
use Rattle.rv_io.specs.Files.{Files, file}
use Rattle.layout_set.specs.declared.func.Func.{Func}
use Rattle.layout_set.specs.declared.set.Set.{Set}
use Rattle.layout_set.specs.declared.breach.CheckErr.{CheckErr}
use Rattle.layout_set.specs.declared.breach.CheckErr.TheVariants as checks
use Rattle.layout_set.specs.Laws.{laws, IsLawful}
use Rattle.layout_reader.specs.declared.layout_err.LayoutErr.{LayoutErr}
use Rattle.layout_reader.specs.declared.layout_err.LayoutErr.TheVariants as layout_errs
use Rattle.layout_file.specs.Claims as layouts
use Rattle.snapshot_file.specs.declared.snapshot.Snapshot.{Snapshot}
use Rattle.snapshot_file.specs.declared.fault.SnapErr.{SnapErr}
use Rattle.snapshot_file.specs.declared.fault.SnapErr.TheVariants as snap_errs
use Rattle.snapshot_file.specs.Claims as snapshots
use Rattle.layout_set.specs.declared.refusal.ReadErr.{ReadErr}
use Rattle.layout_set.specs.declared.refusal.ReadErr.TheVariants as refusals
use Rattle.bundle_reader.specs.Readings as bundles
use Rattle.dbg_command.specs.Forms.{Form, LayoutCommand, BundleCommand, layout, bundle, check, text, emit, show, print, form_of}
use Rattle.dbg_command.specs.Answers.{Ending, WithinLimit, WithFile, OfSnapshot, WithSnapshot, OfCheck, OfEmit, OfText, OfLawful, OfLaws, OfSet, OfRead, OfLayout, OfDescribed, OfSections, OfBundle, OfForm, Answers}
use Rattle.dbg_command.specs.OneEnding.{IsGiven, IsAnswered, SpellsSnapshot, IsLayoutAccepted, IsBundleAccepted, IsAccepted, AcceptedAreAnswered}
use Rattle.dbg_command.specs.Runs.{Ends}
use Rattle.dbg_command.proofs.OneReading.{one_layout, one_snapshot, one_bundle, one_check}
use Rattle.dbg_command.proofs.OneEnding.{Below}

-- every ending of this kind has status 0
abbrev IsDone : Ending → Type 0
IsDone E = (status : ℕ) (output message : List ℕ) → E status output message → status ≡ 0

within : (name : List ℕ) (long : Bool) (E : Ending) → long ≡ false → IsDone E → IsDone (WithinLimit name long E)
within name true E short done = absurd (grind (arith, short))
within name false E short done = done

with_file : (name : List ℕ) (limit : ℕ) (Next : List ℕ → Ending) (found : Option (List ℕ)) (bytes : List ℕ) → found ≡ Some bytes → length bytes ≤ limit → IsDone (Next bytes) → IsDone (WithFile name limit Next found)
with_file name limit Next found bytes is short done =
    let fits : nat_lt limit (length bytes) ≡ false = grind (arith, nat_tests, short) in
    subst (λ o. IsDone (WithFile name limit Next o)) (sym is) (within name (nat_lt limit (length bytes)) (Next bytes) fits done)

-- a result that is no error
abbrev IsOkay : {A E : Type 0} → Result A E → Type 0
IsOkay (Ok a) = Unit {0}
IsOkay (Err e) = ⊥

module _ (B : Below) where
  with_snapshot : (set : Set) (depth width : ℕ) (bytes : List ℕ) → SpellsSnapshot bytes → IsDone (WithSnapshot set depth width bytes)
  with_snapshot set depth width bytes spells s o m h =
      let same : h.0 ≡ Ok spells.0 = one_snapshot B.one_snapshot B.snapshot_spelled B.snapshot_fault bytes h.0 (Ok spells.0) h.1 spells.1
      (λ e. subst (λ r. OfSnapshot set depth width r s o m) e h.2) (λ e. subst IsOkay e tt) in
      (subst (λ r. OfSnapshot set depth width r s o m) same h.2).0

  of_check : (set : Set) → IsDone (OfCheck set)
  of_check set s o m h = h.2.0

  of_text : (set : Set) (depth width : ℕ) (snapshot : List ℕ) (files : Files) → IsGiven files snapshot 67108864 SpellsSnapshot → IsDone (OfText set depth width snapshot files)
  of_text set depth width snapshot files given =
      with_file snapshot 67108864 (WithSnapshot set depth width) (file files snapshot) given.0 given.1 given.2 (with_snapshot set depth width given.0 given.3)

  of_emit : (set : Set) (funcs : List Func) → funcs ≡ [] → IsDone (OfEmit set funcs)
  of_emit set funcs none s o m h = (subst (λ l. OfEmit set l s o m) none h).0

  of_lawful : (command : LayoutCommand) (files : Files) (set : Set) → IsAnswered command set → IsLayoutAccepted files command → IsDone (OfLawful command files set)
  of_lawful check files set answered given = of_check set
  of_lawful (text p) files set answered given = of_text set p.depth p.width p.snapshot files given
  of_lawful emit files set answered given = of_emit set set.funcs answered

  of_laws : (command : LayoutCommand) (files : Files) (set : Set) → IsLawful set → IsDone (OfLawful command files set) → IsDone (OfSet command files set)
  of_laws command files set lawful done s o m h =
      let same : h.0 ≡ Ok tt = one_check set (laws set) (B.one_breach set) h.0 (Ok tt) h.1 lawful (λ e. subst (λ r. OfLaws command files set r s o m) e h.2) (λ e. subst IsOkay e tt) in
      done s o m (subst (λ r. OfLaws command files set r s o m) same h.2)

  of_layout : (command : LayoutCommand) (files : Files) (bytes : List ℕ) (set : Set) → layouts.IsReading bytes (Ok set) → IsDone (OfSet command files set) → IsDone (OfLayout command files bytes)
  of_layout command files bytes set spells done s o m h =
      let same : h.0 ≡ Ok set = one_layout B.one_set B.layout_spelled B.layout_fault bytes h.0 (Ok set) h.1 spells (λ e. subst (λ r. OfRead command files r s o m) e h.2) (λ e. subst IsOkay e tt) in
      done s o m (subst (λ r. OfRead command files r s o m) same h.2)

  of_described : (command : BundleCommand) (files : Files) (set : Set) → IsBundleAccepted files command → IsDone (OfDescribed command files set)
  of_described show files set given s o m h = h.0
  of_described (print p) files set given s o m h = of_text set p.depth p.width p.snapshot files given s o m h

  of_bundle : (command : BundleCommand) (files : Files) (bytes : List ℕ) (set : Set) → bundles.IsReading bytes (Ok set) → IsDone (OfDescribed command files set) → IsDone (OfBundle command files bytes)
  of_bundle command files bytes set is done s o m h =
      let same : h.0 ≡ Ok set = one_bundle B.one_bundle bytes h.0 (Ok set) h.1 is (λ e. subst (λ r. OfSections command files r s o m) e h.2) (λ e. subst IsOkay e tt) in
      done s o m (subst (λ r. OfSections command files r s o m) same h.2)

  of_form : (form : Form) (files : Files) → IsAccepted files form → IsDone (OfForm (Some form) files)
  of_form (layout name command) files given =
      let first = given.0 in
      let lawful = first.3 in
      with_file name 16777216 (OfLayout command files) (file files name) first.0 first.1 first.2
      (of_layout command files first.0 lawful.0 lawful.1 (of_laws command files lawful.0 lawful.2 (of_lawful command files lawful.0 lawful.3 given.1)))
  of_form (bundle name command) files given =
      let first = given.0 in
      let described = first.3 in
      with_file name 536870912 (OfBundle command files) (file files name) first.0 first.1 first.2
      (of_bundle command files first.0 described.0 described.1 (of_described command files described.0 given.1))

  pub accepted : AcceptedAreAnswered
  accepted words form files rb rn wb wn code output message is given ends no_read no_write =
      elim (cases_lt code 3) as (λ _. (code ≡ 0) ⊎ (code ≡ 5)) [
        | inl low ↦ inl (of_form form files given code output message (subst (λ f. OfForm f files code output message) is (ends.answered low)))
        | inr high ↦ elim (cases_lt code 4) as (λ _. (code ≡ 0) ⊎ (code ≡ 5)) [
          | inl three ↦ absurd (no_read (ends.read (omega (arith, high, three))).1)
          | inr four ↦ elim (cases_lt code 5) as (λ _. (code ≡ 0) ⊎ (code ≡ 5)) [
            | inl less ↦ absurd (no_write (ends.write (omega (arith, four, less))).4)
            | inr five ↦ inr (let e : code ≡ 5 = omega (arith, five, ends.status) in e)
          ]
        ]
      ]
