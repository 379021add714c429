-- No words and files are without an ending, those of `emit` aside. What is not decided here is never both denied.
use Rattle.std.proofs.Common.{◌≡◌, ℕ, zero, suc, ◌+◌, ◌<◌, ◌≤◌, ◌⊎◌, inl, inr, List, [], ◌∷◌, ◌++◌, max, length, Bool, true, false, nat_lt, Decides, Option, Some, None, Result, Ok, Err, refl, sym, ap, subst, ◌∙◌, codes, filter, arith}
use Rattle.std.proofs.lemmas.Bool.{cases_lt}
use Rattle.rv_io.specs.Files.{Files, file}
use Rattle.rust_value.specs.declared.value.Val.{Val}
use Rattle.snapshot_file.specs.Memory.{items_at}
use Rattle.snapshot_file.specs.declared.snapshot.Snapshot.{Snapshot}
use Rattle.snapshot_file.specs.declared.fault.SnapErr.{SnapErr}
use Rattle.snapshot_file.specs.declared.fault.SnapErr.TheVariants as snap_errs
use Rattle.snapshot_file.specs.Claims as snapshots
use Rattle.layout_set.specs.declared.func.Func.{Func}
use Rattle.layout_set.specs.declared.func.Scope.{Scope}
use Rattle.layout_set.specs.declared.func.Var.{Var}
use Rattle.layout_set.specs.declared.set.Set.{Set}
use Rattle.layout_set.specs.declared.set.Static.{Static}
use Rattle.layout_set.specs.declared.set.TypeRef.{TypeRef}
use Rattle.layout_set.specs.declared.breach.CheckErr.{CheckErr}
use Rattle.layout_set.specs.declared.breach.CheckErr.TheVariants as checks
use Rattle.layout_values.specs.declared.outcome.Outcome.{Outcome}
use Rattle.layout_values.specs.declared.outcome.Outcome.TheVariants.{Value, Unavailable, Invalid, TooLarge}
use Rattle.layout_values.specs.Contexts.{Items, Context, context_of}
use Rattle.layout_model.proofs.Decided.{Never, checked, decided}
use Rattle.layout_set.specs.Laws.{laws}
use Rattle.layout_honest.specs.Honest.{IsHonest}
use Rattle.layout_values.specs.Images.{IsImage}
use Rattle.layout_values.specs.Outcomes.{IsWhole, IsOutcome}
use Rattle.layout_values.specs.Places.{place_of}
use Rattle.layout_values.specs.Reached.{Nodes, Lacks}
use Rattle.layout_set.specs.Sizes.{size}
use Rattle.layout_reader.specs.declared.layout_err.LayoutErr.{LayoutErr}
use Rattle.layout_reader.specs.declared.layout_err.LayoutErr.TheVariants as layout_errs
use Rattle.layout_file.specs.Claims as layouts
use Rattle.layout_set.specs.declared.refusal.ReadErr.{ReadErr}
use Rattle.layout_set.specs.declared.refusal.ReadErr.TheVariants as refusals
use Rattle.bundle_reader.specs.Readings as bundles
use Rattle.dbg_command.specs.Forms.{Form, LayoutCommand, BundleCommand, layout, bundle, check, text, emit, show, print, form_of}
use Rattle.layout_values.specs.Shown.{IsShownAt, IsShownIn}
use Rattle.dbg_command.specs.Lines.{IsStaticLine, IsVarLine, AreVarLines, IsFuncText, AreEach, Prints, static_line, var_line, func_line, pc_line, is_entered, is_called}
use Rattle.dbg_command.specs.Answers.{Ending, Refuses, Puts, WithinLimit, WithFile, OfSnapshot, WithSnapshot, OfText, honesty_text, OfCheck, OfLawful, OfLaws, OfSet, OfRead, OfLayout, OfDescribed, OfSections, OfBundle, OfForm}
use Rattle.dbg_command.specs.OneEnding.{SomeEnding, AsksBundle}

-- a part has an outcome
outcome : (c : Context) (depth : ℕ) (ty : TypeRef) (p : Items) → Never ((o : Outcome) × IsOutcome c depth ty p o)
outcome c depth ty p deny = elim (cases_lt 65536 (Nodes c depth ty p)) as (λ _. ⊥) [
  | inl many ↦ deny (TooLarge, many)
  | inr few ↦ decided (Lacks c depth ty p) (λ d. elim d as (λ _. ⊥) [
    | inl lacks ↦ deny (Unavailable, (few, lacks))
    | inr whole ↦ decided ((x : Val) × IsImage c depth ty p x) (λ v. elim v as (λ _. ⊥) [
      | inl image ↦ deny (Value image.0, ((few, whole), image.1))
      | inr none ↦ deny (Invalid, ((few, whole), λ x is. none (x, is)))
    ])
  ])
]

static_shown : (c : Context) (depth : ℕ) (ty : TypeRef) (addr : Option ℕ) → Never ((o : Outcome) × IsShownAt c depth ty addr o)
static_shown c depth ty None deny = deny (Unavailable, refl)
static_shown c depth ty (Some at) deny = outcome c depth ty (items_at c.memory at (size c.ptr c.types ty)) deny

var_shown : (c : Context) (depth : ℕ) (ty : TypeRef) (part : Option Items) → Never ((o : Outcome) × IsShownIn c depth ty part o)
var_shown c depth ty None deny = deny (Unavailable, refl)
var_shown c depth ty (Some part) deny = outcome c depth ty part deny

-- items of which each has a text have one
each : {A : Type 0} (Is : A → List ℕ → Type 0) → ((a : A) → Never ((t : List ℕ) × Is a t)) → (items : List A) → Never ((t : List ℕ) × AreEach Is items t)
each Is some [] deny = deny ([], refl)
each Is some (a ∷ items) deny = some a (λ first. each Is some items (λ rest. deny (first.0 ++ rest.0, (first.0, rest.0, first.1, refl, rest.1))))

static_text : (c : Context) (depth : ℕ) (s : Static) → Never ((t : List ℕ) × IsStaticLine c depth s t)
static_text c depth s deny = static_shown c depth s.ty s.addr (λ o. deny (static_line s o.0, (o.0, o.1, refl)))

var_text : (c : Context) (snap : Snapshot) (depth : ℕ) (v : Var) → Never ((t : List ℕ) × IsVarLine c snap depth v t)
var_text c snap depth v deny = var_shown c depth v.ty (place_of c.ptr snap v.entries (size c.ptr c.types v.ty)) (λ o. deny (var_line v o.0, (o.0, o.1, refl)))

scope_text : (c : Context) (snap : Snapshot) (depth : ℕ) (s : Scope) → Never ((t : List ℕ) × AreVarLines c snap depth s t)
scope_text c snap depth s = each (IsVarLine c snap depth) (var_text c snap depth) s.vars

func_text : (c : Context) (snap : Snapshot) (depth : ℕ) (f : Func) → Never ((t : List ℕ) × IsFuncText c snap depth f t)
func_text c snap depth f deny = each (AreVarLines c snap depth) (scope_text c snap depth) (filter (is_entered snap.pc) f.scopes) (λ rest. deny (func_line f ++ rest.0, (rest.0, refl, rest.1)))

prints : (set : Set) (depth width : ℕ) (snap : Snapshot) → Never ((t : List ℕ) × Prints set depth width snap t)
prints set depth width snap deny =
    let c = context_of set snap.mem width in
    each (IsStaticLine c depth) (static_text c depth) set.statics (λ s. each (IsFuncText c snap depth) (func_text c snap depth) (filter (is_called snap.pc) set.funcs) (λ f.
    deny (pc_line snap.pc ++ s.0 ++ f.0, record { statics = s.0; funcs = f.0; text_is = refl; of_statics = s.1; of_funcs = f.1 })))

-- there is an ending of this kind
abbrev Ends : Ending → Type 0
Ends E = ((status : ℕ) (output message : List ℕ) → E status output message → ⊥) → ⊥

refuses : (code : ℕ) (said : List ℕ) → Ends (Refuses code said)
refuses code said deny = deny code [] said (refl, refl, refl)

within : (name : List ℕ) (long : Bool) (E : Ending) → Ends E → Ends (WithinLimit name long E)
within name true E some deny = deny 1 [] _ (refl, refl, refl)
within name false E some deny = some deny

with_file : (name : List ℕ) (limit : ℕ) (Next : List ℕ → Ending) (found : Option (List ℕ)) → ((bytes : List ℕ) → Ends (Next bytes)) → Ends (WithFile name limit Next found)
with_file name limit Next None some deny = deny 1 [] _ (refl, refl, refl)
with_file name limit Next (Some bytes) some deny = within name (nat_lt limit (length bytes)) (Next bytes) (some bytes) deny

of_snapshot : (set : Set) (depth width : ℕ) (r : Result Snapshot SnapErr) → (r ≡ Err snap_errs.Memory → ⊥) → Ends (OfSnapshot set depth width r)
of_snapshot set depth width (Ok snap) known deny = prints set depth width snap (λ t. deny 0 t.0 [] (refl, t.1, refl))
of_snapshot set depth width (Err (snap_errs.BadLine l rule)) known deny = deny 1 [] _ (refl, refl, refl)
of_snapshot set depth width (Err (snap_errs.Overlap l)) known deny = deny 1 [] _ (refl, refl, refl)
of_snapshot set depth width (Err snap_errs.Memory) known deny = known refl

-- a command that is not `emit`
abbrev IsOther : LayoutCommand → Type 0
IsOther check = Unit {0}
IsOther (text p) = Unit {0}
IsOther emit = ⊥

is_other : (name : List ℕ) (command : LayoutCommand) → ¬ (AsksBundle (Some (layout name command))) → IsOther command
is_other name check other = tt
is_other name (text p) other = tt
is_other name emit other = other tt

module _ (layout_read : layouts.HaveReading) (snapshot_read : snapshots.HaveReading) (bundle_read : bundles.HaveReading) where
  with_snapshot : (set : Set) (depth width : ℕ) (bytes : List ℕ) → Ends (WithSnapshot set depth width bytes)
  with_snapshot set depth width bytes deny =
      let r = snapshot_read bytes in
      of_snapshot set depth width r.0 r.1.0 (λ s o m e. deny s o m (r.0, r.1.1, e))

  of_check : (set : Set) → Ends (OfCheck set)
  of_check set deny = decided (IsHonest set) (λ d. elim d as (λ _. ⊥) [
    | inl honest ↦ deny 0 (honesty_text true) [] (true, ((λ e. honest), (λ h. refl)), (refl, refl, refl))
    | inr lies ↦ deny 0 (honesty_text false) [] (false, ((λ e. absurd (no_false e)), (λ h. absurd (lies h))), (refl, refl, refl))
  ])
    where
      no_false : false ≡ true → ⊥
      no_false e = grind (arith, e)

  of_lawful : (command : LayoutCommand) (files : Files) (set : Set) → IsOther command → Ends (OfLawful command files set)
  of_lawful check files set other = of_check set
  of_lawful (text p) files set other = with_file p.snapshot 67108864 (WithSnapshot set p.depth p.width) (file files p.snapshot) (with_snapshot set p.depth p.width)
  of_lawful emit files set other = absurd other

  of_laws : (command : LayoutCommand) (files : Files) (set : Set) → IsOther command → (r : Result (Unit {0}) CheckErr) → (r ≡ Err checks.Memory → ⊥) → Ends (OfLaws command files set r)
  of_laws command files set other (Ok u) known deny = of_lawful command files set other deny
  of_laws command files set other (Err (checks.Breach law at)) known deny = deny 1 [] _ (refl, refl, refl)
  of_laws command files set other (Err checks.Memory) known deny = known refl

  of_set : (command : LayoutCommand) (files : Files) (set : Set) → IsOther command → Ends (OfSet command files set)
  of_set command files set other deny = checked set (laws set) (λ r. of_laws command files set other r.0 r.2 (λ s o m e. deny s o m (r.0, r.1, e)))

  of_read : (command : LayoutCommand) (files : Files) → IsOther command → (r : Result Set LayoutErr) → (r ≡ Err layout_errs.Memory → ⊥) → Ends (OfRead command files r)
  of_read command files other (Ok set) known deny = of_set command files set other deny
  of_read command files other (Err (layout_errs.BadLine l rule)) known deny = deny 1 [] _ (refl, refl, refl)
  of_read command files other (Err (layout_errs.Limit which)) known deny = deny 1 [] _ (refl, refl, refl)
  of_read command files other (Err layout_errs.Memory) known deny = known refl

  of_layout : (command : LayoutCommand) (files : Files) → IsOther command → (bytes : List ℕ) → Ends (OfLayout command files bytes)
  of_layout command files other bytes deny =
      let r = layout_read bytes in
      of_read command files other r.0 r.1.0 (λ s o m e. deny s o m (r.0, r.1.1, e))

  of_described : (command : BundleCommand) (files : Files) (set : Set) → Ends (OfDescribed command files set)
  of_described show files set deny = deny 0 _ [] (refl, refl, refl)
  of_described (print p) files set deny = with_file p.snapshot 67108864 (WithSnapshot set p.depth p.width) (file files p.snapshot) (with_snapshot set p.depth p.width) deny

  of_sections : (command : BundleCommand) (files : Files) (r : Result Set ReadErr) → (r ≡ Err refusals.Memory → ⊥) → Ends (OfSections command files r)
  of_sections command files (Ok set) known deny = of_described command files set deny
  of_sections command files (Err (refusals.Refused refusal)) known deny = deny 1 [] _ (refl, refl, refl)
  of_sections command files (Err refusals.Memory) known deny = known refl

  of_bundle : (command : BundleCommand) (files : Files) (bytes : List ℕ) → Ends (OfBundle command files bytes)
  of_bundle command files bytes deny = bundle_read bytes (λ r known is. of_sections command files r known (λ s o m e. deny s o m (r, is, e)))

  of_form : (form : Option Form) (files : Files) → ¬ (AsksBundle form) → Ends (OfForm form files)
  of_form None files other deny = deny 2 [] _ (refl, refl, refl)
  of_form (Some (layout name command)) files other deny = with_file name 16777216 (OfLayout command files) (file files name) (of_layout command files (is_other name command other)) deny
  of_form (Some (bundle name command)) files other deny = with_file name 536870912 (OfBundle command files) (file files name) (of_bundle command files) deny

  pub some_ending : SomeEnding
  some_ending words files other deny = of_form (form_of words) files other deny
