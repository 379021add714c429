-- Each layout file, each bundle and each snapshot file has one reading, and a set has one first breach.
use Rattle.std.proofs.Common.{◌≡◌, ℕ, List, Result, Ok, Err, refl, ap, ap₂}
use Rattle.layout_set.specs.declared.set.Set.{Set}
use Rattle.layout_set.specs.declared.breach.Item.{Item}
use Rattle.layout_set.specs.declared.breach.CheckErr.{CheckErr}
use Rattle.layout_set.specs.declared.breach.CheckErr.TheVariants as checks
use Rattle.layout_set.specs.FirstBreach.{Numbered, IsFirstBreach, Checked}
use Rattle.layout_reader.specs.declared.layout_err.LayoutErr.{LayoutErr}
use Rattle.layout_reader.specs.declared.layout_err.LayoutErr.TheVariants as layout_errs
use Rattle.layout_file.specs.Claims as layouts
use Rattle.layout_set.specs.declared.refusal.ReadErr.{ReadErr}
use Rattle.layout_set.specs.declared.refusal.ReadErr.TheVariants as refusals
use Rattle.bundle_reader.specs.Readings as bundles
use Rattle.snapshot_file.specs.declared.snapshot.Snapshot.{Snapshot}
use Rattle.snapshot_file.specs.declared.fault.SnapErr.{SnapErr}
use Rattle.snapshot_file.specs.declared.fault.SnapErr.TheVariants as snap_errs
use Rattle.snapshot_file.specs.Claims as snapshots
use Rattle.snapshot_file.specs.Snapshots.{OneSnapshot}

-- a layout file has one reading, out of memory aside
pub one_layout : layouts.SpellOne → layouts.HaveNoFault → layouts.HaveOneFault → (bytes : List ℕ) (r t : Result Set LayoutErr)
    → layouts.IsReading bytes r → layouts.IsReading bytes t → (r ≡ Err layout_errs.Memory → ⊥) → (t ≡ Err layout_errs.Memory → ⊥) → r ≡ t
one_layout set spelled fault bytes (Ok a) (Ok b) h g p q = ap Ok (set a b bytes h g)
one_layout set spelled fault bytes (Ok a) (Err e) h g p q = absurd (q (ap Err (spelled a bytes e h g)))
one_layout set spelled fault bytes (Err e) (Ok b) h g p q = absurd (p (ap Err (spelled b bytes e g h)))
one_layout set spelled fault bytes (Err e) (Err f) h g p q = ap Err (fault bytes e f h g (λ m. p (ap Err m)) (λ m. q (ap Err m)))

-- a snapshot file has one reading, out of memory aside
pub one_snapshot : OneSnapshot → snapshots.HaveNoFault → snapshots.HaveOneFault → (bytes : List ℕ) (r t : Result Snapshot SnapErr)
    → snapshots.IsReading bytes r → snapshots.IsReading bytes t → (r ≡ Err snap_errs.Memory → ⊥) → (t ≡ Err snap_errs.Memory → ⊥) → r ≡ t
one_snapshot snapshot spelled fault bytes (Ok a) (Ok b) h g p q = ap Ok (snapshot bytes a b h g)
one_snapshot snapshot spelled fault bytes (Ok a) (Err e) h g p q = absurd (q (ap Err (spelled a bytes e h g)))
one_snapshot snapshot spelled fault bytes (Err e) (Ok b) h g p q = absurd (p (ap Err (spelled b bytes e g h)))
one_snapshot snapshot spelled fault bytes (Err e) (Err f) h g p q = ap Err (fault bytes e f h g (λ m. p (ap Err m)) (λ m. q (ap Err m)))

-- a bundle has one reading, out of memory aside
pub one_bundle : bundles.HaveOneReading → (bytes : List ℕ) (r t : Result Set ReadErr)
    → bundles.IsReading bytes r → bundles.IsReading bytes t → (r ≡ Err refusals.Memory → ⊥) → (t ≡ Err refusals.Memory → ⊥) → r ≡ t
one_bundle one bytes (Ok a) (Ok b) h g p q = ap Ok (one.one_set bytes a b h g)
one_bundle one bytes (Ok a) (Err (refusals.Refused r)) h g p q = absurd (one.never_both bytes a r h g)
one_bundle one bytes (Err (refusals.Refused r)) (Ok b) h g p q = absurd (one.never_both bytes b r g h)
one_bundle one bytes (Err (refusals.Refused r)) (Err (refusals.Refused t)) h g p q = ap (λ x. Err (refusals.Refused x)) (one.one_error bytes r t h g)
one_bundle one bytes (Err refusals.Memory) t h g p q = absurd (p refl)
one_bundle one bytes (Ok a) (Err refusals.Memory) h g p q = absurd (q refl)
one_bundle one bytes (Err (refusals.Refused r)) (Err refusals.Memory) h g p q = absurd (q refl)

-- a row of laws has at most one first breach
abbrev pub OneBreach : Set → List Numbered → Type 0
OneBreach set laws = (m n : ℕ) (a b : Item) → IsFirstBreach set laws m a → IsFirstBreach set laws n b → (m ≡ n) × (a ≡ b)

-- a set is checked with one result, out of memory aside
pub one_check : (set : Set) (laws : List Numbered) → OneBreach set laws → (r t : Result (Unit {0}) CheckErr) → Checked set laws r → Checked set laws t
    → (r ≡ Err checks.Memory → ⊥) → (t ≡ Err checks.Memory → ⊥) → r ≡ t
one_check set laws one (Ok a) (Ok b) h g p q = refl
one_check set laws one (Ok a) (Err (checks.Breach l by)) h g p q = absurd (g.fails.1.0.broken (h l g.fails.0 g.fails.1.0.is))
one_check set laws one (Err (checks.Breach k at)) (Ok b) h g p q = absurd (h.fails.1.0.broken (g k h.fails.0 h.fails.1.0.is))
one_check set laws one (Err (checks.Breach k at)) (Err (checks.Breach l by)) h g p q =
    let same = one k l at by h g in
    ap₂ (λ n x. Err (checks.Breach n x)) same.0 same.1
one_check set laws one (Err checks.Memory) t h g p q = absurd (p refl)
one_check set laws one (Ok a) (Err checks.Memory) h g p q = absurd (q refl)
one_check set laws one (Err (checks.Breach k at)) (Err checks.Memory) h g p q = absurd (q refl)
