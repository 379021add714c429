use Rattle.std.proofs.Common.{◌≡◌, ◌<◌, ◌∙◌, sym, subst, true, false, None, arith}
use Rattle.layout_name_laws.specs.declared.name_lengths.NameLength.{NameLength}
use Rattle.layout_set.specs.Law10.{HasDerivedName}
use Rattle.layout_set.proofs.Firsts.{more_below}
use Rattle.layout_name_laws.proofs.Fits.{rust_long, cv_long, fits_decide}
use Rattle.layout_name_laws.proofs.law_10.first_misfit.Goals as goal

pub bounds-rust-i : goal.bounds-rust-i
bounds-rust-i c = subst (λ n. c.loop-i.i < n) (sym (rust_long c.args.types.now c.args.rust.now c.requires.rust)) c.loop-i-test.true

pub bounds-cv-i : goal.bounds-cv-i
bounds-cv-i c = subst (λ n. c.loop-i.i < n) (sym (cv_long c.args.types.now c.args.cv.now c.requires.cv)) c.loop-i-test.true

pub returns-then-not-name_fits : goal.returns-then-not-name_fits
returns-then-not-name_fits c =
    let d : NameLength = record { to = None; len = 0 } in
    let told = fits_decide c.args.types.now c.args.rust.now c.args.cv.now c.requires.rust c.requires.cv c.loop-i.i c.index-types-i.result d c.loop-i-test.true c.index-types-i.is in
    (c.loop-i-test.true, ((λ s. let e : false ≡ true = sym c.if-not-name_fits.true ∙ c.name_fits.ensures ∙ told.1 s in grind (arith, e)), c.loop-i.invariant))

pub loop-i-preserved : goal.loop-i-preserved
loop-i-preserved c =
    let d : NameLength = record { to = None; len = 0 } in
    let told = fits_decide c.args.types.now c.args.rust.now c.args.cv.now c.requires.rust c.requires.cv c.loop-i.i c.index-types-i.result d c.loop-i-test.true c.index-types-i.is in
    more_below (HasDerivedName c.args.types.now) c.loop-i.i c.loop-i.invariant (told.0 (sym c.name_fits.ensures ∙ c.if-not-name_fits.false))
