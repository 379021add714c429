use Rattle.std.proofs.Common.{refl, sym, subst, below_more, ◌+◌, arith}
use Rattle.layout_func_laws.specs.OpenScopes.{AreOpen, FitsOpen}
use Rattle.layout_func_laws.proofs.OpenScopes.{fits_nests, nests_fits, opens, each_nests, nested_decides}
use Rattle.layout_func_laws.proofs.law_12.are_nested.Goals as goal

pub loop-scope-preserved : goal.loop-scope-preserved
loop-scope-preserved c =
    let scopes = c.args.scopes.now in
    let i = c.loop-scope.scope-index in
    let zones = c.loop-scope.around.items in
    let s = c.scope-item.result in
    let l = c.loop-scope-test.true in
    let are = c.loop-scope.invariant.0 in
    let fits = subst (λ zs. FitsOpen zs s) c.as_slice.ensures.value (c.if-not-fits_open.ensures.0 refl) in (
      subst (AreOpen scopes (i + 1)) (sym c.in_ok-open_scope.ensures) (opens scopes i zones s l c.scope-item.is are fits),
      below_more _ _ c.loop-scope.invariant.1 (fits_nests scopes i zones s l c.scope-item.is are fits),
    )

-- a scope that does not fit does not nest
pub returns-then-not-fits_open : goal.returns-then-not-fits_open
returns-then-not-fits_open c =
    let scopes = c.args.scopes.now in
    let i = c.loop-scope.scope-index in
    let zones = c.loop-scope.around.items in
    let s = c.scope-item.result in
    let l = c.loop-scope-test.true in
    let are = c.loop-scope.invariant.0 in (
      (λ e. let f : ⊥ = grind (arith, e) in elim f [ ]),
      λ nested. c.if-not-fits_open.ensures.1 (subst (λ zs. FitsOpen zs s) (sym c.as_slice.ensures.value) (nests_fits scopes i zones s l c.scope-item.is are (each_nests scopes nested i l))),
    )

pub returns : goal.returns
returns c =
    let most = c.loop-scope-test.false in
    nested_decides c.args.scopes.now c.is_empty.result c.is_empty.ensures (λ i l. c.loop-scope.invariant.1 i (omega (arith, most, l)))
