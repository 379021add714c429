use Rattle.std.proofs.Common.{subst, ◌-◌, arith}
use Rattle.std.specs.List.{All}
use Rattle.std.proofs.lemmas.List.{get_or_default}
use Rattle.layout_set.specs.declared.func.Zone.{Zone}
use Rattle.layout_set.specs.Law12.{IsInside}
use Rattle.layout_func_laws.proofs.law_12.lie_in_outer.Goals as goal

-- the zone around is the same whichever zone would stand past the end
pub returns : goal.returns
returns c =
    let zones = c.args.around.now in
    let depth = c.args.depth in
    let inside = c.args.zones.now in
    let none : Zone = record { lo = 0; hi = 0 } in
    let l = c.requires in (
      (λ t some d. subst (λ o. All (IsInside o) inside) (get_or_default zones (depth - 1) none d (omega (arith, l, some))) (c.all_inside.ensures.0 t)),
      λ lie. c.all_inside.ensures.1 (lie (let e = c.if-depth-eq0.false in omega (arith, e)) none),
    )
