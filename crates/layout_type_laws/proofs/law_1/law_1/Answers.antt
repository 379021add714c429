use Rattle.std.proofs.Common.{refl, true}
use Rattle.layout_set.specs.Law1.{Law1}
use Rattle.layout_set.proofs.Firsts.{one_law}
use Rattle.layout_type_laws.proofs.law_1.law_1.Goals as goal

pub returns : goal.returns
returns c =
    let set = c.args.set.now in
    rw c.breach.ensures (one_law set 1 (Law1 set) true c.in_ok-def.def c.first_static_1-fixed.result c.first_func_1-func.result ((λ _. tt), λ _. refl)
    (rw c.as_slice-types.ensures at c.in_ok-def.ensures)
    (rw (c.as_slice-types.ensures, c.as_slice.ensures) at c.first_static_1-fixed.ensures)
    (rw (c.as_slice-types.ensures, c.as_slice-2.ensures) at c.first_func_1-func.ensures))
