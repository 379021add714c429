use Rattle.std.proofs.Common.{refl, true}
use Rattle.layout_set.specs.Law10.{Law10}
use Rattle.layout_set.proofs.Firsts.{one_law}
use Rattle.layout_name_laws.proofs.law_10.law_10.Goals as goal

pub first_def_10-requires : goal.first_def_10-requires
first_def_10-requires c = rw c.as_slice.ensures c.requires.types

pub returns : goal.returns
returns c =
    let set = c.args.set.now in
    rw c.breach.ensures (one_law set 10 (Law10 set) true c.in_ok-def.def c.in_ok-fixed.fixed c.in_ok-func.func ((λ _. tt), λ _. refl)
    (rw c.as_slice.ensures at c.in_ok-def.ensures)
    (rw c.as_slice-2.ensures at c.in_ok-fixed.ensures)
    (rw c.as_slice-3.ensures at c.in_ok-func.ensures))
