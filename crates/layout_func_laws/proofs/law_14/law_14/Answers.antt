use Rattle.std.proofs.Common.{None}
use Rattle.layout_set.specs.Law14.{Law14}
use Rattle.layout_set.proofs.Firsts.{one_law}
use Rattle.layout_func_laws.proofs.law_14.law_14.Goals as goal

pub returns : goal.returns
returns c =
    let set = c.args.set.now in
    rw c.breach.ensures (one_law set 14 (Law14 set) c.in_ok-whole.whole None c.first_without_address-fixed.result None c.in_ok-whole.ensures
    (λ i _. tt) (rw c.as_slice.ensures at c.first_without_address-fixed.ensures) (λ i _. tt))
