use Rattle.layout_set.specs.Law11.{Law11}
use Rattle.layout_set.proofs.Firsts.{of_types}
use Rattle.layout_type_laws.proofs.law_11.law_11.Goals as goal

pub returns : goal.returns
returns c =
    let set = c.args.set.now in
    rw c.breach.ensures (of_types set 11 (Law11 set) c.in_ok-def.def tt (λ i. tt) (λ i. tt) (rw c.as_slice.ensures at c.in_ok-def.ensures))
