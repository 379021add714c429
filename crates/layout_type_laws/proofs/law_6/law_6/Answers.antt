use Rattle.layout_set.specs.Law6.{Law6}
use Rattle.layout_set.proofs.Firsts.{of_types}
use Rattle.layout_type_laws.proofs.law_6.law_6.Goals as goal

pub returns : goal.returns
returns c =
    let set = c.args.set.now in
    rw c.breach.ensures (of_types set 6 (Law6 set) c.first_6.result tt (λ i. tt) (λ i. tt) (rw c.as_slice.ensures at c.first_6.ensures))
