use Rattle.layout_set.specs.Law9.{Law9}
use Rattle.layout_set.proofs.Firsts.{of_types}
use Rattle.layout_type_laws.proofs.law_9.law_9.Goals as goal

pub returns : goal.returns
returns c =
    let set = c.args.set.now in
    rw c.breach.ensures (of_types set 9 (Law9 set) c.first_9.result tt (λ i. tt) (λ i. tt) (rw c.as_slice.ensures at c.first_9.ensures))
