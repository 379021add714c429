use Rattle.layout_set.specs.Law4.{Law4}
use Rattle.layout_set.proofs.Firsts.{of_types}
use Rattle.layout_type_laws.proofs.law_4.law_4.Goals as goal

pub returns : goal.returns
returns c =
    let set = c.args.set.now in
    rw c.breach.ensures (of_types set 4 (Law4 set) c.first_4.result tt (λ i. tt) (λ i. tt) (rw c.as_slice.ensures at c.first_4.ensures))
