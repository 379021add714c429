use Rattle.layout_set.specs.Law12.{Law12}
use Rattle.layout_set.proofs.Firsts.{of_funcs}
use Rattle.layout_func_laws.proofs.law_12.law_12.Goals as goal

pub returns : goal.returns
returns c =
    let set = c.args.set.now in
    rw c.breach.ensures (of_funcs set 12 (Law12 set) c.in_ok-func.func tt (λ i. tt) (λ i. tt) (rw c.as_slice.ensures at c.in_ok-func.ensures))
