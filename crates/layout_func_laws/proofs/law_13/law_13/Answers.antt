use Rattle.layout_set.specs.Law13.{Law13}
use Rattle.layout_set.proofs.Firsts.{of_funcs}
use Rattle.layout_func_laws.proofs.law_13.law_13.Goals as goal

pub returns : goal.returns
returns c =
    let set = c.args.set.now in
    rw c.breach.ensures (of_funcs set 13 (Law13 set) c.first_13-func.result tt (λ i. tt) (λ i. tt) (rw (c.as_slice.ensures, c.as_slice-2.ensures) at c.first_13-func.ensures))
