use Rattle.std.proofs.Common.{eqb, None}
use Rattle.std.proofs.lemmas.Bool.Decides.{Decides-eqb}
use Rattle.layout_set.specs.Law3.{Law3}
use Rattle.layout_set.proofs.Firsts.{one_law}
use Rattle.layout_type_laws.proofs.law_3.law_3.Goals as goal

pub returns : goal.returns
returns c =
    let set = c.args.set.now in
    rw c.breach.ensures (one_law set 3 (Law3 set) (eqb set.target.ptr 8) c.first_3.result None None (Decides-eqb set.target.ptr 8) (rw c.as_slice.ensures at c.first_3.ensures) (λ i _. tt) (λ i _. tt))
