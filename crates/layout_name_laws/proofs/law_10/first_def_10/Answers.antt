use Rattle.std.proofs.Common.{length}
use Rattle.std.specs.List.{HoldsAt}
use Rattle.layout_set.specs.Law10.{HasGoodName, IsNewName, HasDerivedName}
use Rattle.layout_set.proofs.Firsts.{first_of_both}
use Rattle.layout_name_laws.proofs.law_10.first_def_10.Goals as goal

pub returns : goal.returns
returns c =
    let types = c.args.types.now in
    rw c.earlier.ensures (first_of_both (λ i. HoldsAt HasGoodName types i × IsNewName types i) (HasDerivedName types) (length types) c.in_ok-named.named c.in_ok-derived.derived c.in_ok-named.ensures c.in_ok-derived.ensures)
