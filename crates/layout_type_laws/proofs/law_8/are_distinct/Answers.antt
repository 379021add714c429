use Rattle.std.proofs.Common.{subst, length, ◌<◌}
use Rattle.std.specs.Bool.{Decides}
use Rattle.std.specs.List.{AllAdjacentBelow}
use Rattle.layout_type_laws.proofs.SortedNumbers.{neighbours_decide}
use Rattle.layout_type_laws.proofs.law_8.are_distinct.Goals as goal

pub returns : goal.returns
returns c = neighbours_decide c.args.numbers.items c.sort.new.self.items c.rises.result c.in_ok-sort.ensures.permutation c.in_ok-sort.ensures.sorted
    (subst (λ l. Decides c.rises.result (AllAdjacentBelow (λ a b. a < b) l (length l))) c.as_slice.ensures.value c.rises.ensures)
