use Rattle.std.proofs.Common.{subst, length}
use Rattle.std.specs.Bool.{Decides}
use Rattle.std.specs.List.{AllAdjacentBelow}
use Rattle.layout_set.specs.Overlap.{Before}
use Rattle.layout_type_laws.proofs.Spans.{neighbours_decide}
use Rattle.layout_type_laws.proofs.law_7.are_apart.Goals as goal

pub returns : goal.returns
returns c = neighbours_decide c.args.spans.items c.sort.new.self.items c.each_before_next.result c.in_ok-sort.ensures.permutation c.in_ok-sort.ensures.sorted c.requires (subst (λ l. Decides c.each_before_next.result (AllAdjacentBelow Before l (length l))) c.as_slice.ensures.value c.each_before_next.ensures)
