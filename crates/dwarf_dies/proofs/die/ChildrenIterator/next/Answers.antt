use Rattle.std.proofs.Common.{◌∙◌, ap, slice_get, suc}
use Rattle.dwarf_dies.proofs.die.ChildrenIterator.next.Goals as goal

pub invariant_of-result : goal.invariant_of-result
invariant_of-result c = record { laws = c.self.invariant.laws; inside = c.self.invariant.inside 0 c.in_ok-number.number (ap (λ l. slice_get l 0) c.in_ok-number.ensures.steps) }

pub invariant_of-self-2 : goal.invariant_of-self-2
invariant_of-self-2 c = record { laws = c.self.invariant.laws; inside = λ k n e. c.self.invariant.inside (suc k) n (ap (λ l. slice_get l (suc k)) c.in_ok-number.ensures.steps ∙ e) }
