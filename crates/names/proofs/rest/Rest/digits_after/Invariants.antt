use Rattle.std.proofs.Common.{◌≡◌, length}
use Rattle.names.specs.Reading.{digits_after}
use Rattle.names.proofs.rest.Rest.digits_after.Given as goal

-- the digits from here on finish the number
abbrev pub invariant-loop-next : goal.invariant-loop-next
invariant-loop-next l = digits_after l.most l.number l.self ≡ digits_after l.most l.fn.number l.fn.self

abbrev pub decreases-loop-next : goal.decreases-loop-next
decreases-loop-next l = length l.self
