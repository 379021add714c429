use Rattle.std.proofs.Common.{drop, map}
use Rattle.cv_constants.specs.Named.{AreNumbers}
use Rattle.cv_constants.proofs.numbers.read_numbers.Given as goal

-- the last symbols are done
abbrev pub invariant-loop-at : goal.invariant-loop-at
invariant-loop-at l = AreNumbers (map (λ s. s.now) (drop l.at l.symbols)) l.numbers
