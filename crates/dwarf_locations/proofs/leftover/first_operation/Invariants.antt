use Rattle.std.proofs.Common.{ℕ, length}
use Rattle.dwarf_locations.specs.Expressions.{StandsFirst}
use Rattle.dwarf_locations.specs.Steps.{StandsNone}
use Rattle.dwarf_locations.proofs.leftover.first_operation.Given as goal

-- what is the first from here on is the first
abbrev pub invariant-loop : goal.invariant-loop
invariant-loop l =
    ((at : ℕ) → StandsFirst l.fn.frame l.fn.addrs l.cut at → StandsFirst l.fn.frame l.fn.addrs l.fn.cut at)
    × (StandsNone l.fn.frame l.fn.addrs l.cut → StandsNone l.fn.frame l.fn.addrs l.fn.cut)

abbrev pub decreases-loop : goal.decreases-loop
decreases-loop l = length l.cut.rest
