use Rattle.std.specs.Prelude.{◌≡◌, length}
use Rattle.dwarf_variants.specs.Kinds.{of_kind}
use Rattle.dwarf_variants.proofs.kinds.BelowIterator.next.Given as goal

-- those that were passed over are of another kind
abbrev pub invariant-loop-child : goal.invariant-loop-child
invariant-loop-child l = of_kind l.self-inside.kind l.self-inside.children ≡ of_kind l.initial.self-inside.kind l.initial.self-inside.children

abbrev pub decreases-loop-child : goal.decreases-loop-child
decreases-loop-child l = length l.self-inside.children
