use Rattle.std.proofs.Common.{◌≡◌, drop, map}
use Rattle.cv_uses.specs.Marks.{with_marks}
use Rattle.cv_uses.specs.Used.{variable_uses}
use Rattle.cv_uses.proofs.variables.mark_variables.Given as goal

-- the marks with those of the symbols that are left are all
abbrev pub invariant-loop-symbol : goal.invariant-loop-symbol
invariant-loop-symbol l =
    with_marks l.marks (variable_uses l.links (map (λ s. s.now) (drop l.symbol-index l.symbols))) ≡ with_marks l.initial.marks (variable_uses l.links (map (λ s. s.now) l.symbols))
