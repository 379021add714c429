use Rattle.std.proofs.Common.{◌≡◌, [], ◌∙◌, length, sym, ap, subst, arith}
use Rattle.std.specs.Iterator.{YieldsFirst}
use Rattle.dwarf_dies.proofs.Handles.{none_left, some_left}
use Rattle.dwarf_dies.proofs.die.IterIterator.next.Goals as goal

pub returns-in_err-die-clause-steps : goal.returns-in_err-die-clause-steps
returns-in_err-die-clause-steps c =
    let e : c.args.self.now ≡ [] = sym c.self.view_is ∙ none_left c.self.inside.dies.now c.self.inside.at c.in_err-die.ensures in
    subst (λ r. YieldsFirst (λ s. s) c.args.self.now r c.args.self.now) (sym c.from_residual.ensures) (e, e)

pub returns-clause-steps : goal.returns-clause-steps
returns-clause-steps c = sym c.self.view_is ∙ some_left c.self.inside.dies.now c.self.inside.at c.in_ok-die.die c.in_ok-die.ensures

pub returns-clause-goes : goal.returns-clause-goes
returns-clause-goes c =
    let fewer = ap length (returns-clause-steps c) in
    record { on = λ _. (tt, tt, omega (arith, fewer)); keeps = tt; rests = λ _. tt }
