use Rattle.std.proofs.Common.{ap, subst, sym, ◌∙◌}
use Rattle.dwarf_dies.specs.Handles.{IsFound, die_in}
use Rattle.dwarf_dies.specs.Views.{die_of}
use Rattle.dwarf_dies.proofs.Handles.{there}
use Rattle.dwarf_dies.proofs.die.Die.number.Goals as goal

pub returns-clause-number : goal.returns-clause-number
returns-clause-number c =
    let info = c.self.inside.dies.now in
    sym (c.self.invariant.laws.numbers c.self.inside.number (die_in info c.self.inside.number).die (there info c.self.inside.number c.self.invariant)) ∙ ap (λ a. a.die.entry.number) c.self.view_is

pub returns-clause-found : goal.returns-clause-found
returns-clause-found c =
    let info = c.self.inside.dies.now in
    let n = c.self.inside.number in
    let at = there info n c.self.invariant in
    subst IsFound c.self.view_is (record { laws = c.self.invariant.laws; found = ap (die_of info) (c.self.invariant.laws.numbers n (die_in info n).die at) ∙ at })
