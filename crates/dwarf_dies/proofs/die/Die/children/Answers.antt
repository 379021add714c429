use Rattle.std.proofs.Common.{◌∙◌, map, ap}
use Rattle.dwarf_entries.specs.Dies.{children_of}
use Rattle.dwarf_dies.specs.Handles.{DieIn, beside}
use Rattle.dwarf_dies.proofs.Handles.{children_are, children_there}
use Rattle.dwarf_dies.proofs.die.Die.children.Goals as goal

pub invariant_of-result : goal.invariant_of-result
invariant_of-result c = children_there c.self.inside.dies.now c.self.inside.number c.self.invariant c.children.result c.children.ensures

pub returns : goal.returns
returns c =
    children_are c.self.inside.dies.now c.self.inside.number c.self.invariant c.children.result c.children.ensures
    ∙ ap (λ (s : DieIn). map (beside s) (children_of s.info s.die)) c.self.view_is
