use Rattle.std.proofs.Common.{List, subst}
use Rattle.std.specs.Iterator.{YieldsFirst}
use Rattle.dwarf_entries.specs.Structures.{children_with, is_part}
use Rattle.dwarf_dies.specs.Handles.{DieIn}
use Rattle.dwarf_variants.proofs.Found.{first_is}
use Rattle.dwarf_variants.proofs.parts.part_of.Goals as goal

pub returns : goal.returns
returns c =
    first_is c.args.die.now (children_with is_part c.args.die.now.info c.args.die.now.die) c.next.result c.next.new.self
    (subst (λ l. YieldsFirst (λ (s : List DieIn). s) l c.next.result c.next.new.self) c.parts_in.ensures c.next.ensures.steps)
