use Rattle.std.proofs.Common.{◌∙◌, ap}
use Rattle.dwarf_entries.specs.Pointers.{ends_at_function}
use Rattle.dwarf_entries.specs.Tags.{passes}
use Rattle.dwarf_entries.specs.TypeLinks.{type_end}
use Rattle.dwarf_scopes.specs.Tags.{is_subroutine}
use Rattle.dwarf_pointers.proofs.Links.{at_reached, at_nowhere, at_endless, function_there}
use Rattle.dwarf_pointers.proofs.pointers.ends_at_function.Goals as goal

pub returns-in-Reached : goal.returns-in-Reached
returns-in-Reached c =
    let a = c.args.die.now in
    c.is_subroutine.ensures ∙ ap (passes is_subroutine) c.what.ensures ∙ function_there c.in-Reached.end.die
    ∙ at_reached ends_at_function a.info c.in-Reached.end (type_end a.info a.die) c.in-Reached.ensures

pub returns-in-Nowhere : goal.returns-in-Nowhere
returns-in-Nowhere c = let a = c.args.die.now in at_nowhere ends_at_function a.info (type_end a.info a.die) c.in-Nowhere.ensures

pub returns-in-Endless : goal.returns-in-Endless
returns-in-Endless c = let a = c.args.die.now in at_endless ends_at_function a.info (type_end a.info a.die) c.in-Endless.ensures
