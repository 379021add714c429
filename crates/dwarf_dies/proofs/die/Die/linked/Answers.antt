use Rattle.std.proofs.Common.{◌∙◌, ap, option_and_then, option_map}
use Rattle.dwarf_entries.specs.Dies.{linked}
use Rattle.dwarf_dies.specs.Handles.{DieIn, beside, die_in}
use Rattle.dwarf_dies.specs.Views.{number_of_die}
use Rattle.dwarf_dies.proofs.Handles.{found_again, linked_found, there}
use Rattle.dwarf_dies.proofs.die.Die.linked.Goals as goal

pub returns : goal.returns
returns c =
    let info = c.self.inside.dies.now in
    let d = (die_in info c.self.inside.number).die in
    c.die.ensures
    ∙ found_again info (linked info c.args.code d) c.in_ok-number.number (λ e h. linked_found info c.self.invariant.laws c.args.code d e h)
    (c.in_ok-number.ensures ∙ ap (λ o. option_map number_of_die (option_and_then (linked info c.args.code) o)) (there info c.self.inside.number c.self.invariant))
    ∙ ap (λ (s : DieIn). option_map (beside s) (linked s.info c.args.code s.die)) c.self.view_is
