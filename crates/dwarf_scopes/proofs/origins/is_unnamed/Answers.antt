use Rattle.std.proofs.Common.{◌&&◌, ◌∙◌, not, sym, ap}
use Rattle.dwarf_entries.specs.Codes.{at_name}
use Rattle.dwarf_entries.specs.Origins.{goes_on}
use Rattle.dwarf_scopes.proofs.OriginSteps.{found}
use Rattle.dwarf_scopes.proofs.origins.is_unnamed.Goals as goal

pub returns-else-is_none : goal.returns-else-is_none
returns-else-is_none c =
    let a = c.args.die.now in
    c.if-is_none.false ∙ sym (ap (λ b. b && not (goes_on a.info a.die)) (found at_name a c.bearer_of.result c.bearer_of.ensures (ap not (c.is_none.ensures ∙ ap not c.if-is_none.false))))
