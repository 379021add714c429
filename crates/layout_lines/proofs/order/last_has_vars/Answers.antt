use Rattle.std.proofs.Common.{◌∙◌, ap, sym}
use Rattle.layout_lines.specs.Sets.{has_vars}
use Rattle.layout_lines.proofs.LastItems.{last_of_get}
use Rattle.layout_lines.proofs.order.last_has_vars.Goals as goal

pub returns-in-Some : goal.returns-in-Some
returns-in-Some c = c.has_var.ensures ∙ ap has_vars (c.in-Some.ensures.value ∙ sym (last_of_get c.args.scopes.now))
