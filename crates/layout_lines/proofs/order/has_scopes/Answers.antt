use Rattle.std.proofs.Common.{◌∙◌, ap, sym}
use Rattle.layout_lines.specs.Sets.{has_scopes}
use Rattle.layout_lines.proofs.LastItems.{last_of_get}
use Rattle.layout_lines.proofs.order.has_scopes.Goals as goal

pub returns-in-Some : goal.returns-in-Some
returns-in-Some c = c.has_scope.ensures ∙ ap has_scopes (c.in-Some.ensures.value ∙ sym (last_of_get c.args.funcs.now))
