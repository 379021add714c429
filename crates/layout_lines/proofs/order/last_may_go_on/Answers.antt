use Rattle.std.proofs.Common.{◌∙◌, ap, sym}
use Rattle.layout_lines.specs.Sets.{last_may_go_on}
use Rattle.layout_lines.proofs.LastItems.{last_of_get}
use Rattle.layout_lines.proofs.order.last_may_go_on.Goals as goal

pub returns-in-Some : goal.returns-in-Some
returns-in-Some c = c.may_go_on.ensures ∙ ap (λ o. last_may_go_on o c.args.kind) (c.in-Some.ensures.value ∙ sym (last_of_get c.args.types.now))
