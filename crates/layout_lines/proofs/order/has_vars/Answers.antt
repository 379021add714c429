use Rattle.std.proofs.Common.{◌∙◌, ap, sym}
use Rattle.layout_lines.specs.Sets.{last_of, last_scope, has_vars}
use Rattle.layout_lines.proofs.LastItems.{last_of_get}
use Rattle.layout_lines.proofs.order.has_vars.Goals as goal

pub returns-in-Some : goal.returns-in-Some
returns-in-Some c =
    c.last_has_vars.ensures
    ∙ ap (λ ss. has_vars (last_of ss)) c.as_slice.ensures
    ∙ ap (λ o. has_vars (last_scope o)) (c.in-Some.ensures.value ∙ sym (last_of_get c.args.funcs.now))
