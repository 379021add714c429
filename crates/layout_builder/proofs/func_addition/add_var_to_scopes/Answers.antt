use Rattle.std.proofs.Common.{refl, ◌++◌, ◌∷◌, []}
use Rattle.layout_builder.specs.Additions.{with_var}
use Rattle.layout_builder.proofs.WithLast.{last_part_written}
use Rattle.layout_builder.proofs.func_addition.add_var_to_scopes.Goals as goal

-- the last scope has the variable
pub returns-in-Some : goal.returns-in-Some
returns-in-Some c =
    let scope = c.in-Some.scope.now in
    last_part_written c.push.result (with_var c.args.var) c.args.scopes.now scope c.push.new.self (scope.vars ++ c.args.var ∷ [])
    (λ vars. record scope { vars = vars }) c.in-Some.ensures.item.1 refl c.push.ensures.last
