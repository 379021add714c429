use Rattle.std.proofs.Common.{refl, ◌++◌, ◌∷◌, []}
use Rattle.layout_builder.specs.Additions.{with_scope}
use Rattle.layout_builder.proofs.WithLast.{last_part_written}
use Rattle.layout_builder.proofs.func_addition.add_scope.Goals as goal

-- the last function has the scope
pub returns-in-Some : goal.returns-in-Some
returns-in-Some c =
    let func = c.in-Some.func.now in
    last_part_written c.push.result (with_scope c.args.scope) c.args.funcs.now func c.push.new.self (func.scopes ++ c.args.scope ∷ [])
    (λ scopes. record func { scopes = scopes }) c.in-Some.ensures.item.1 refl c.push.ensures.last
