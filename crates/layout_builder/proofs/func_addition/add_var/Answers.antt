use Rattle.std.proofs.Common.{refl}
use Rattle.layout_builder.specs.Additions.{with_last, with_var, with_var_in_func}
use Rattle.layout_builder.proofs.WithLast.{last_part_written}
use Rattle.layout_builder.proofs.func_addition.add_var.Goals as goal

-- the last function has the variable in its last scope
pub returns-in-Some : goal.returns-in-Some
returns-in-Some c =
    let func = c.in-Some.func.now in
    last_part_written c.add_var_to_scopes.result (with_var_in_func c.args.var) c.args.funcs.now func c.add_var_to_scopes.new.scopes
    (with_last (with_var c.args.var) func.scopes)
    (λ scopes. record func { scopes = scopes }) c.in-Some.ensures.item.1 refl c.add_var_to_scopes.ensures
