use Rattle.std.proofs.Common.{refl}
use Rattle.layout_builder.specs.Additions.{with_last, with_entry_in_scope, with_entry_in_func}
use Rattle.layout_builder.proofs.WithLast.{last_part_written}
use Rattle.layout_builder.proofs.func_addition.add_entry.Goals as goal

-- the last function has the entry in its last scope
pub returns-in-Some : goal.returns-in-Some
returns-in-Some c =
    let func = c.in-Some.func.now in
    last_part_written c.add_entry_to_scopes.result (with_entry_in_func c.args.entry) c.args.funcs.now func c.add_entry_to_scopes.new.scopes
    (with_last (with_entry_in_scope c.args.entry) func.scopes)
    (λ scopes. record func { scopes = scopes }) c.in-Some.ensures.item.1 refl c.add_entry_to_scopes.ensures
