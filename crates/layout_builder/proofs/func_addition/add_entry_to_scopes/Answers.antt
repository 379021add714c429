use Rattle.std.proofs.Common.{refl}
use Rattle.layout_builder.specs.Additions.{with_last, with_entry, with_entry_in_scope}
use Rattle.layout_builder.proofs.WithLast.{last_part_written}
use Rattle.layout_builder.proofs.func_addition.add_entry_to_scopes.Goals as goal

-- the last scope has the entry of its last variable
pub returns-in-Some : goal.returns-in-Some
returns-in-Some c =
    let scope = c.in-Some.scope.now in
    last_part_written c.add_entry_to_vars.result (with_entry_in_scope c.args.entry) c.args.scopes.now scope c.add_entry_to_vars.new.vars
    (with_last (with_entry c.args.entry) scope.vars)
    (λ vars. record scope { vars = vars }) c.in-Some.ensures.item.1 refl c.add_entry_to_vars.ensures
