use Rattle.std.proofs.Common.{refl, ◌++◌, ◌∷◌, []}
use Rattle.layout_builder.specs.Additions.{with_entry}
use Rattle.layout_builder.proofs.WithLast.{last_part_written}
use Rattle.layout_builder.proofs.func_addition.add_entry_to_vars.Goals as goal

-- the last variable has the entry
pub returns-in-Some : goal.returns-in-Some
returns-in-Some c =
    let var = c.in-Some.var.now in
    last_part_written c.push.result (with_entry c.args.entry) c.args.vars.now var c.push.new.self (var.entries ++ c.args.entry ∷ [])
    (λ entries. record var { entries = entries }) c.in-Some.ensures.item.1 refl c.push.ensures.last
