use Rattle.std.proofs.Common.{sym}
use Rattle.dwarf_items.specs.Lacks.{wants_of}
use Rattle.dwarf_scopes.specs.Roles.{role_meant}
use Rattle.dwarf_items.proofs.OriginSteps.{origins_led}
use Rattle.dwarf_items.proofs.origins.origins_items.Goals as goal

pub returns-in-Some : goal.returns-in-Some
returns-in-Some c =
    origins_led (role_meant c.args.role) c.args.die.now c.in-Some.origin (wants_of c.still-lacks.result) c.origin_items.result (sym c.if-not-any.ensures) c.still-lacks.ensures c.in-Some.ensures c.origin_items.ensures
