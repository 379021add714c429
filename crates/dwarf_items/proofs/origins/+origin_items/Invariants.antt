use Rattle.std.proofs.Common.{◌≡◌, drop}
use Rattle.dwarf_items.proofs.OriginSteps.{fault_from}
use Rattle.dwarf_items.specs.Lacks.{wants_of}
use Rattle.dwarf_scopes.specs.Roles.{role_meant}
use Rattle.dwarf_items.proofs.origins.+origin_items.Given as goal

abbrev pub decreases-origin_items : goal.decreases-origin_items
decreases-origin_items l = l.steps

-- the attributes so far break no rule
abbrev pub invariant-loop-attribute : goal.invariant-loop-attribute
invariant-loop-attribute l =
    fault_from l.steps (role_meant l.role) (wants_of l.lacks) l.origin l.attribute-items ≡ fault_from l.steps (role_meant l.role) (wants_of l.lacks) l.origin (drop l.attribute-index l.attribute-items)
