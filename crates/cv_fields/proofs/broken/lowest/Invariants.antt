use Rattle.std.proofs.Common.{◌≡◌, drop}
use Rattle.cv_type_defs.specs.Items.{lower, lowest}
use Rattle.cv_fields.proofs.broken.lowest.Given as goal

-- the lower of the lowest so far and of that of the rules that are left is the lowest
abbrev pub invariant-loop-rule : goal.invariant-loop-rule
invariant-loop-rule l = lower l.low (lowest (drop l.rule-index l.rules)) ≡ lowest l.rules
