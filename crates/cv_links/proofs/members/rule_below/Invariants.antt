use Rattle.std.proofs.Common.{◌≡◌}
use Rattle.cv_type_defs.specs.FieldLists.{members_below}
use Rattle.cv_links.proofs.Chains.{rest_rule, steps_left}
use Rattle.cv_links.proofs.members.rule_below.Given as goal

-- the rule is that of what is left
abbrev pub invariant-loop-next : goal.invariant-loop-next
invariant-loop-next l = rest_rule l.records l.at l.next ≡ (members_below l.records l.place l.fields).rule

abbrev pub decreases-loop-next : goal.decreases-loop-next
decreases-loop-next l = steps_left l.at l.next
