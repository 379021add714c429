use Rattle.std.proofs.Common.{◌≡◌, drop}
use Rattle.cv_links.specs.Lists.{continued}
use Rattle.cv_links.proofs.members.continued.Given as goal

-- the members that are left go on where all do
abbrev pub invariant-loop-member : goal.invariant-loop-member
invariant-loop-member l = continued (drop l.member-index l.members) ≡ continued l.members
