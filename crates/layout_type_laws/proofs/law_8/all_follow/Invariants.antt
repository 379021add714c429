use Rattle.std.proofs.Common.{◌+◌}
use Rattle.std.specs.List.{AllWithin}
use Rattle.layout_set.specs.Law8.{FollowsNumbers}
use Rattle.layout_type_laws.proofs.law_8.all_follow.Given as goal

abbrev pub invariant-loop-variant : goal.invariant-loop-variant
invariant-loop-variant l = AllWithin (λ v. FollowsNumbers (l.greatest + 1) l.numbers v.sel) l.variants 0 l.variant-index
