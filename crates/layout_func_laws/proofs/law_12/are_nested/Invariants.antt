use Rattle.std.proofs.Common.{ℕ, ◌<◌}
use Rattle.layout_func_laws.specs.OpenScopes.{AreOpen, NestsAt}
use Rattle.layout_func_laws.proofs.law_12.are_nested.Given as goal

-- the scopes so far nest, and these are the zones of those that are still open
abbrev pub invariant-loop-scope : goal.invariant-loop-scope
invariant-loop-scope l = AreOpen l.scopes l.scope-index l.around.items × ((j : ℕ) → j < l.scope-index → NestsAt l.scopes j)
