use Rattle.std.specs.Prelude.{◌≡◌, ◌+◌, drop}
use Rattle.dwarf_names.proofs.JoinedTexts.{cost}
use Rattle.dwarf_names.proofs.name.is_long.Given as goal

-- what is left and what the scopes so far take are as many bytes as a name may have
abbrev pub invariant-loop-scope : goal.invariant-loop-scope
invariant-loop-scope l = cost (drop l.scope-index l.scopes) + 65535 ≡ cost l.scopes + l.left
