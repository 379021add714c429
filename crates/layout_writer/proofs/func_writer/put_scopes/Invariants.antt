use Rattle.std.proofs.Common.{◌≡◌, ◌++◌, take}
use Rattle.std.specs.List.{flat_map, All}
use Rattle.layout_lines.specs.Sets.{part_text, scope_lines}
use Rattle.layout_set.specs.Counts.{scope_parts}
use Rattle.layout_writer.proofs.FuncLines.{HasLines}
use Rattle.layout_writer.proofs.func_writer.put_scopes.Given as goal

-- the lines so far are put, and those of scopes that are not too large are lines
abbrev pub invariant-loop-scope : goal.invariant-loop-scope
invariant-loop-scope l = record {
  put : l.out ≡ l.initial.out ++ flat_map part_text (flat_map scope_lines (take l.scope-index l.scopes));
  are_lines : All (HasLines scope_parts scope_lines) (take l.scope-index l.scopes);
}
