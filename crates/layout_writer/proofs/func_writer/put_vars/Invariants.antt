use Rattle.std.proofs.Common.{◌≡◌, ◌++◌, take}
use Rattle.std.specs.List.{flat_map, All}
use Rattle.layout_lines.specs.Sets.{part_text, var_lines}
use Rattle.layout_set.specs.Counts.{var_parts}
use Rattle.layout_writer.proofs.FuncLines.{HasLines}
use Rattle.layout_writer.proofs.func_writer.put_vars.Given as goal

-- the lines so far are put, and those of variables that are not too large are lines
abbrev pub invariant-loop-var : goal.invariant-loop-var
invariant-loop-var l = record {
  put : l.out ≡ l.initial.out ++ flat_map part_text (flat_map var_lines (take l.var-index l.vars));
  are_lines : All (HasLines var_parts var_lines) (take l.var-index l.vars);
}
