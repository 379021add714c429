use Rattle.std.proofs.Common.{◌≡◌, ◌++◌, take}
use Rattle.std.specs.List.{flat_map, All}
use Rattle.layout_lines.specs.Sets.{part_text, func_lines}
use Rattle.layout_writer.proofs.FuncLines.{FuncHasLines}
use Rattle.layout_writer.proofs.func_writer.put_funcs.Given as goal

-- the lines so far are put, and those of functions that are named and not too large are lines
abbrev pub invariant-loop-func : goal.invariant-loop-func
invariant-loop-func l = record {
  put : l.out ≡ l.initial.out ++ flat_map part_text (flat_map func_lines (take l.func-index l.funcs));
  are_lines : All FuncHasLines (take l.func-index l.funcs);
}
