use Rattle.std.proofs.Common.{◌≡◌, ◌++◌, map, take}
use Rattle.std.specs.List.{flat_map, All}
use Rattle.layout_lines.specs.declared.line.Line.TheVariants as lines
use Rattle.layout_lines.specs.Lines.{IsLine}
use Rattle.layout_lines.specs.Sets.{part_text}
use Rattle.layout_writer.proofs.line_writer.put_params.Given as goal

-- the lines so far are put, and are lines
abbrev pub invariant-loop-param : goal.invariant-loop-param
invariant-loop-param l = record {
  put : l.out ≡ l.initial.out ++ flat_map part_text (map (λ p. lines.Param p) (take l.param-index l.params));
  are_lines : All (λ p. IsLine (lines.Param p)) (take l.param-index l.params);
}
