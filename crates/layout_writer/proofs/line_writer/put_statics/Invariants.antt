use Rattle.std.proofs.Common.{◌≡◌, ◌++◌, map, take}
use Rattle.std.specs.List.{flat_map, All}
use Rattle.layout_set.specs.IsSet.{IsNamed}
use Rattle.layout_lines.specs.declared.line.Line.TheVariants as lines
use Rattle.layout_lines.specs.Lines.{IsLine}
use Rattle.layout_lines.specs.Sets.{part_text}
use Rattle.layout_writer.proofs.line_writer.put_statics.Given as goal

-- the lines so far are put, and are lines
abbrev pub invariant-loop-item : goal.invariant-loop-item
invariant-loop-item l = record {
  put : l.out ≡ l.initial.out ++ flat_map part_text (map (λ s. lines.Static s) (take l.item-index l.statics));
  are_lines : All (λ s. IsNamed s.name → IsLine (lines.Static s)) (take l.item-index l.statics);
}
