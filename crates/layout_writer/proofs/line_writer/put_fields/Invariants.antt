use Rattle.std.proofs.Common.{◌≡◌, ◌++◌, map, take}
use Rattle.std.specs.List.{flat_map, All}
use Rattle.layout_lines.specs.declared.line.Line.TheVariants as lines
use Rattle.layout_lines.specs.Lines.{IsLine}
use Rattle.layout_lines.specs.Sets.{part_text}
use Rattle.layout_writer.proofs.line_writer.put_fields.Given as goal

-- the lines so far are put, and are lines
abbrev pub invariant-loop-field : goal.invariant-loop-field
invariant-loop-field l = record {
  put : l.out ≡ l.initial.out ++ flat_map part_text (map (λ f. lines.Field f) (take l.field-index l.fields));
  are_lines : All (λ f. IsLine (lines.Field f)) (take l.field-index l.fields);
}
