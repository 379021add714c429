use Rattle.std.proofs.Common.{◌≡◌, ◌++◌, map, take}
use Rattle.std.specs.List.{flat_map, All}
use Rattle.layout_lines.specs.declared.line.Line.TheVariants as lines
use Rattle.layout_lines.specs.Lines.{IsLine}
use Rattle.layout_lines.specs.Sets.{part_text}
use Rattle.layout_writer.proofs.line_writer.put_cases.Given as goal

-- the lines so far are put, and are lines
abbrev pub invariant-loop-case : goal.invariant-loop-case
invariant-loop-case l = record {
  put : l.out ≡ l.initial.out ++ flat_map part_text (map (λ c. lines.Case c) (take l.case-index l.cases));
  are_lines : All (λ c. IsLine (lines.Case c)) (take l.case-index l.cases);
}
