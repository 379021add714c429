use Rattle.std.proofs.Common.{◌≡◌, ◌++◌, take, IfSome}
use Rattle.std.specs.List.{flat_map, All}
use Rattle.layout_set.specs.DerivedNames.{name_of}
use Rattle.layout_set.specs.IsSet.{IsNamed}
use Rattle.layout_lines.specs.Lines.{IsLine}
use Rattle.layout_lines.specs.Sets.{type_lines, texts}
use Rattle.layout_writer.proofs.line_writer.put_types.Given as goal

-- the lines so far are put, and are lines
abbrev pub invariant-loop-number : goal.invariant-loop-number
invariant-loop-number l = record {
  put : l.out ≡ l.initial.out ++ texts 0 (flat_map type_lines (take l.number l.types));
  are_lines : All (λ t. IfSome (name_of t) IsNamed → All IsLine (type_lines t)) (take l.number l.types);
}
