use Rattle.std.proofs.Common.{◌≡◌, ◌++◌, take}
use Rattle.std.specs.List.{flat_map, All}
use Rattle.layout_lines.specs.Lines.{IsLine}
use Rattle.layout_lines.specs.Sets.{part_text, variant_lines}
use Rattle.layout_writer.proofs.line_writer.put_variants.Given as goal

-- the lines so far are put, and are lines
abbrev pub invariant-loop-variant : goal.invariant-loop-variant
invariant-loop-variant l = record {
  put : l.out ≡ l.initial.out ++ flat_map part_text (flat_map variant_lines (take l.variant-index l.variants));
  are_lines : All (λ v. All IsLine (variant_lines v)) (take l.variant-index l.variants);
}
