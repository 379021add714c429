use Rattle.std.proofs.Common.{arith}
use Rattle.std.specs.List.{All}
use Rattle.std.proofs.lemmas.Grind.{common_steps}
use Rattle.layout_lines.specs.Lines.{IsLine}
use Rattle.layout_lines.specs.Sets.{variant_lines}
use Rattle.layout_writer.proofs.EachLine.{each_more, each_all, each_joined}
use Rattle.layout_writer.proofs.line_writer.put_variants.Goals as goal

-- the lines of one more variant are put, and are lines
pub loop-variant-preserved : goal.loop-variant-preserved
loop-variant-preserved c =
    let l = c.loop-variant in
    let variant = c.variant-item in
    let variants = c.args.variants.now in
    record {
      put = grind (arith, common_steps);
      are_lines = each_more (λ v. All IsLine (variant_lines v)) variants l.variant-index variant.result c.loop-variant-test.true variant.is c.in_ok-put_variant.ensures.lines l.invariant.are_lines;
    }

-- all of them are lines
pub returns-clause-lines : goal.returns-clause-lines
returns-clause-lines c =
    let l = c.loop-variant in
    let variants = c.args.variants.now in
    each_joined IsLine variant_lines variants (each_all (λ v. All IsLine (variant_lines v)) variants l.variant-index c.loop-variant-test.false l.invariant.are_lines)
