use Rattle.std.proofs.Common.{arith}
use Rattle.std.proofs.lemmas.Grind.{common_steps}
use Rattle.std.proofs.lemmas.List.Elements.{All-map}
use Rattle.layout_lines.specs.declared.line.Line.TheVariants as lines
use Rattle.layout_lines.specs.Lines.{IsLine}
use Rattle.layout_writer.proofs.EachLine.{each_more, each_all}
use Rattle.layout_writer.proofs.line_writer.put_params.Goals as goal

-- one more line is put, and is a line
pub loop-param-preserved : goal.loop-param-preserved
loop-param-preserved c =
    let l = c.loop-param in
    let param = c.param-item in
    let params = c.args.params.now in
    record {
      put = grind (arith, common_steps);
      are_lines = each_more (λ p. IsLine (lines.Param p)) params l.param-index param.result c.loop-param-test.true param.is c.in_ok-put_param.ensures.line l.invariant.are_lines;
    }

-- all of them are lines
pub returns-clause-lines : goal.returns-clause-lines
returns-clause-lines c =
    let l = c.loop-param in
    let params = c.args.params.now in
    All-map IsLine (λ p. lines.Param p) params (each_all (λ p. IsLine (lines.Param p)) params l.param-index c.loop-param-test.false l.invariant.are_lines)
