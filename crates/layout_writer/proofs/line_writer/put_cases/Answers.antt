use Rattle.std.proofs.Common.{arith}
use Rattle.std.proofs.lemmas.Grind.{common_steps}
use Rattle.std.proofs.lemmas.List.Elements.{All-map}
use Rattle.layout_lines.specs.declared.line.Line.TheVariants as lines
use Rattle.layout_lines.specs.Lines.{IsLine}
use Rattle.layout_writer.proofs.EachLine.{each_more, each_all}
use Rattle.layout_writer.proofs.line_writer.put_cases.Goals as goal

-- one more line is put, and is a line
pub loop-case-preserved : goal.loop-case-preserved
loop-case-preserved c =
    let l = c.loop-case in
    let case = c.case-item in
    let cases = c.args.cases.now in
    record {
      put = grind (arith, common_steps);
      are_lines = each_more (λ c. IsLine (lines.Case c)) cases l.case-index case.result c.loop-case-test.true case.is c.in_ok-put_case.ensures.line l.invariant.are_lines;
    }

-- all of them are lines
pub returns-clause-lines : goal.returns-clause-lines
returns-clause-lines c =
    let l = c.loop-case in
    let cases = c.args.cases.now in
    All-map IsLine (λ c. lines.Case c) cases (each_all (λ c. IsLine (lines.Case c)) cases l.case-index c.loop-case-test.false l.invariant.are_lines)
