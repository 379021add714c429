use Rattle.std.proofs.Common.{arith}
use Rattle.std.proofs.lemmas.Grind.{common_steps}
use Rattle.std.proofs.lemmas.List.Elements.{All-map}
use Rattle.layout_set.specs.IsSet.{IsNamed}
use Rattle.layout_lines.specs.declared.line.Line.TheVariants as lines
use Rattle.layout_lines.specs.Lines.{IsLine}
use Rattle.layout_writer.proofs.EachLine.{each_more, each_all, each_given}
use Rattle.layout_writer.proofs.line_writer.put_statics.Goals as goal

-- one more line is put, and is a line where its name is a name
pub loop-item-preserved : goal.loop-item-preserved
loop-item-preserved c =
    let l = c.loop-item in
    let item = c.item-item in
    let statics = c.args.statics.now in
    record {
      put = grind (arith, common_steps);
      are_lines = each_more (λ s. IsNamed s.name → IsLine (lines.Static s)) statics l.item-index item.result c.loop-item-test.true item.is c.in_ok-put_static.ensures.line l.invariant.are_lines;
    }

-- all of them are lines, where all names are names
pub returns-clause-lines : goal.returns-clause-lines
returns-clause-lines c = λ named.
    let l = c.loop-item in
    let statics = c.args.statics.now in
    let each = each_all (λ s. IsNamed s.name → IsLine (lines.Static s)) statics l.item-index c.loop-item-test.false l.invariant.are_lines in
    All-map IsLine (λ s. lines.Static s) statics (each_given (λ s. IsNamed s.name) (λ s. IsLine (lines.Static s)) statics each named)
