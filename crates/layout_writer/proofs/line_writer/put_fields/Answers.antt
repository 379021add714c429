use Rattle.std.proofs.Common.{arith}
use Rattle.std.proofs.lemmas.Grind.{common_steps}
use Rattle.std.proofs.lemmas.List.Elements.{All-map}
use Rattle.layout_lines.specs.declared.line.Line.TheVariants as lines
use Rattle.layout_lines.specs.Lines.{IsLine}
use Rattle.layout_writer.proofs.EachLine.{each_more, each_all}
use Rattle.layout_writer.proofs.line_writer.put_fields.Goals as goal

-- one more line is put, and is a line
pub loop-field-preserved : goal.loop-field-preserved
loop-field-preserved c =
    let l = c.loop-field in
    let field = c.field-item in
    let fields = c.args.fields.now in
    record {
      put = grind (arith, common_steps);
      are_lines = each_more (λ f. IsLine (lines.Field f)) fields l.field-index field.result c.loop-field-test.true field.is c.in_ok-put_field.ensures.line l.invariant.are_lines;
    }

-- all of them are lines
pub returns-clause-lines : goal.returns-clause-lines
returns-clause-lines c =
    let l = c.loop-field in
    let fields = c.args.fields.now in
    All-map IsLine (λ f. lines.Field f) fields (each_all (λ f. IsLine (lines.Field f)) fields l.field-index c.loop-field-test.false l.invariant.are_lines)
