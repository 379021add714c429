use Rattle.std.proofs.Common.{arith}
use Rattle.std.proofs.lemmas.Grind.{common_steps}
use Rattle.layout_writer.proofs.EachLine.{each_more, each_all}
use Rattle.layout_writer.proofs.FuncLines.{FuncHasLines, funcs_lines}
use Rattle.layout_writer.proofs.func_writer.put_funcs.Goals as goal

-- the lines of one more function are put, and are lines where it is named and not too large
pub loop-func-preserved : goal.loop-func-preserved
loop-func-preserved c =
    let l = c.loop-func in
    let func = c.func-item in
    let funcs = c.args.funcs.now in
    record {
      put = grind (arith, common_steps);
      are_lines = each_more FuncHasLines funcs l.func-index func.result c.loop-func-test.true func.is c.in_ok-put_func.ensures.lines l.invariant.are_lines;
    }

-- all of them are lines, where the functions are named and not too large
pub returns-clause-lines : goal.returns-clause-lines
returns-clause-lines c =
    let l = c.loop-func in
    let funcs = c.args.funcs.now in
    funcs_lines funcs (each_all FuncHasLines funcs l.func-index c.loop-func-test.false l.invariant.are_lines)
