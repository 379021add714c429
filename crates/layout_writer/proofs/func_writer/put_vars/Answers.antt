use Rattle.std.proofs.Common.{arith}
use Rattle.std.proofs.lemmas.Grind.{common_steps}
use Rattle.layout_set.specs.Counts.{var_parts}
use Rattle.layout_lines.specs.Sets.{var_lines}
use Rattle.layout_writer.proofs.EachLine.{each_more, each_all}
use Rattle.layout_writer.proofs.FuncLines.{HasLines, all_lines}
use Rattle.layout_writer.proofs.func_writer.put_vars.Goals as goal

-- the lines of one more variable are put, and are lines where it is not too large
pub loop-var-preserved : goal.loop-var-preserved
loop-var-preserved c =
    let l = c.loop-var in
    let var = c.var-item in
    let vars = c.args.vars.now in
    record {
      put = grind (arith, common_steps);
      are_lines = each_more (HasLines var_parts var_lines) vars l.var-index var.result c.loop-var-test.true var.is c.in_ok-put_var.ensures.lines l.invariant.are_lines;
    }

-- all of them are lines, where the variables are not too large
pub returns-clause-lines : goal.returns-clause-lines
returns-clause-lines c =
    let l = c.loop-var in
    let vars = c.args.vars.now in
    all_lines var_parts var_lines vars (each_all (HasLines var_parts var_lines) vars l.var-index c.loop-var-test.false l.invariant.are_lines)
