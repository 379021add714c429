use Rattle.std.proofs.Common.{arith}
use Rattle.std.proofs.lemmas.Grind.{common_steps}
use Rattle.layout_set.specs.Counts.{scope_parts}
use Rattle.layout_lines.specs.Sets.{scope_lines}
use Rattle.layout_writer.proofs.EachLine.{each_more, each_all}
use Rattle.layout_writer.proofs.FuncLines.{HasLines, all_lines}
use Rattle.layout_writer.proofs.func_writer.put_scopes.Goals as goal

-- the lines of one more scope are put, and are lines where it is not too large
pub loop-scope-preserved : goal.loop-scope-preserved
loop-scope-preserved c =
    let l = c.loop-scope in
    let scope = c.scope-item in
    let scopes = c.args.scopes.now in
    record {
      put = grind (arith, common_steps);
      are_lines = each_more (HasLines scope_parts scope_lines) scopes l.scope-index scope.result c.loop-scope-test.true scope.is c.in_ok-put_scope.ensures.lines l.invariant.are_lines;
    }

-- all of them are lines, where the scopes are not too large
pub returns-clause-lines : goal.returns-clause-lines
returns-clause-lines c =
    let l = c.loop-scope in
    let scopes = c.args.scopes.now in
    all_lines scope_parts scope_lines scopes (each_all (HasLines scope_parts scope_lines) scopes l.scope-index c.loop-scope-test.false l.invariant.are_lines)
