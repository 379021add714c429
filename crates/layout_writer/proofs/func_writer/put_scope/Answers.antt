use Rattle.std.proofs.lemmas.Result.{on_ok_weaker}
use Rattle.layout_writer.proofs.FuncLines.{scope_has_lines}
use Rattle.layout_writer.proofs.func_writer.put_scope.Goals as goal

-- the line of the scope, and those of its variables
pub returns-clause-lines : goal.returns-clause-lines
returns-clause-lines c =
    on_ok_weaker c.put_vars.result
    (scope_has_lines c.args.scope.now c.as_slice.result.now c.as_slice.ensures c.in_ok-put_scope_line.ensures.words) c.put_vars.ensures.lines
