use Rattle.std.proofs.lemmas.Result.{on_ok_weaker}
use Rattle.layout_writer.proofs.FuncLines.{func_has_lines}
use Rattle.layout_writer.proofs.func_writer.put_func.Goals as goal

-- the line of the function, and those of its scopes
pub returns-clause-lines : goal.returns-clause-lines
returns-clause-lines c =
    on_ok_weaker c.put_scopes.result
    (func_has_lines c.args.func.now c.as_slice.result.now c.as_slice.ensures c.in_ok-put_func_line.ensures.words) c.put_scopes.ensures.lines
