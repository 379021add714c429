use Rattle.std.proofs.lemmas.Result.{on_ok_weaker}
use Rattle.layout_writer.proofs.FuncLines.{var_has_lines}
use Rattle.layout_writer.proofs.func_writer.put_var.Goals as goal

-- the line of the variable, and those of its entries
pub returns-clause-lines : goal.returns-clause-lines
returns-clause-lines c =
    on_ok_weaker c.put_entries.result
    (var_has_lines c.args.var.now c.as_slice.result.now c.as_slice.ensures c.in_ok-put_var_line.ensures.words) c.put_entries.ensures.lines
