use Rattle.std.proofs.lemmas.Result.{on_ok_weaker}
use Rattle.layout_lines.specs.Sets.{layout_text}
use Rattle.layout_reader.proofs.ReadBack.{read_as}
use Rattle.layout_file.proofs.writer.write.Goals as goal

-- what spells the set is read as it
pub returns-else-is_err-clause-read_back : goal.returns-else-is_err-clause-read_back
returns-else-is_err-clause-read_back c =
    let set = c.args.set.now in
    on_ok_weaker c.put_set-done.result (λ spelled is bounded. read_as set (layout_text set) (spelled is bounded)) c.put_set-done.ensures.spelled
