use Rattle.snapshot_file.proofs.Putting.{abuts_test}
use Rattle.snapshot_file.proofs.mem.abuts.Goals as goal

pub returns-in-Some : goal.returns-in-Some
returns-in-Some c =
    let item = c.in-Some.ensures.item in
    abuts_test c.args.spans.now c.args.at c.in-Some.span.now c.checked_sub.result c.eq.result item.3.0 item.1 c.checked_sub.ensures c.eq.ensures
