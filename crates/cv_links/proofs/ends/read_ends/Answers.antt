use Rattle.std.proofs.Common.{◌∷◌, [], length, sym, ap, subst, ◌∙◌, arith, length-append}
use Rattle.cv_links.specs.Ends.{AreEnds, end_at}
use Rattle.cv_links.proofs.Reaches.{one_more}
use Rattle.cv_links.proofs.ends.read_ends.Goals as goal

pub loop-ends-preserved : goal.loop-ends-preserved
loop-ends-preserved c =
    let records = c.args.records.now in
    let old = c.loop-ends.ends.items in
    let end = c.next_end-end.result in
    let items = c.in_ok-push.ensures.items in
    record {
      are = subst (AreEnds records) (sym items) (one_more records old end c.loop-ends.invariant.are (c.next_end-end.ensures ∙ ap (λ l. end_at records (length l)) c.as_slice.ensures.value));
      few = omega (arith, ap length items, length-append old (end ∷ []), c.loop-ends-test.true);
    }
