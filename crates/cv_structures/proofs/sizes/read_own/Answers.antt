use Rattle.std.proofs.Common.{◌∷◌, [], length, sym, ap, subst, ◌∙◌, arith, length-append}
use Rattle.cv_type_defs.specs.Records.{kind_at}
use Rattle.cv_structures.specs.steps.Sizes.{AreOwn, own_size}
use Rattle.cv_structures.proofs.Places.{one_own}
use Rattle.cv_structures.proofs.sizes.read_own.Goals as goal

pub loop-alloc-preserved : goal.loop-alloc-preserved
loop-alloc-preserved c =
    let info = c.args.info.now in
    let old = c.loop-alloc.own.items in
    let size = c.in_ok-size.size in
    let items = c.in_ok-push.ensures.items in
    record {
      are = subst (AreOwn info) (sym items) (one_own info old size c.loop-alloc.invariant.are (c.in_ok-size.ensures ∙ ap (λ n. own_size info n (kind_at info.records n)) (c.len-in-loop-alloc-2.ensures ∙ c.loop-alloc.own.ok.0)));
      few = omega (arith, ap length items, length-append old (size ∷ []), c.loop-alloc-test.true, c.len.ensures, c.len-in-loop-alloc.ensures, ap length c.links.ensures, c.loop-alloc.own.ok.0);
    }
