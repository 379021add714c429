use Rattle.std.proofs.Common.{◌≡◌, ◌+◌, ◌∷◌, [], ℕ, List, Some, length, slice_get, sym, ap, subst, ◌∙◌, arith, length-append}
use Rattle.std.proofs.lemmas.List.Sums.{count_by_more_no, count_by_more_yes}
use Rattle.cv_type_defs.specs.Numbering.{is_numbered, numbered_before}
use Rattle.cv_type_records.specs.declared.kinds.TypeRec.{TypeRec}
use Rattle.cv_links.proofs.Counted.{one_more}
use Rattle.cv_links.proofs.numbers.read_numbers.Goals as goal
use Rattle.cv_links.proofs.numbers.read_numbers.Goals.{then-is_numbered, else-is_numbered}

pub loop-next-preserved : goal.loop-next-preserved
loop-next-preserved c =
    let records = c.args.records.now in
    let i = c.loop-next.next-index in
    let old = c.loop-next.numbers.items in
    let items = c.in_ok-push.ensures.items in
    let inv = c.loop-next.invariant in
    record {
      each = λ place n e. one_more records old c.loop-next.count inv.each (inv.count ∙ ap (numbered_before records) (sym inv.many)) place n (subst (λ (l : List ℕ). slice_get l place ≡ Some n) items e);
      many = omega (arith, ap length items, length-append old (c.loop-next.count ∷ []), inv.many);
      count = elim c.if-is_numbered.branch [
        | then-is_numbered w ↦ w.count-is ∙ ap (λ n. n + 1) inv.count ∙ sym (count_by_more_yes (λ (r : TypeRec). is_numbered r.kind) records i c.next-item.result c.loop-next-test.true (ap (λ (r : TypeRec). is_numbered r.kind) (sym c.next-item.is) ∙ sym c.is_numbered.ensures ∙ w.if-is_numbered.true))
        | else-is_numbered w ↦ w.count-is ∙ inv.count ∙ sym (count_by_more_no (λ (r : TypeRec). is_numbered r.kind) records i c.next-item.result c.loop-next-test.true (ap (λ (r : TypeRec). is_numbered r.kind) (sym c.next-item.is) ∙ sym c.is_numbered.ensures ∙ w.if-is_numbered.false))
      ];
    }

pub returns : goal.returns
returns c =
    let records = c.args.records.now in
    let old = c.loop-next.numbers.items in
    let items = c.in_ok-push-2.ensures.items in
    let inv = c.loop-next.invariant in
    record {
      each = λ place n e. one_more records old c.loop-next.count inv.each (inv.count ∙ ap (numbered_before records) (sym inv.many)) place n (subst (λ (l : List ℕ). slice_get l place ≡ Some n) items e);
      all = omega (arith, ap length items, length-append old (c.loop-next.count ∷ []), inv.many, c.loop-next-test.false, c.loop-next.auto.next-index-end);
    }
