use Rattle.std.proofs.Common.{◌∙◌, sym, ap}
use Rattle.dwarf_items.specs.Firsts.{is_new}
use Rattle.dwarf_items.proofs.LowFirsts.{passed, taken}
use Rattle.dwarf_items.proofs.firsts.first_attributes.Goals as goal

pub loop-attribute-preserved-in-Continue-1 : goal.loop-attribute-preserved-in-Continue-1
loop-attribute-preserved-in-Continue-1 c =
    let new = sym (c.is_new.ensures ∙ ap (λ l. is_new l c.in-Some-read_next.attribute.attr) c.as_slice.ensures) ∙ c.if-is_new.true in
    rw (c.in_ok-push.ensures.last, c.in-Some-read_next.ensures.rest)
    (taken c.loop-attribute.firsts c.in-Some-read_next.attribute c.loop-attribute.attributes (sym c.in-Some-read_next.ensures.first) new ∙ c.loop-attribute.invariant)

pub loop-attribute-preserved : goal.loop-attribute-preserved
loop-attribute-preserved c =
    let old = sym (c.is_new.ensures ∙ ap (λ l. is_new l c.in-Some-read_next.attribute.attr) c.as_slice.ensures) ∙ c.if-is_new.false in
    rw c.in-Some-read_next.ensures.rest
    (passed c.loop-attribute.firsts c.in-Some-read_next.attribute c.loop-attribute.attributes (sym c.in-Some-read_next.ensures.first) old ∙ c.loop-attribute.invariant)
