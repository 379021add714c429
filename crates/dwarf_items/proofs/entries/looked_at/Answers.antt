use Rattle.std.proofs.Common.{◌∙◌, ap, map}
use Rattle.std.proofs.lemmas.Result.{err_from_is_err_and}
use Rattle.dwarf_dies.specs.Attributes.{attribute_kept}
use Rattle.dwarf_items.proofs.Rows.{looked_done, looked_more, looked_stops}
use Rattle.dwarf_items.proofs.entries.looked_at.Goals as goal

pub returns-in_err-attribute_items : goal.returns-in_err-attribute_items
returns-in_err-attribute_items c =
    let p = err_from_is_err_and c.from_residual-in_err-attribute_items.result c.from_residual-in_err-attribute_items.ensures.1 in
    rw (p.1, p.2)
    (looked_stops c.args.die.now c.as_slice-attribute-items.result.now c.loop-attribute.attribute-index _ _ (ap (map attribute_kept) c.as_slice-attribute-items.ensures ∙ c.in_ok-firsts.ensures) c.loop-attribute.invariant
    c.loop-attribute-test.true c.in_err-attribute_items.ensures)

pub loop-attribute-preserved : goal.loop-attribute-preserved
loop-attribute-preserved c =
    c.loop-attribute.invariant ∙ looked_more c.args.die.now c.as_slice-attribute-items.result.now c.loop-attribute.attribute-index _ c.loop-attribute-test.true c.in_ok-attribute_items.ensures

pub returns : goal.returns
returns c =
    looked_done c.args.die.now c.as_slice-attribute-items.result.now c.loop-attribute.attribute-index (ap (map attribute_kept) c.as_slice-attribute-items.ensures ∙ c.in_ok-firsts.ensures) c.loop-attribute.invariant c.loop-attribute-test.false
