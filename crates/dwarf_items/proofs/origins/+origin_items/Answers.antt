use Rattle.std.proofs.Common.{◌∙◌, ap, map}
use Rattle.std.proofs.lemmas.Result.{err_from_is_err_and}
use Rattle.dwarf_dies.specs.Attributes.{attribute_kept}
use Rattle.dwarf_items.specs.Lacks.{wants_of}
use Rattle.dwarf_scopes.specs.Roles.{role_meant}
use Rattle.dwarf_items.proofs.OriginSteps.{end_more, last_more, last_stops, leads_is, led_more, led_stops, origin_done, origin_stops, own_stops}
use Rattle.dwarf_items.proofs.origins.+origin_items.Goals as goal
use Rattle.dwarf_items.proofs.origins.+origin_items.Goals.{then-leads_on+in_ok-own_item+in-Some+in_ok-origin_items, then-leads_on+in_ok-own_item+in_default, else-leads_on+in_ok-last_attribute}

pub returns-in_err-own_item : goal.returns-in_err-own_item
returns-in_err-own_item t c =
    let p = err_from_is_err_and c.from_residual-in_err-own_item.result c.from_residual-in_err-own_item.ensures.1 in
    let role = role_meant c.args.role in
    let w = wants_of c.args.lacks in
    let o = c.args.origin.now in
    let items = c.as_slice-attribute-items.result.now in
    let i = c.loop-attribute.attribute-index in
    let leads = leads_is c.args.steps _ _ (wants_of c.still-left.result) _ c.if-leads_on.ensures c.still-left.ensures in
    rw (p.1, p.2)
    (origin_stops c.args.steps role w o items i _ (ap (map attribute_kept) c.as_slice-attribute-items.ensures ∙ c.in_ok-firsts.ensures) c.loop-attribute.invariant
    (own_stops c.args.steps role w o items i _ _ c.loop-attribute-test.true leads c.in_err-own_item.ensures))

pub returns-in_err-origin_items : goal.returns-in_err-origin_items
returns-in_err-origin_items t c =
    let p = err_from_is_err_and c.from_residual-in_err-origin_items.result c.from_residual-in_err-origin_items.ensures.1 in
    let role = role_meant c.args.role in
    let w = wants_of c.args.lacks in
    let o = c.args.origin.now in
    let items = c.as_slice-attribute-items.result.now in
    let i = c.loop-attribute.attribute-index in
    let leads = leads_is c.args.steps _ _ (wants_of c.still-left.result) _ c.if-leads_on.ensures c.still-left.ensures in
    rw (p.1, p.2)
    (origin_stops c.args.steps role w o items i _ (ap (map attribute_kept) c.as_slice-attribute-items.ensures ∙ c.in_ok-firsts.ensures) c.loop-attribute.invariant
    (led_stops c.args.steps role w o items i _ _ c.in-Some.next (wants_of c.still-left.result) c.loop-attribute-test.true leads c.in_ok-own_item.ensures c.in-Some.ensures c.still-left.ensures c.in_err-origin_items.ensures))

pub returns-in_err-last_attribute : goal.returns-in_err-last_attribute
returns-in_err-last_attribute t c =
    let p = err_from_is_err_and c.from_residual-in_err-last_attribute.result c.from_residual-in_err-last_attribute.ensures.1 in
    let role = role_meant c.args.role in
    let w = wants_of c.args.lacks in
    let o = c.args.origin.now in
    let items = c.as_slice-attribute-items.result.now in
    let i = c.loop-attribute.attribute-index in
    let leads = leads_is c.args.steps _ _ (wants_of c.still-left.result) _ c.if-leads_on.ensures c.still-left.ensures in
    rw (p.1, p.2)
    (origin_stops c.args.steps role w o items i _ (ap (map attribute_kept) c.as_slice-attribute-items.ensures ∙ c.in_ok-firsts.ensures) c.loop-attribute.invariant
    (last_stops c.args.steps role w o items i _ _ c.loop-attribute-test.true leads c.in_err-last_attribute.ensures))

pub loop-attribute-preserved : goal.loop-attribute-preserved
loop-attribute-preserved t c =
    let role = role_meant c.args.role in
    let w = wants_of c.args.lacks in
    let o = c.args.origin.now in
    let items = c.as_slice-attribute-items.result.now in
    let i = c.loop-attribute.attribute-index in
    let l = wants_of c.still-left.result in
    elim c.if-leads_on.branch [
      | then-leads_on+in_ok-own_item+in-Some+in_ok-origin_items b ↦
          c.loop-attribute.invariant ∙ led_more c.args.steps role w o items i _ b.in-Some.next l c.loop-attribute-test.true (leads_is c.args.steps _ _ l _ b.if-leads_on.ensures c.still-left.ensures) b.in_ok-own_item.ensures b.in-Some.ensures c.still-left.ensures b.in_ok-origin_items.ensures
      | then-leads_on+in_ok-own_item+in_default b ↦
          c.loop-attribute.invariant ∙ end_more c.args.steps role w o items i _ c.loop-attribute-test.true (leads_is c.args.steps _ _ l _ b.if-leads_on.ensures c.still-left.ensures) b.in_ok-own_item.ensures b.in_default.ensures
      | else-leads_on+in_ok-last_attribute b ↦
          c.loop-attribute.invariant ∙ last_more c.args.steps role w o items i _ c.loop-attribute-test.true (leads_is c.args.steps _ _ l _ b.if-leads_on.ensures c.still-left.ensures) b.in_ok-last_attribute.ensures
    ]

pub returns : goal.returns
returns t c =
    origin_done c.args.steps (role_meant c.args.role) (wants_of c.args.lacks) c.args.origin.now c.as_slice-attribute-items.result.now c.loop-attribute.attribute-index c.around_items.result
    (ap (map attribute_kept) c.as_slice-attribute-items.ensures ∙ c.in_ok-firsts.ensures) c.loop-attribute.invariant c.loop-attribute-test.false c.around_items.ensures
