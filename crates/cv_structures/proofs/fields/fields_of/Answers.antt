use Rattle.std.proofs.Common.{map, subst}
use Rattle.cv_type_defs.specs.TypeRefs.{field_of, field_rule}
use Rattle.cv_structures.proofs.Growing.{AreLeft, next_fits, one_more}
use Rattle.cv_structures.proofs.fields.fields_of.Goals as goal

pub field_of-requires : goal.field_of-requires
field_of-requires c =
    let info = c.args.info.now in
    let whole = map (field_of info) c.args.fields in
    let now = subst (λ l. AreLeft (field_rule info) (field_of info) c.loop-field.made l whole) c.in-Some.ensures.steps c.loop-field.invariant in
    next_fits (field_rule info) (field_of info) c.loop-field.made c.in-Some.field c.next.new.self whole now

pub loop-field-preserved : goal.loop-field-preserved
loop-field-preserved c =
    let info = c.args.info.now in
    let whole = map (field_of info) c.args.fields in
    let now = subst (λ l. AreLeft (field_rule info) (field_of info) c.loop-field.made l whole) c.in-Some.ensures.steps c.loop-field.invariant in
    one_more (field_rule info) (field_of info) c.loop-field.made c.in-Some.field c.next.new.self whole now c.in_ok-one.one c.in_ok-one.ensures c.push.new.self c.in_ok-push.ensures.last
