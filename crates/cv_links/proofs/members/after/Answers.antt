use Rattle.std.proofs.Common.{◌∷◌, sym, ap, ◌∙◌}
use Rattle.cv_type_defs.specs.FieldLists.{members_below}
use Rattle.cv_links.specs.Lists.{placed, still}
use Rattle.cv_links.proofs.Chains.{one_more, rest_items, still_begun}
use Rattle.cv_links.proofs.members.after.Goals as goal

pub returns-in-Some : goal.returns-in-Some
returns-in-Some c =
    let records = c.args.records.now in
    one_more records c.args.list c.args.member.now c.args.rest.now
    ∙ ap (λ l. placed c.args.list c.args.member.now ∷ l) (
    ap (rest_items records c.args.list c.args.rest.now) (sym c.in-Some.ensures)
    ∙ still_begun records c.part_below.result (members_below records c.args.list c.in-Some.index) c.part_below.ensures.members
    ∙ ap (still records) (sym c.ok.ensures.value))

pub returns-in-None : goal.returns-in-None
returns-in-None c =
    one_more c.args.records.now c.args.list c.args.member.now c.args.rest.now
    ∙ ap (λ l. placed c.args.list c.args.member.now ∷ l) (ap (rest_items c.args.records.now c.args.list c.args.rest.now) (sym c.in-None.ensures))
