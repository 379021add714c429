use Rattle.std.proofs.Common.{◌∙◌, ◌++◌, sym}
use Rattle.cv_enum_helpers.proofs.Backs.{fronts, no_back, whole_is}
use Rattle.cv_enum_helpers.proofs.called.is_front_with_two.Goals as goal

pub returns-in-Some : goal.returns-in-Some
returns-in-Some c =
    let text = c.args.text.now in
    let back = c.args.back.now in
    let rest = c.in-Some.rest.now in
    c.is_front_with.ensures ∙ fronts text rest (c.args.front.now ++ c.args.middle.now) back (whole_is text back rest c.in-Some.ensures.cases.0 c.in-Some.ensures.cases.1)

pub returns-in-None : goal.returns-in-None
returns-in-None c = sym (no_back c.args.text.now (c.args.front.now ++ c.args.middle.now) c.args.back.now c.in-None.ensures.cases)
