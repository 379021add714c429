use Rattle.std.proofs.Common.{◌≡◌, ◌<◌, ◌∙◌, sym, ap, Some, None, slice_get, arith}
use Rattle.std.proofs.lemmas.Option.{slice_get-get_or, slice_get_past}
use Rattle.layout_honest.proofs.Lying.{lies_user}
use Rattle.layout_honest.proofs.honesty.+lying.Goals as goal

pub lies-returns-in-Some : goal.lies-returns-in-Some
lies-returns-in-Some t c =
    let some : 0 < c.args.most = omega arith in
    let found = c.in-Some.ensures.lookup.3 in
    let types = c.args.types.now in
    let i = c.in-User.i in
    let def = c.in-Some.def.now in
    let at : slice_get types i ≡ Some def = slice_get-get_or types i def found.0 ∙ ap Some (sym (found.1 def)) in
    rw c.in-User.is (c.def_lies.ensures ∙ lies_user c.args.most types c.args.niche i c.args.off (Some def) some at)

pub lies-returns-in-None : goal.lies-returns-in-None
lies-returns-in-None t c =
    let some : 0 < c.args.most = omega arith in
    let at = slice_get_past c.args.types.now c.in-User.i c.in-None.ensures.lookup.3 in
    rw c.in-User.is (lies_user c.args.most c.args.types.now c.args.niche c.in-User.i c.args.off None some at)
