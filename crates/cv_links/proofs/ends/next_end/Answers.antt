use Rattle.std.proofs.Common.{ℕ, length, ap, ◌∙◌, Option}
use Rattle.cv_type_defs.specs.Links.{meant, target, through}
use Rattle.cv_links.proofs.ends.next_end.Goals as goal

pub returns-in-Some : goal.returns-in-Some
returns-in-Some c =
    let records = c.args.records.now in
    let n = length c.args.ends.now in
    c.led.ensures records c.requires.ends ∙ ap (λ (o : Option ℕ). through o (target records n) (meant records n)) c.in-Some.ensures

pub returns-in-None : goal.returns-in-None
returns-in-None c =
    let records = c.args.records.now in
    let n = length c.args.ends.now in
    c.meant.ensures ∙ ap (λ (o : Option ℕ). through o (target records n) (meant records n)) c.in-None.ensures
