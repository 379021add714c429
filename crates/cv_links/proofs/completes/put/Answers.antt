use Rattle.std.proofs.Common.{sym, ◌∙◌}
use Rattle.cv_links.specs.Named.{place_of}
use Rattle.cv_links.proofs.Firsts.{no_place, put_new}
use Rattle.cv_links.proofs.completes.put.Goals as goal

pub returns-in_ok-insert : goal.returns-in_ok-insert
returns-in_ok-insert c =
    put_new c.args.places.now c.insert.new.self c.args.text c.args.place c.in_ok-insert.ensures.updates
    (no_place (place_of c.args.places.now c.args.text) (sym c.contains_key.ensures ∙ c.if-not-contains_key.true))
