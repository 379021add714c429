use Rattle.std.proofs.Common.{sym, ◌∙◌}
use Rattle.cv_constants.proofs.Outside.{end_put, other_put}
use Rattle.cv_constants.proofs.sites.Shown.add.Goals as goal

pub returns-then-closes_site : goal.returns-then-closes_site
returns-then-closes_site c =
    end_put c.close.result c.args.symbol.now c.args.self.now c.close.new.self (sym c.closes_site.ensures ∙ c.if-closes_site.true) c.close.ensures.symbols c.close.ensures.ends

pub returns-else-opens_site : goal.returns-else-opens_site
returns-else-opens_site c =
    other_put c.show.result c.args.symbol.now c.args.self.now c.show.new.self (sym c.closes_site.ensures ∙ c.if-closes_site.false)
    (sym c.opens_site.ensures ∙ c.if-opens_site.false) c.show.ensures.symbols c.show.ensures.ends
