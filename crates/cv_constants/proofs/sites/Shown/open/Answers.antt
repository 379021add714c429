use Rattle.std.proofs.Common.{refl, ap, ◌∙◌, arith}
use Rattle.cv_constants.proofs.Outside.{no_items, site_hidden, site_put, symbols_in, taken}
use Rattle.cv_constants.proofs.sites.Shown.open.Goals as goal

pub returns-in-Some : goal.returns-in-Some
returns-in-Some c = λ rest opens closes are.
    site_hidden c.args.symbol.now rest c.args.self.now (record { symbols = c.truncate.new.self; ends = c.pop.new.self }) c.in-Some.shown closes opens
    c.in-Some.ensures.items (ap symbols_in c.truncate.ensures.items ∙ taken c.in-Some.shown c.args.self.now.symbols.items) are

pub returns-in-None : goal.returns-in-None
returns-in-None c =
    site_put c.show.result c.args.symbol.now c.args.self.now (record { symbols = c.args.self.now.symbols; ends = c.pop.new.self }) c.show.new.self
    (no_items c.args.self.now.ends.items (omega (arith, c.args.self.now.ends.ok, c.in-None.ensures.cases.0)))
    (no_items c.pop.new.self.items (omega (arith, c.pop.new.self.ok, c.in-None.ensures.cases.1))) refl
    c.show.ensures.symbols c.show.ensures.ends
