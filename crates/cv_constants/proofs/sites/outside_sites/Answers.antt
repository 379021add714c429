use Rattle.cv_constants.proofs.Outside.{nothing_shown, turned}
use Rattle.cv_constants.proofs.sites.outside_sites.Goals as goal

pub loop-at-init : goal.loop-at-init
loop-at-init c = nothing_shown c.args.symbols.now (record { symbols = c.new.result; ends = c.new-2.result }) c.new.ensures.items c.new-2.ensures.items

pub returns : goal.returns
returns c = turned c.args.symbols.now c.loop-at.at c.loop-at.shown c.reverse.new.self.items c.loop-at-test.false c.loop-at.invariant c.reverse.ensures.items
