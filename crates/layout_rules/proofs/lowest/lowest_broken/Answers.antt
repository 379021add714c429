use Rattle.std.proofs.Common.{◌≡◌, ◌∙◌, sym, ap, drop, None}
use Rattle.layout_rules.specs.LineRules.{lower, lowest_broken}
use Rattle.layout_words.specs.Steps.{lent}
use Rattle.layout_rules.proofs.ItemRules.{lower_none, lowest_none}
use Rattle.layout_rules.proofs.lowest.lowest_broken.Goals as goal

pub returns-in_default : goal.returns-in_default
returns-in_default c =
    let rest = drop c.loop-place.place-index c.args.places.now in
    let none : lent c.loop-place.left ≡ None = ap lent c.in_default.is in
    let all : lowest_broken c.args.next rest (lent c.loop-place.left) ≡ None = ap (lowest_broken c.args.next rest) none ∙ lowest_none c.args.next rest in
    sym (lower_none c.loop-place.lowest) ∙ ap (lower c.loop-place.lowest) (sym all) ∙ c.loop-place.invariant
