use Rattle.std.proofs.Common.{◌≡◌, of_z, sym, to_z, to_z-of_z, ◌∙◌, arith, ap}
use Rattle.std.specs.Int.{w128}
use Rattle.std.specs.Option.{option_map}
use Rattle.cv_constants.specs.Named.{constant_seen}
use Rattle.cv_constants.proofs.Constants.{constant_added, other_added}
use Rattle.cv_constants.proofs.numbers.put.Goals as goal

pub returns-in_ok-insert : goal.returns-in_ok-insert
returns-in_ok-insert c = λ rest are.
    let number = c.in-Some.number in
    let same : to_z w128 (of_z w128 number) ≡ number = grind (arith, to_z-of_z) in
    constant_added c.args.symbol.now rest c.args.numbers.now c.insert.new.self c.in-Some.name (to_z w128 (of_z w128 number)) number same
    c.in-Some.ensures c.in_ok-insert.ensures.updates are

pub returns-in_default : goal.returns-in_default
returns-in_default c = λ rest are.
    other_added c.args.symbol.now rest c.args.numbers.now (sym c.constant_in.ensures ∙ ap (option_map constant_seen) c.in_default.is) are
