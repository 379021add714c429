use Rattle.std.proofs.Common.{◌≡◌, ℕ, ◌+◌, List, length, drop, sym, ap, ◌∙◌, arith}
use Rattle.std.proofs.lemmas.List.{at_drop_more, at_drop_all}
use Rattle.dwarf_dies.specs.Handles.{DieIn}
use Rattle.dwarf_names.specs.Scopes.{text_of}
use Rattle.dwarf_names.proofs.JoinedTexts.{cost, long_last, long_then}
use Rattle.dwarf_names.proofs.name.is_long.Goals as goal

pub returns-then-size-left : goal.returns-then-size-left
returns-then-size-left c =
    let scopes = c.args.scopes.now in
    let i = c.loop-scope.scope-index in
    let left = cost (drop (i + 1) scopes) in
    let step : cost (drop i scopes) ≡ (length c.own_text.result.now + 2) + left =
    at_drop_more cost scopes i c.scope-item.result c.loop-scope-test.true
    ∙ ap (λ (s : DieIn). (length (text_of s) + 2) + left) (sym c.scope-item.is)
    ∙ ap (λ (t : List ℕ). (length t + 2) + left) (sym c.own_text.ensures) in
    long_then scopes c.args.own.now (omega (arith, step, c.loop-scope.invariant, c.if-size-left.true))

pub returns : goal.returns
returns c =
    long_last c.args.scopes.now c.args.own.now c.loop-scope.left
    (omega (arith, c.loop-scope.invariant, at_drop_all cost c.args.scopes.now c.loop-scope.scope-index (omega arith)))
