use Rattle.std.proofs.Common.{◌≡◌, ◌<◌, ◌++◌, [], ◌∷◌, List, true, false, Option, Some, sym, ap, subst, ◌∙◌}
use Rattle.dwarf_dies.specs.Handles.{DieIn}
use Rattle.dwarf_entries.specs.Tags.{is_named_scope, passes}
use Rattle.dwarf_names.specs.Scopes.{is_scope, scopes_around}
use Rattle.dwarf_names.proofs.ScopeSteps.{fewer, from_first, one_added, one_passed, scopes_from, steps_from}
use Rattle.dwarf_names.proofs.scopes.scopes_around.Goals as goal

pub loop-next-init : goal.loop-next-init
loop-next-init c =
    ap (λ (l : List DieIn). l ++ scopes_from c.parent-next.result) c.new-scopes.ensures ∙ ap scopes_from c.parent-next.ensures ∙ from_first c.args.die.now

pub loop-next-smaller-in-Continue-1 : goal.loop-next-smaller-in-Continue-1
loop-next-smaller-in-Continue-1 c =
    let up = c.in-Some.up in
    subst (λ (n : Option DieIn). steps_from c.parent-next-in-Some.result < steps_from n) (sym c.in-Some.is)
    (subst (λ (n : Option DieIn). steps_from n < steps_from (Some up)) (sym c.parent-next-in-Some.ensures) (fewer up))

pub loop-next-preserved-in-Continue-1 : goal.loop-next-preserved-in-Continue-1
loop-next-preserved-in-Continue-1 c =
    let up = c.in-Some.up in
    let found : is_scope up.die ≡ true = ap (passes is_named_scope) (sym c.what.ensures) ∙ sym c.is_named_scope.ensures ∙ c.if-is_named_scope.true in
    ap (λ (l : List DieIn). l ++ scopes_from c.parent-next-in-Some.result) c.in_ok-push.ensures.last
    ∙ ap (λ (n : Option DieIn). (c.loop-next.scopes ++ up ∷ []) ++ scopes_from n) c.parent-next-in-Some.ensures
    ∙ one_added c.loop-next.scopes (scopes_around c.args.die.now) up found
    (ap (λ (n : Option DieIn). c.loop-next.scopes ++ scopes_from n) (sym c.in-Some.is) ∙ c.loop-next.invariant)

pub loop-next-smaller : goal.loop-next-smaller
loop-next-smaller c =
    let up = c.in-Some.up in
    subst (λ (n : Option DieIn). steps_from c.parent-next-in-Some.result < steps_from n) (sym c.in-Some.is)
    (subst (λ (n : Option DieIn). steps_from n < steps_from (Some up)) (sym c.parent-next-in-Some.ensures) (fewer up))

pub loop-next-preserved : goal.loop-next-preserved
loop-next-preserved c =
    let up = c.in-Some.up in
    let found : is_scope up.die ≡ false = ap (passes is_named_scope) (sym c.what.ensures) ∙ sym c.is_named_scope.ensures ∙ c.if-is_named_scope.false in
    ap (λ (n : Option DieIn). c.loop-next.scopes ++ scopes_from n) c.parent-next-in-Some.ensures
    ∙ one_passed c.loop-next.scopes (scopes_around c.args.die.now) up found
    (ap (λ (n : Option DieIn). c.loop-next.scopes ++ scopes_from n) (sym c.in-Some.is) ∙ c.loop-next.invariant)
