-- A step leads lower, and what it leads to is put between the step's texts.
use Rattle.std.proofs.Common.{◌≡◌, ◌∙◌, sym, ap, ◌<◌, ◌++◌, length, take, arith}
use Rattle.std.proofs.lemmas.Result.{on_ok_weaker, on_err_weaker}
use Rattle.layout_derived.specs.DerivedTexts.{after}
use Rattle.layout_derived.proofs.Walk.{rank, falls, inner, of_step, front_before, within}
use Rattle.layout_derived.proofs.derived.+put_name.Goals as goal

pub put_own-requires-clause-within : goal.put_own-requires-clause-within
put_own-requires-clause-within t c = within c.args.types.now c.args.ty c.requires.named

pub put_name-requires : goal.put_name-requires
put_name-requires t c =
    let types = c.args.types.now in
    let step = c.in-Some.step in
    let leads = sym c.step_of.ensures ∙ c.in-Some.is in
    let lower : rank types step.to < rank types c.args.ty = falls types c.args.ty step c.requires.ordered leads in
    (omega (arith, lower), (inner types c.args.ty step leads c.requires.named, c.requires.ordered))

pub returns-in_ok-put_name-in-Some-clause-put : goal.returns-in_ok-put_name-in-Some-clause-put
returns-in_ok-put_name-in-Some-clause-put t c =
    let types = c.args.types.now in
    let step = c.in-Some.step in
    let old = c.args.out.now in
    let leads = sym c.step_of.ensures ∙ c.in-Some.is in
    let inside = c.put_name.new.out in
    let opened = c.in_ok-put-in-Some.ensures.appended ∙ ap (λ t. old ++ t) c.before-in-Some.ensures in
    let last = c.put_after.new.out in
    on_ok_weaker c.put_after.result
    (λ (closed : last ≡ inside ++ after step.around).
    of_step types c.args.ty step old c.put.new.self inside last leads opened c.in_ok-put_name-in-Some.ensures.put closed)
    c.put_after.ensures.put

pub returns-in_ok-put_name-in-Some-clause-front : goal.returns-in_ok-put_name-in-Some-clause-front
returns-in_ok-put_name-in-Some-clause-front t c =
    let to = c.in-Some.step.to in
    let old = c.args.out.now in
    let inside = c.put_name.new.out in
    let last = c.put_after.new.out in
    let before = c.in_ok-put-in-Some.ensures.appended in
    on_err_weaker c.put_after.result
    (λ (kept : take (length inside) last ≡ inside).
    front_before c.args.types.now to old c.put.new.self inside last c.before-in-Some.result.now before c.in_ok-put_name-in-Some.ensures.put kept)
    c.put_after.ensures.front
