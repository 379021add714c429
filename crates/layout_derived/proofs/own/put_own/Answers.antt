-- The name of a primitive, or that of the type at the place.
use Rattle.std.proofs.Common.{◌≡◌, ◌∙◌, sym, ap, subst, ◌<◌, ◌++◌, length, None, OnOk}
use Rattle.std.proofs.lemmas.Result.{on_ok_weaker}
use Rattle.layout_set.specs.Law1.{IsWithin}
use Rattle.layout_derived.specs.DerivedTexts.{AppendsDerived, step_of}
use Rattle.layout_derived.proofs.Walk.{of_primitive, of_own}
use Rattle.layout_derived.proofs.own.put_own.Goals as goal

pub bounds-types-i : goal.bounds-types-i
bounds-types-i c = subst (IsWithin (length c.args.types.now)) c.in-User.is c.requires.within

pub returns-in-Prim-clause-put : goal.returns-in-Prim-clause-put
returns-in-Prim-clause-put c =
    let types = c.args.types.now in
    let old = c.args.out.now in
    let new = c.put.new.self in
    subst (λ ty. OnOk c.put.result (AppendsDerived types ty old new)) (sym c.in-Prim.is)
    (on_ok_weaker c.put.result
    (λ (e : new ≡ old ++ c.prim_word.result.now). of_primitive types c.in-Prim.prim old new (e ∙ ap (λ t. old ++ t) c.prim_word.ensures))
    c.put.ensures.appended)

pub returns-in-User-clause-put : goal.returns-in-User-clause-put
returns-in-User-clause-put c =
    let types = c.args.types.now in
    let old = c.args.out.now in
    let new = c.put_own_name.new.out in
    let there : c.in-User.i < length types = subst (IsWithin (length types)) c.in-User.is c.requires.within in
    let last = subst (λ ty. step_of types ty ≡ None) c.in-User.is c.requires.last in
    subst (λ ty. OnOk c.put_own_name.result (AppendsDerived types ty old new)) (sym c.in-User.is)
    (on_ok_weaker c.put_own_name.result (of_own types c.in-User.i c.index-types-i.result old new there c.index-types-i.is last)
    c.put_own_name.ensures.put)
