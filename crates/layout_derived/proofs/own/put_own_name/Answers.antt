-- What is put for a function is the text of its name.
use Rattle.std.proofs.Common.{◌≡◌, ◌∙◌, ◌++◌, sym, ap, subst, codes, OnOk}
use Rattle.std.specs.Prelude.{IfSome}
use Rattle.std.proofs.lemmas.Result.{on_ok_weaker}
use Rattle.type_names.specs.RustText.{rust_text}
use Rattle.layout_set.specs.DerivedNames.{own_name}
use Rattle.layout_derived.proofs.Texts.{function_text}
use Rattle.layout_derived.proofs.own.put_own_name.Goals as goal

pub returns-in-FnPtr-clause-put : goal.returns-in-FnPtr-clause-put
returns-in-FnPtr-clause-put c =
    let old = c.args.out.now in
    let new = c.put.new.self in
    subst (λ def. OnOk c.put.result (IfSome (own_name def) (λ name. new ≡ old ++ rust_text name))) (sym c.in-FnPtr.is)
    (on_ok_weaker c.put.result (λ (e : new ≡ old ++ codes "fn()"). e ∙ ap (λ t. old ++ t) (sym function_text)) c.put.ensures.appended)
