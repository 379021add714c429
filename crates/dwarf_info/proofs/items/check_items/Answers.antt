use Rattle.std.proofs.Common.{◌≡◌, None, refl, subst}
use Rattle.std.proofs.lemmas.Result.{err_from_is_err_and}
use Rattle.dwarf_entries.specs.Items.{first_fault}
use Rattle.dwarf_entries.specs.PassB.{pass_b}
use Rattle.dwarf_entries.specs.PassC.{pass_c}
use Rattle.dwarf_items.specs.Answers.{IsFault}
use Rattle.dwarf_items.proofs.Faults.{err_first, ok_first}
use Rattle.dwarf_info.proofs.items.check_items.Goals as goal

pub returns-in_err-check_attributes : goal.returns-in_err-check_attributes
returns-in_err-check_attributes c =
    let p = err_from_is_err_and c.from_residual.result c.from_residual.ensures.1 in
    let info = c.args.links.now in
    rw (p.1, p.2) (err_first _ (pass_b info) (pass_c info) _ refl (subst (λ i. IsFault (first_fault (pass_b i)) c.in_err-check_attributes.field-0.0) c.dies.ensures c.in_err-check_attributes.ensures))

pub returns : goal.returns
returns c =
    let info = c.args.links.now in
    ok_first _ (pass_b info) (pass_c info) c.check_entries.result refl (subst (λ i. first_fault (pass_b i) ≡ None) c.dies.ensures c.in_ok-check_attributes.ensures) c.check_entries.ensures
