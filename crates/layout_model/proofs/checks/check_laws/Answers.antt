use Rattle.std.proofs.lemmas.Result.{err_from_is_err_and}
use Rattle.layout_set.specs.Laws.{sound_laws, further_laws}
use Rattle.layout_set.specs.Law5.{HasFitNumbers, Law5}
use Rattle.layout_set.proofs.Firsts.{both_rows, first_row, each_type}
use Rattle.layout_set.proofs.SizeSteps.{are_small, pointer_size}
use Rattle.layout_model.proofs.checks.check_laws.Goals as goal

pub check_further_laws-requires-clause-small : goal.check_further_laws-requires-clause-small
unfolding sound_laws
check_further_laws-requires-clause-small c = are_small c.args.set.now c.in_ok-check_sound_laws.ensures.1.1.0

pub check_further_laws-requires-clause-pointers : goal.check_further_laws-requires-clause-pointers
unfolding sound_laws
check_further_laws-requires-clause-pointers c = pointer_size c.args.set.now c.in_ok-check_sound_laws.ensures.1.1.0

pub check_further_laws-requires-clause-fit : goal.check_further_laws-requires-clause-fit
unfolding sound_laws
check_further_laws-requires-clause-fit c = each_type c.args.set.now (HasFitNumbers c.args.set.now.target.ptr) (Law5 c.args.set.now) (λ i h. h) c.in_ok-check_sound_laws.ensures.1.1.1.1.0

pub returns-in_err-check_sound_laws : goal.returns-in_err-check_sound_laws
returns-in_err-check_sound_laws c =
    let set = c.args.set.now in
    let p = err_from_is_err_and c.from_residual.result c.from_residual.ensures.1 in
    let e = c.in_err-check_sound_laws.field-0.0 in
    rw (p.1, p.2) (first_row set (sound_laws set) (further_laws set) e c.in_err-check_sound_laws.ensures)

pub returns : goal.returns
returns c =
    let set = c.args.set.now in
    both_rows set (sound_laws set) (further_laws set) c.check_further_laws.result c.in_ok-check_sound_laws.ensures c.check_further_laws.ensures
