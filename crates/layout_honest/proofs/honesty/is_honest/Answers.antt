use Rattle.std.proofs.Common.{◌≡◌, subst}
use Rattle.std.specs.List.{All}
use Rattle.layout_set.specs.Law5.{HasFitNumbers, Law5}
use Rattle.layout_set.specs.Law7.{HasPartsApart, Law7}
use Rattle.layout_set.specs.Laws.{sound_laws, further_laws}
use Rattle.layout_set.specs.Sizes.{AreSmall}
use Rattle.layout_set.proofs.Firsts.{each_type}
use Rattle.layout_set.proofs.SizeSteps.{are_small, pointer_size}
use Rattle.layout_honest.proofs.LeavesBack.{honest_decides}
use Rattle.layout_honest.proofs.honesty.is_honest.Goals as goal

pub are_honest-requires-clause-small : goal.are_honest-requires-clause-small
unfolding sound_laws
are_honest-requires-clause-small c =
    let set = c.args.set.now in
    rw c.as_slice.ensures (subst (λ ptr. AreSmall ptr set.types) (pointer_size set (c.requires 3)) (are_small set (c.requires 3)))

pub are_honest-requires-clause-apart : goal.are_honest-requires-clause-apart
unfolding sound_laws further_laws
are_honest-requires-clause-apart c =
    let set = c.args.set.now in
    let apart = each_type set (HasPartsApart set.target.ptr set.types) (Law7 set) (λ i h. h) (c.requires 7) in
    rw c.as_slice.ensures (subst (λ ptr. All (HasPartsApart ptr set.types) set.types) (pointer_size set (c.requires 3)) apart)

pub are_honest-requires-clause-fit : goal.are_honest-requires-clause-fit
unfolding sound_laws
are_honest-requires-clause-fit c =
    let set = c.args.set.now in
    let fit = each_type set (HasFitNumbers set.target.ptr) (Law5 set) (λ i h. h) (c.requires 5) in
    rw c.as_slice.ensures (subst (λ ptr. All (HasFitNumbers ptr) set.types) (pointer_size set (c.requires 3)) fit)

pub returns : goal.returns
unfolding sound_laws
returns c =
    let set = c.args.set.now in
    rw (c.are_honest.ensures, c.as_slice.ensures) (honest_decides set (c.requires 2) (pointer_size set (c.requires 3)))
