use Rattle.std.proofs.Common.{[], ◌∷◌, Err}
use Rattle.std.proofs.lemmas.Result.{err_from_is_err_and}
use Rattle.layout_set.specs.Law1.{Law1}
use Rattle.layout_set.specs.Law2.{Law2}
use Rattle.layout_set.specs.Law3.{Law3}
use Rattle.layout_set.specs.Law4.{Law4}
use Rattle.layout_set.specs.Law5.{Law5}
use Rattle.layout_set.specs.Law6.{Law6}
use Rattle.layout_set.specs.FirstBreach.{Numbered}
use Rattle.layout_set.specs.Laws.{sound_laws}
use Rattle.layout_set.specs.declared.set.Set.{Set}
use Rattle.std.specs.Prelude.{List}
use Rattle.layout_set.proofs.Firsts.{go_on, stop, last}
use Rattle.layout_set.proofs.SizeSteps.{pointer_size}
use Rattle.layout_model.proofs.checks.check_sound_laws.Goals as goal

-- pointers have 8 bytes, by law 3
pub law_5-requires : goal.law_5-requires
law_5-requires c = pointer_size c.args.set.now c.in_ok-law_3.ensures

abbrev from6 : Set → List Numbered
from6 set = record { number = 6; law = Law6 set } ∷ []

abbrev from5 : Set → List Numbered
from5 set = record { number = 5; law = Law5 set } ∷ from6 set

abbrev from4 : Set → List Numbered
from4 set = record { number = 4; law = Law4 set } ∷ from5 set

abbrev from3 : Set → List Numbered
from3 set = record { number = 3; law = Law3 set } ∷ from4 set

abbrev from2 : Set → List Numbered
from2 set = record { number = 2; law = Law2 set } ∷ from3 set

abbrev from1 : Set → List Numbered
from1 set = record { number = 1; law = Law1 set } ∷ from2 set

pub returns-in_err-law_1 : goal.returns-in_err-law_1
unfolding sound_laws
returns-in_err-law_1 c =
    let set = c.args.set.now in
    let p = err_from_is_err_and c.from_residual.result c.from_residual.ensures.1 in
    let e = c.in_err-law_1.field-0.0 in
    rw (p.1, p.2) (stop set 1 (Law1 set) (from2 set) e c.in_err-law_1.ensures)

pub returns-in_err-law_2 : goal.returns-in_err-law_2
unfolding sound_laws
returns-in_err-law_2 c =
    let set = c.args.set.now in
    let p = err_from_is_err_and c.from_residual-in_err-law_2.result c.from_residual-in_err-law_2.ensures.1 in
    let e = c.in_err-law_2.field-0.0 in
    rw (p.1, p.2) (go_on set 1 (Law1 set) (from2 set) (Err e) c.in_ok-law_1.ensures (stop set 2 (Law2 set) (from3 set) e c.in_err-law_2.ensures))

pub returns-in_err-law_3 : goal.returns-in_err-law_3
unfolding sound_laws
returns-in_err-law_3 c =
    let set = c.args.set.now in
    let p = err_from_is_err_and c.from_residual-in_err-law_3.result c.from_residual-in_err-law_3.ensures.1 in
    let e = c.in_err-law_3.field-0.0 in
    rw (p.1, p.2) (go_on set 1 (Law1 set) (from2 set) (Err e) c.in_ok-law_1.ensures (go_on set 2 (Law2 set) (from3 set) (Err e) c.in_ok-law_2.ensures (stop set 3 (Law3 set) (from4 set) e c.in_err-law_3.ensures)))

pub returns-in_err-law_4 : goal.returns-in_err-law_4
unfolding sound_laws
returns-in_err-law_4 c =
    let set = c.args.set.now in
    let p = err_from_is_err_and c.from_residual-in_err-law_4.result c.from_residual-in_err-law_4.ensures.1 in
    let e = c.in_err-law_4.field-0.0 in
    rw (p.1, p.2) (go_on set 1 (Law1 set) (from2 set) (Err e) c.in_ok-law_1.ensures (go_on set 2 (Law2 set) (from3 set) (Err e) c.in_ok-law_2.ensures (go_on set 3 (Law3 set) (from4 set) (Err e) c.in_ok-law_3.ensures (stop set 4 (Law4 set) (from5 set) e c.in_err-law_4.ensures))))

pub returns-in_err-law_5 : goal.returns-in_err-law_5
unfolding sound_laws
returns-in_err-law_5 c =
    let set = c.args.set.now in
    let p = err_from_is_err_and c.from_residual-in_err-law_5.result c.from_residual-in_err-law_5.ensures.1 in
    let e = c.in_err-law_5.field-0.0 in
    rw (p.1, p.2) (go_on set 1 (Law1 set) (from2 set) (Err e) c.in_ok-law_1.ensures (go_on set 2 (Law2 set) (from3 set) (Err e) c.in_ok-law_2.ensures (go_on set 3 (Law3 set) (from4 set) (Err e) c.in_ok-law_3.ensures (go_on set 4 (Law4 set) (from5 set) (Err e) c.in_ok-law_4.ensures (stop set 5 (Law5 set) (from6 set) e c.in_err-law_5.ensures)))))

pub returns : goal.returns
unfolding sound_laws
returns c =
    let set = c.args.set.now in
    let r = c.law_6.result in
    (go_on set 1 (Law1 set) (from2 set) r c.in_ok-law_1.ensures (go_on set 2 (Law2 set) (from3 set) r c.in_ok-law_2.ensures (go_on set 3 (Law3 set) (from4 set) r c.in_ok-law_3.ensures (go_on set 4 (Law4 set) (from5 set) r c.in_ok-law_4.ensures (go_on set 5 (Law5 set) (from6 set) r c.in_ok-law_5.ensures (last set 6 (Law6 set) r c.law_6.ensures))))))
