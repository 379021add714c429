use Rattle.std.proofs.Common.{[], ◌∷◌, Err}
use Rattle.std.proofs.lemmas.Result.{err_from_is_err_and}
use Rattle.layout_set.specs.Law7.{Law7}
use Rattle.layout_set.specs.Law8.{Law8}
use Rattle.layout_set.specs.Law9.{Law9}
use Rattle.layout_set.specs.Law10.{Law10}
use Rattle.layout_set.specs.Law11.{Law11}
use Rattle.layout_set.specs.Law12.{Law12}
use Rattle.layout_set.specs.Law13.{Law13}
use Rattle.layout_set.specs.Law14.{Law14}
use Rattle.layout_set.specs.FirstBreach.{Numbered}
use Rattle.layout_set.specs.Laws.{further_laws}
use Rattle.layout_set.specs.declared.set.Set.{Set}
use Rattle.std.specs.Prelude.{List}
use Rattle.layout_set.proofs.Firsts.{go_on, stop, last}
use Rattle.layout_model.proofs.checks.check_further_laws.Goals as goal

abbrev from14 : Set → List Numbered
from14 set = record { number = 14; law = Law14 set } ∷ []

abbrev from13 : Set → List Numbered
from13 set = record { number = 13; law = Law13 set } ∷ from14 set

abbrev from12 : Set → List Numbered
from12 set = record { number = 12; law = Law12 set } ∷ from13 set

abbrev from11 : Set → List Numbered
from11 set = record { number = 11; law = Law11 set } ∷ from12 set

abbrev from10 : Set → List Numbered
from10 set = record { number = 10; law = Law10 set } ∷ from11 set

abbrev from9 : Set → List Numbered
from9 set = record { number = 9; law = Law9 set } ∷ from10 set

abbrev from8 : Set → List Numbered
from8 set = record { number = 8; law = Law8 set } ∷ from9 set

abbrev from7 : Set → List Numbered
from7 set = record { number = 7; law = Law7 set } ∷ from8 set

pub returns-in_err-law_7 : goal.returns-in_err-law_7
unfolding further_laws
returns-in_err-law_7 c =
    let set = c.args.set.now in
    let p = err_from_is_err_and c.from_residual.result c.from_residual.ensures.1 in
    let e = c.in_err-law_7.field-0.0 in
    rw (p.1, p.2) (stop set 7 (Law7 set) (from8 set) e c.in_err-law_7.ensures)

pub returns-in_err-law_8 : goal.returns-in_err-law_8
unfolding further_laws
returns-in_err-law_8 c =
    let set = c.args.set.now in
    let p = err_from_is_err_and c.from_residual-in_err-law_8.result c.from_residual-in_err-law_8.ensures.1 in
    let e = c.in_err-law_8.field-0.0 in
    rw (p.1, p.2) (go_on set 7 (Law7 set) (from8 set) (Err e) c.in_ok-law_7.ensures (stop set 8 (Law8 set) (from9 set) e c.in_err-law_8.ensures))

pub returns-in_err-law_9 : goal.returns-in_err-law_9
unfolding further_laws
returns-in_err-law_9 c =
    let set = c.args.set.now in
    let p = err_from_is_err_and c.from_residual-in_err-law_9.result c.from_residual-in_err-law_9.ensures.1 in
    let e = c.in_err-law_9.field-0.0 in
    rw (p.1, p.2) (go_on set 7 (Law7 set) (from8 set) (Err e) c.in_ok-law_7.ensures (go_on set 8 (Law8 set) (from9 set) (Err e) c.in_ok-law_8.ensures (stop set 9 (Law9 set) (from10 set) e c.in_err-law_9.ensures)))

pub returns-in_err-law_10 : goal.returns-in_err-law_10
unfolding further_laws
returns-in_err-law_10 c =
    let set = c.args.set.now in
    let p = err_from_is_err_and c.from_residual-in_err-law_10.result c.from_residual-in_err-law_10.ensures.1 in
    let e = c.in_err-law_10.field-0.0 in
    rw (p.1, p.2) (go_on set 7 (Law7 set) (from8 set) (Err e) c.in_ok-law_7.ensures (go_on set 8 (Law8 set) (from9 set) (Err e) c.in_ok-law_8.ensures (go_on set 9 (Law9 set) (from10 set) (Err e) c.in_ok-law_9.ensures (stop set 10 (Law10 set) (from11 set) e c.in_err-law_10.ensures))))

pub returns-in_err-law_11 : goal.returns-in_err-law_11
unfolding further_laws
returns-in_err-law_11 c =
    let set = c.args.set.now in
    let p = err_from_is_err_and c.from_residual-in_err-law_11.result c.from_residual-in_err-law_11.ensures.1 in
    let e = c.in_err-law_11.field-0.0 in
    rw (p.1, p.2) (go_on set 7 (Law7 set) (from8 set) (Err e) c.in_ok-law_7.ensures (go_on set 8 (Law8 set) (from9 set) (Err e) c.in_ok-law_8.ensures (go_on set 9 (Law9 set) (from10 set) (Err e) c.in_ok-law_9.ensures (go_on set 10 (Law10 set) (from11 set) (Err e) c.in_ok-law_10.ensures (stop set 11 (Law11 set) (from12 set) e c.in_err-law_11.ensures)))))

pub returns-in_err-law_12 : goal.returns-in_err-law_12
unfolding further_laws
returns-in_err-law_12 c =
    let set = c.args.set.now in
    let p = err_from_is_err_and c.from_residual-in_err-law_12.result c.from_residual-in_err-law_12.ensures.1 in
    let e = c.in_err-law_12.field-0.0 in
    rw (p.1, p.2) (go_on set 7 (Law7 set) (from8 set) (Err e) c.in_ok-law_7.ensures (go_on set 8 (Law8 set) (from9 set) (Err e) c.in_ok-law_8.ensures (go_on set 9 (Law9 set) (from10 set) (Err e) c.in_ok-law_9.ensures (go_on set 10 (Law10 set) (from11 set) (Err e) c.in_ok-law_10.ensures (go_on set 11 (Law11 set) (from12 set) (Err e) c.in_ok-law_11.ensures (stop set 12 (Law12 set) (from13 set) e c.in_err-law_12.ensures))))))

pub returns-in_err-law_13 : goal.returns-in_err-law_13
unfolding further_laws
returns-in_err-law_13 c =
    let set = c.args.set.now in
    let p = err_from_is_err_and c.from_residual-in_err-law_13.result c.from_residual-in_err-law_13.ensures.1 in
    let e = c.in_err-law_13.field-0.0 in
    rw (p.1, p.2) (go_on set 7 (Law7 set) (from8 set) (Err e) c.in_ok-law_7.ensures (go_on set 8 (Law8 set) (from9 set) (Err e) c.in_ok-law_8.ensures (go_on set 9 (Law9 set) (from10 set) (Err e) c.in_ok-law_9.ensures (go_on set 10 (Law10 set) (from11 set) (Err e) c.in_ok-law_10.ensures (go_on set 11 (Law11 set) (from12 set) (Err e) c.in_ok-law_11.ensures (go_on set 12 (Law12 set) (from13 set) (Err e) c.in_ok-law_12.ensures (stop set 13 (Law13 set) (from14 set) e c.in_err-law_13.ensures)))))))

pub returns : goal.returns
unfolding further_laws
returns c =
    let set = c.args.set.now in
    let r = c.law_14.result in
    (go_on set 7 (Law7 set) (from8 set) r c.in_ok-law_7.ensures (go_on set 8 (Law8 set) (from9 set) r c.in_ok-law_8.ensures (go_on set 9 (Law9 set) (from10 set) r c.in_ok-law_9.ensures (go_on set 10 (Law10 set) (from11 set) r c.in_ok-law_10.ensures (go_on set 11 (Law11 set) (from12 set) r c.in_ok-law_11.ensures (go_on set 12 (Law12 set) (from13 set) r c.in_ok-law_12.ensures (go_on set 13 (Law13 set) (from14 set) r c.in_ok-law_13.ensures (last set 14 (Law14 set) r c.law_14.ensures))))))))
