use Rattle.std.proofs.Common.{◌∙◌, sym, ap, subst, arith, ◌-◌, ◌^◌, min, length, Err}
use Rattle.cv_names.specs.CvText.{CvSpells}
use Rattle.names.specs.Claims.{IsRead}
use Rattle.names.specs.Steps.{Stepped}
use Rattle.cv_names.specs.CvGrammar.{cv}
use Rattle.cv_names.proofs.CvWhole.{cv_names, cv_names_reader, cv_names_some}
use Rattle.names.proofs.Whole.{read_whole, left_over, stopped, got_shorter, bad_shorter, bad_at}
use Rattle.cv_names.proofs.read.read_cv.Goals as goal

pub bad_name-requires : goal.bad_name-requires
bad_name-requires c =
    let read = subst (λ r. Stepped ((cv 64).whole.read c.new-rest.result) r c.cv_whole.new.text) c.in-Ok.is c.cv_whole.ensures in
    let whole = ap (cv 64).whole.read (sym c.new-rest.ensures) ∙ read in
    omega (arith, c.len-else-len-eq0.ensures, got_shorter cv_names cv_names_reader tt cv_names_some c.args.text.now c.cv_whole.new.text c.in-Ok.name whole)

pub bad_name-requires-in-Err-Bad : goal.bad_name-requires-in-Err-Bad
bad_name-requires-in-Err-Bad c =
    let read = subst (λ r. Stepped ((cv 64).whole.read c.new-rest.result) r c.cv_whole.new.text)
    (c.in-Err-Bad.is ∙ ap Err c.in-Err-Bad.field-0-is) c.cv_whole.ensures in
    let whole = ap (cv 64).whole.read (sym c.new-rest.ensures) ∙ read in
    omega (arith, c.len-in-Err-Bad.ensures, bad_shorter cv_names cv_names_reader tt cv_names_some c.args.text.now c.cv_whole.new.text whole)

-- nothing is left: the whole text was read
pub returns-then-len-eq0 : goal.returns-then-len-eq0
returns-then-len-eq0 c =
    let read = subst (λ r. Stepped ((cv 64).whole.read c.new-rest.result) r c.cv_whole.new.text) c.in-Ok.is c.cv_whole.ensures in
    let whole = ap (cv 64).whole.read (sym c.new-rest.ensures) ∙ read in
    read_whole cv_names cv_names_reader tt cv_names_some c.args.text.now c.cv_whole.new.text c.in-Ok.name whole (sym c.len.ensures ∙ c.if-len-eq0.true)

-- something is left, where the text stops being one
pub returns-else-len-eq0 : goal.returns-else-len-eq0
returns-else-len-eq0 c =
    let read = subst (λ r. Stepped ((cv 64).whole.read c.new-rest.result) r c.cv_whole.new.text) c.in-Ok.is c.cv_whole.ensures in
    let whole = ap (cv 64).whole.read (sym c.new-rest.ensures) ∙ read in
    let left = left_over cv_names cv_names_reader tt cv_names_some c.args.text.now c.cv_whole.new.text c.in-Ok.name whole
    (λ e. c.if-len-eq0.false (c.len.ensures ∙ e)) in
    subst (λ r. IsRead CvSpells c.args.text.now (Err r)) (sym c.bad_name.ensures)
    (bad_at CvSpells c.args.text.now (length c.args.text.now - length c.cv_whole.new.text) _ left
    (ap (λ n. min (length c.args.text.now - n) (2 ^ 32 - 1)) c.len-else-len-eq0.ensures))

-- the reading stopped, where the text stops being one
pub returns-in-Err-Bad : goal.returns-in-Err-Bad
returns-in-Err-Bad c =
    let read = subst (λ r. Stepped ((cv 64).whole.read c.new-rest.result) r c.cv_whole.new.text)
    (c.in-Err-Bad.is ∙ ap Err c.in-Err-Bad.field-0-is) c.cv_whole.ensures in
    let whole = ap (cv 64).whole.read (sym c.new-rest.ensures) ∙ read in
    let left = stopped cv_names cv_names_reader tt cv_names_some c.args.text.now c.cv_whole.new.text whole in
    subst (λ r. IsRead CvSpells c.args.text.now (Err r)) (sym c.bad_name-in-Err-Bad.ensures)
    (bad_at CvSpells c.args.text.now (length c.args.text.now - length c.cv_whole.new.text) _ left
    (ap (λ n. min (length c.args.text.now - n) (2 ^ 32 - 1)) c.len-in-Err-Bad.ensures))
