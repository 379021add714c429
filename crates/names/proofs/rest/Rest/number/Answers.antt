use Rattle.std.proofs.Common.{◌∙◌, sym, ap, subst, Some}
use Rattle.names.specs.Reading.{digits_after}
use Rattle.names.specs.Steps.{Stepped}
use Rattle.names.proofs.Scans.{number_none, number_zero, number_more}
use Rattle.names.proofs.rest.Rest.number.Goals as goal

pub returns-in-None : goal.returns-in-None
returns-in-None c = number_none c.args.zeroed c.args.most c.args.self.now (sym c.digit.ensures ∙ c.in-None.is)

pub returns-in-Some-eq0 : goal.returns-in-Some-eq0
returns-in-Some-eq0 c =
    let zero = sym c.digit.ensures ∙ c.in-Some-eq0.is ∙ ap Some c.in-Some-eq0.field-0-test in
    subst (λ r. Stepped r c.zero.result c.zero.new.self) (sym (number_zero c.args.zeroed c.args.most c.args.self.now zero)) c.zero.ensures

pub returns-in-Some : goal.returns-in-Some
returns-in-Some c =
    let most = c.args.most in
    number_more c.args.zeroed most c.in-Some.digit c.args.self.now (sym c.digit.ensures ∙ c.in-Some.is) c.in-Some.digit-test.1
    ∙ ap (digits_after most c.in-Some.digit) (sym c.skip.ensures) ∙ ap (λ n. digits_after most n c.skip.new.self) (sym c.from.ensures) ∙ c.digits_after.ensures
