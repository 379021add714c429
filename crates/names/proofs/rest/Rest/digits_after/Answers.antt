use Rattle.std.proofs.Common.{◌∙◌, sym, ap}
use Rattle.names.specs.Reading.{digits_after}
use Rattle.names.proofs.Scans.{digits_more, digits_end}
use Rattle.names.proofs.rest.Rest.digits_after.Goals as goal

pub loop-next-preserved : goal.loop-next-preserved
loop-next-preserved c =
    ap (digits_after c.args.most c.in-Some.next) c.skip.ensures
    ∙ sym (digits_more c.args.most c.loop-next.number c.in-Some.next c.loop-next.self (sym c.grown.ensures ∙ c.in-Some.is)).0 ∙ c.loop-next.invariant

pub returns : goal.returns
returns c = sym c.loop-next.invariant ∙ digits_end c.args.most c.loop-next.number c.loop-next.self (sym c.grown.ensures ∙ c.in_default.is)
