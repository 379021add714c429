use Rattle.std.proofs.Common.{◌∙◌, ap, subst, Err}
use Rattle.readers.specs.Lines.{CutAt}
use Rattle.layout_reader.specs.Heads.{target_of}
use Rattle.layout_words.specs.Steps.{Read}
use Rattle.layout_reader.proofs.HeadLaws.{target_says, target_breaks}
use Rattle.layout_reader.proofs.head.read_target.Goals as goal

pub refuse-requires : goal.refuse-requires
refuse-requires c =
    target_breaks c.in-Some.line.now (subst (Read (target_of c.in-Some.line.now)) (c.in-Err-Unfit.is ∙ ap Err c.in-Err-Unfit.field-0-is) c.target_of.ensures)

pub returns-in-Ok : goal.returns-in-Ok
returns-in-Ok c =
    let says = target_says c.in-Some.line.now c.in-Ok.ptr (subst (Read (target_of c.in-Some.line.now)) c.in-Ok.is c.target_of.ensures) in
    (says.1, subst (λ l. CutAt 10 c.args.bytes.now l c.in-Some.rest.now) says.0 c.in-Some.ensures.cut)
