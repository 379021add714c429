use Rattle.std.proofs.Common.{◌∙◌, ap, subst, Err}
use Rattle.readers.specs.Lines.{CutAt}
use Rattle.layout_reader.specs.Heads.{version_of}
use Rattle.layout_words.specs.Steps.{Read}
use Rattle.layout_reader.proofs.HeadLaws.{version_says, version_breaks}
use Rattle.layout_reader.proofs.head.read_version.Goals as goal

pub refuse-requires : goal.refuse-requires
refuse-requires c =
    version_breaks c.in-Some.line.now (subst (Read (version_of c.in-Some.line.now)) (c.in-Err-Unfit.is ∙ ap Err c.in-Err-Unfit.field-0-is) c.version_of.ensures)

pub returns-in-Ok : goal.returns-in-Ok
returns-in-Ok c =
    let says = version_says c.in-Some.line.now (subst (Read (version_of c.in-Some.line.now)) c.in-Ok.is c.version_of.ensures) in
    subst (λ l. CutAt 10 c.args.bytes.now l c.in-Some.rest.now) says c.in-Some.ensures.cut
