-- The readers' words carry over from the places on, since they are exact.
use Rattle.std.proofs.Common.{subst, sym}
use Rattle.rv_bytes.specs.Places.{Place}
use Rattle.rv_bytes.specs.Results.{ReadsBy}
use Rattle.rv_bytes.specs.declared.err.DwErr.{DwErr}
use Rattle.rv_bytes.specs.Rules.{outside}
use Rattle.dwarf_lists.specs.Texts.{HasNoText}
use Rattle.rv_bytes.specs.NumberReaders.{read_text}
use Rattle.dwarf_lists.proofs.Indexed.{no_offset, has_text, has_no_text}
use Rattle.dwarf_lists.proofs.texts.indexed_text.Goals as goal

pub returns-in_default-clause-refused : goal.returns-in_default-clause-refused
returns-in_default-clause-refused c =
    subst (λ at. HasNoText c.args.offsets.now c.args.base c.args.index c.args.texts.now (DwErr.Refused at outside)) (sym c.offset_place.ensures)
    (no_offset c.args.offsets.now c.args.base c.args.index c.args.texts.now c.in_default.ensures.nowhere)

pub returns-clause-text : goal.returns-clause-text
returns-clause-text c =
    let P : Place → Type 0 = λ q. ReadsBy (λ v. v.now) (read_text q.at q.rest) c.read_text.result c.read_text.new.cut in
    has_text (λ v. v.now) c.args.offsets.now c.args.base c.args.index c.args.texts.now c.in-Some.offset c.in-Some.ensures.stands c.if-place-texts.false c.read_text.new.cut c.read_text.result (subst P c.from_place-cut.ensures c.read_text.ensures.reads)

pub returns-clause-refused : goal.returns-clause-refused
returns-clause-refused c =
    let P : Place → Type 0 = λ q. ReadsBy (λ v. v.now) (read_text q.at q.rest) c.read_text.result c.read_text.new.cut in
    has_no_text (λ v. v.now) c.args.offsets.now c.args.base c.args.index c.args.texts.now c.in-Some.offset c.in-Some.ensures.stands c.if-place-texts.false c.read_text.new.cut c.read_text.result (subst P c.from_place-cut.ensures c.read_text.ensures.reads)
