-- The content, after its length.
use Rattle.std.proofs.Common.{◌<◌, ◌^◌, length, ap, ◌∙◌, arith}
use Rattle.rv_bytes.proofs.Puts.{on_ok}
use Rattle.cv_type_writer.specs.TypeBytes.{type_number}
use Rattle.cv_type_writer.proofs.TypePuts.{content_is, type_puts}
use Rattle.cv_type_writer.proofs.types.put_type.Goals as goal

pub returns-clause-appended : goal.returns-clause-appended
returns-clause-appended c =
    let kind = c.args.kind.now in
    let number : type_number kind < 256 ^ 2 = omega (arith, c.type_number.type_inv, c.type_number.ensures) in
    let content =
    content_is kind c.type_number.result _ c.new-content.result c.put_u16.new.out c.put_fields.new.out c.put_pads.new.out c.new-content.ensures c.type_number.ensures
    c.in_ok-put_u16.ensures.appended c.in_ok-put_fields.ensures (omega (arith, ap length c.as_bytes-len.ensures)) c.in_ok-put_pads.ensures in
    on_ok
    (λ e. type_puts kind c.as_bytes.result.now c.args.out.now c.put_record.new.out number (c.as_bytes.ensures ∙ content) c.requires.fits e c.put_u16.new.out c.put_fields.new.out c.in_ok-put_fields.ensures)
    c.put_record.result c.put_record.ensures.appended
